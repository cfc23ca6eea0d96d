-- The rounded sum lies between the two entries, so it fits their type.
use Rattle.std.proofs.Common.{◌≡◌, ◌≤◌, ℤ, sym, ◌∙◌, subst, arith, lit<, w16, w64, SFits, to_z, of_z}
use Rattle.std.proofs.lemmas.Int.{ints, to_z-of_z}
use Rattle.entry.specs.Rounding.{nearest, Rounds}
use Rattle.entry.specs.Interpolation.{blended, Between}
use Rattle.entry.proofs.Law.{rounds}
use Rattle.entry.proofs.Sums.{nearest-between, nearest-fits}
use Rattle.entry.proofs.interpolation.blend.Goals as goal

module _ (c : goal.After-nearest_quotient) where
  abbrev answer : ℤ
  answer = nearest (blended c.args.entry c.args.next c.args.fraction) 65536

  below : c.args.fraction ≤ 65536
  below = omega arith

  fits : SFits w16 answer
  fits = nearest-fits c.args.entry c.args.next c.args.fraction below c.ranges.entry c.ranges.next

  result_is : to_z w64 (of_z w64 c.nearest_quotient.result) ≡ answer
  result_is =
      let x = to_z-of_z w16 c.args.entry c.ranges.entry in
      let y = to_z-of_z w16 c.args.next c.ranges.next in
      let s : to_z w64 (of_z w64 c.exact_sum.result) ≡ c.exact_sum.result = omega (arith, ints) in
      let r : to_z w64 (of_z w64 c.nearest_quotient.result) ≡ c.nearest_quotient.result = omega (arith, ints) in
      r ∙ c.nearest_quotient.ensures ∙ (λ i. nearest (s i) 65536) ∙ (λ i. nearest (c.exact_sum.ensures i) 65536) ∙ (λ i. nearest (blended (x i) (y i) c.args.fraction) 65536)

pub overflow_cast-result : goal.overflow_cast-result
overflow_cast-result c = subst (SFits w16) (sym (result_is c)) (fits c)

pub returns : goal.returns
returns c =
    let a = (λ i. to_z w16 (of_z w16 (result_is c i))) ∙ to_z-of_z w16 _ (fits c) in
    record {
      value = a;
      law = subst (Rounds (blended c.args.entry c.args.next c.args.fraction) 65536) (sym a) (rounds (blended c.args.entry c.args.next c.args.fraction) 65536 (lit< tt));
      between = subst (Between c.args.entry c.args.next) (sym a) (nearest-between c.args.entry c.args.next c.args.fraction (below c));
    }
