-- The casts to 64 bits lose nothing, so the code adds what `blended` adds.
use Rattle.std.proofs.Common.{◌≡◌, ◌≤◌, ℤ, pos, ◌+ℤ◌, ◌-ℤ◌, ◌*ℤ◌, sym, ◌∙◌, subst, arith, w64, SFits, to_z, of_z}
use Rattle.std.proofs.lemmas.Int.{ints, to_z-of_z}
use Rattle.entry.specs.Interpolation.{blended}
use Rattle.entry.proofs.Sums.{step_fits, sum_fits}
use Rattle.entry.proofs.interpolation.exact_sum.Goals as goal

module _ (c : goal.After-from-4) where
  abbrev wide : ℤ → ℤ
  wide z = to_z w64 (of_z w64 z)

  below : c.args.fraction ≤ 65536
  below = omega arith

  -- the step times the fraction, as the code has it
  product : wide (wide c.from.result -ℤ wide c.from-2.result) *ℤ wide c.from-4.result ≡ (c.args.next -ℤ c.args.entry) *ℤ pos c.args.fraction
  product =
      let s : wide (wide c.from.result -ℤ wide c.from-2.result) ≡ c.args.next -ℤ c.args.entry = omega (arith, ints) in
      let f : wide c.from-4.result ≡ pos c.args.fraction = omega (arith, ints) in
      λ i. s i *ℤ f i

  product-fits : SFits w64 ((c.args.next -ℤ c.args.entry) *ℤ pos c.args.fraction)
  product-fits = step_fits c.args.entry c.args.next c.args.fraction below c.ranges.entry c.ranges.next

  -- the whole sum
  sum : wide (wide c.from-3.result *ℤ pos 65536) +ℤ wide (wide (wide c.from.result -ℤ wide c.from-2.result) *ℤ wide c.from-4.result) ≡ blended c.args.entry c.args.next c.args.fraction
  sum =
      let e : wide (wide c.from-3.result *ℤ pos 65536) ≡ c.args.entry *ℤ pos 65536 = omega (arith, ints) in
      let p : wide (wide (wide c.from.result -ℤ wide c.from-2.result) *ℤ wide c.from-4.result) ≡ (c.args.next -ℤ c.args.entry) *ℤ pos c.args.fraction = (λ i. wide (product i)) ∙ to_z-of_z w64 _ product-fits in
      λ i. e i +ℤ p i

  fits : SFits w64 (blended c.args.entry c.args.next c.args.fraction)
  fits = sum_fits c.args.entry c.args.next c.args.fraction below c.ranges.entry c.ranges.next

pub overflow_add-result : goal.overflow_add-result
overflow_add-result c = subst (SFits w64) (sym (sum c)) (fits c)

pub returns : goal.returns
returns c = (λ i. to_z w64 (of_z w64 (sum c i))) ∙ to_z-of_z w64 _ (fits c)
