use Rattle.std.proofs.Common.{◌≡◌, ◌+◌, ◌*◌, ◌^◌, sym, refl, ap, ◌∙◌, subst, add-zero, pow-suc, add-one, arith, get_or, length, replicate, [], length-set}
use Rattle.std.proofs.lemmas.Nat.{one_shl}
use Rattle.std.proofs.lemmas.List.{get_or-replicate}
use Rattle.galois.specs.House.{house, shift}
use Rattle.galois.specs.Model.{power}
use Rattle.field.specs.Syndromes.{plus}
use Rattle.field.proofs.ByteTables.{Filled, fill_zero_byte, fill_byte}
use Rattle.field.proofs.Summed.{none}
use Rattle.field.proofs.Turns.{power-next}
use Rattle.field.proofs.byte_sums.byte_sums.Goals as goal

pub loop-sums-init : goal.loop-sums-init
unfolding power
loop-sums-init c = (refl, refl, (λ q h. absurd (omega arith)), λ q h inside. get_or-replicate 32 q (replicate 256 none) [] inside)

pub loop-j-init : goal.loop-j-init
loop-j-init c =
    let l = c.loop-sums in
    let m = c.args.base.now.m in
    let q = l.sums-index in
    let made = l.invariant.3 q (omega arith) (omega arith) in (
      ap length made,
      l.invariant.1 ∙ ap (power (house m)) (sym (add-zero (8 * q))),
      subst (λ s. Filled m q s 1) (sym made) (fill_zero_byte m q),
    )

pub loop-low-preserved : goal.loop-low-preserved
loop-low-preserved c =
    let l = c.loop-low in
    let j = c.loop-j.j in
    let high = one_shl j 64 (omega arith) in (
      simp length-set l.invariant.0,
      fill_byte c.args.base.now.m c.loop-sums.sums-index j _ l.low c.loop-j.x _ l.sums c.args.base.now.fit c.loop-j-test.true
          high c.loop-low-test.true l.invariant.0 c.loop-j.invariant.1
          (c.plus.ensures ∙ ap (plus (get_or l.sums l.low none)) c.turned-turn.ensures) l.invariant.1,
    )

pub loop-j-preserved : goal.loop-j-preserved
loop-j-preserved c =
    let m = c.args.base.now.m in
    let q = c.loop-sums.sums-index in
    let j = c.loop-j.j in
    let l = c.loop-low in
    let high = one_shl j 64 (omega arith) in
    let up : 8 * q + j + 1 ≡ 8 * q + (j + 1) = omega arith in
    let double : 2 ^ (j + 1) ≡ 2 ^ j * 2 = ap (λ n. 2 ^ n) (add-one j) ∙ pow-suc 2 j in (
      l.invariant.0,
      c.times_alpha-x.ensures ∙ ap (shift m) c.loop-j.invariant.1 ∙ power-next m (8 * q + j) c.args.base.now.fit ∙ ap (power (house m)) up,
      subst (Filled m q l.sums) (omega arith) l.invariant.1,
    )
