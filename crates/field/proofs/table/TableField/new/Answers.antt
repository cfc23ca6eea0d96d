use Rattle.std.proofs.Common.{◌≡◌, ℕ, ◌+◌, ◌-◌, ◌^◌, ◌<◌, get_or, set, sym, refl, ap, ap₂, ◌∙◌, subst, arith, length-set}
use Rattle.galois.specs.House.{house, shift}
use Rattle.galois.specs.Model.{power}
use Rattle.field.proofs.Turns.{power-next}
use Rattle.field.proofs.Lookups.{power-byte, fill_first, fill_second, fill-exponents, fill_zero}
use Rattle.field.proofs.table.TableField.new.Goals as goal

pub loop-p-init : goal.loop-p-init
unfolding power
loop-p-init c =
    (refl, refl, refl, λ q h. absurd (omega arith), λ q h. absurd (omega arith), λ q h. absurd (omega arith), c.units-n.ensures)

pub bounds-exponents-from : goal.bounds-exponents-from
bounds-exponents-from c =
    subst (λ z. z < 256) (sym (c.from-in-loop-p-3.ensures ∙ c.loop-p.invariant.0)) (power-byte c.new-base.result.m c.loop-p.p c.new-base.result.fit)

pub loop-p-preserved : goal.loop-p-preserved
loop-p-preserved c =
    let m = c.new-base.result.m in
    let fit = c.new-base.result.fit in
    let n = c.units-n.result in
    let l = c.loop-p in
    let i = l.invariant in
    let en : n ≡ 2 ^ m - 1 = c.units-n.ensures in
    let lt : l.p < 2 ^ m - 1 = omega arith in
    let second = ap₂ (λ p n. p + n) c.from-in-loop-p.ensures c.from-in-loop-p-2.ensures in
    let stored = λ (q : ℕ). ap₂ (λ k s. get_or (set (set l.powers k l.y) s l.y) q 0) c.from.ensures second in
    let found = λ (x : ℕ). ap (λ y. get_or (set l.exponents y l.p) x 0) c.from-in-loop-p-3.ensures in (
      c.times_alpha-y.ensures ∙ ap (shift m) i.0 ∙ power-next m l.p fit,
      simp length-set i.1,
      simp length-set i.2,
      (λ q h. stored q ∙ fill_first m l.p l.y fit lt i.0 n en l.powers i.1 i.3 q h),
      (λ q h. stored (q + n) ∙ fill_second m l.p l.y fit lt i.0 n en l.powers i.1 i.4 q h),
      (λ q h. found (power (house m) q) ∙ fill-exponents m l.p l.y fit lt i.0 l.exponents i.2 i.5 q h),
      found 0 ∙ fill_zero m l.p l.y fit lt i.0 l.exponents i.6,
    )
