use Rattle.std.proofs.Common.{◌-◌, ◌%◌, ◌^◌, ◌<◌, sym, ap, ◌∙◌, subst, arith}
use Rattle.galois.specs.House.{house}
use Rattle.galois.specs.Model.{power, IsInverse, elem}
use Rattle.galois.proofs.House.{house-laws}
use Rattle.galois.proofs.Laws.{inverse_of, inverse_zero}
use Rattle.field.proofs.shift.ShiftFieldField.inverse.Goals as goal

pub returns-then-element-eq0 : goal.returns-then-element-eq0
returns-then-element-eq0 c =
    let m = c.args.self.now.m in
    inverse_zero (house m) (house-laws m c.args.self.now.fit) _ (sym c.element.ensures ∙ c.if-element-eq0.true)

pub returns : goal.returns
returns c =
    let m = c.args.self.now.m in
    let a = elem (house m) c.args.a in
    let e = c.element.ensures in
    let ne = c.if-element-eq0.false in
    let pos : 0 < c.args.a % 2 ^ m = omega arith in
    subst (IsInverse (house m) a)
    (sym (c.power.ensures ∙ ap (λ n. power (house m) (n - c.exponent.result)) c.units.ensures))
    (inverse_of (house m) (house-laws m c.args.self.now.fit) a c.exponent.result c.exponent.ensures pos)
