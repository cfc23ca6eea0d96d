use Rattle.std.proofs.Common.{◌-◌, ◌∙◌, ap, arith}
use Rattle.field.proofs.Lookups.{inverse_at}
use Rattle.field.proofs.table.TableFieldField.inverse.Goals as goal

pub overflow_sub-units : goal.overflow_sub-units
overflow_sub-units c =
    let e = c.element.ensures in
    let ne = c.if-element-eq0.false in
    let lt = (c.exponent.ensures.at_unit (omega arith)).0 in
    omega (arith, c.units.ensures)

pub returns : goal.returns
returns c =
    let s = c.args.self.now in
    inverse_at s.base.m s.powers s.exponents s.base.fit s.tied _ c.exponent.result c.from.result c.exponent.ensures
    (λ z. c.if-element-eq0.false (c.element.ensures ∙ z)) (c.from.ensures ∙ ap (λ n. n - c.exponent.result) c.units.ensures)
