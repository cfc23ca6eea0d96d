use Rattle.std.proofs.Common.{◌+◌, get_or, sym, ap, ◌∙◌, ap₂, mod-lt, pow_pos}
use Rattle.galois.specs.House.{house, product}
use Rattle.galois.specs.Model.{elem}
use Rattle.galois.proofs.House.{house-laws}
use Rattle.galois.proofs.Laws.{mul_zero, zero_mul}
use Rattle.field.proofs.Lookups.{product_at}
use Rattle.field.proofs.table.TableFieldField.mul.Goals as goal
use Rattle.field.proofs.table.TableFieldField.mul.Goals.{then-element-eq0-via-then-element-eq0, then-element-eq0-via-else-element-eq0+then-element-eq0-2}

pub returns-then-element-eq0 : goal.returns-then-element-eq0
returns-then-element-eq0 c =
    let m = c.args.self.now.base.m in
    let laws = house-laws m c.args.self.now.base.fit in
    let a = elem (house m) c.args.a in
    let b = elem (house m) c.args.b in
    elim c.then-element-eq0.branch [
      | then-element-eq0-via-then-element-eq0 w ↦
          sym (ap (λ k. product m m k b) (sym c.element.ensures ∙ w.if-element-eq0.true) ∙ zero_mul (house m) laws b (mod-lt c.args.b (pow_pos m)))
      | then-element-eq0-via-else-element-eq0+then-element-eq0-2 w ↦
          sym (ap (product m m a) (sym w.element-else-element-eq0.ensures ∙ w.if-element-eq0-2.true) ∙ mul_zero (house m) laws a (mod-lt c.args.a (pow_pos m)))
    ]

pub returns : goal.returns
returns c =
    let s = c.args.self.now in
    ap₂ (λ p q. get_or s.powers (p + q) 0) c.from.ensures c.from-2.ensures
    ∙ product_at s.base.m s.powers s.exponents s.base.fit s.tied _ _ c.exponent.result c.exponent-2.result c.exponent.ensures c.exponent-2.ensures
    (λ z. c.if-element-eq0.false (c.element.ensures ∙ z)) (λ z. c.if-element-eq0-2.false (c.element-else-element-eq0.ensures ∙ z))
