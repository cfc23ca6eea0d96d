use Rattle.std.proofs.Common.{get_or, sym, ◌∙◌, subst, mod-lt, pow_pos}
use Rattle.galois.specs.House.{house}
use Rattle.galois.specs.Model.{IsExponent, elem}
use Rattle.field.proofs.Lookups.{exponent-at}
use Rattle.field.proofs.table.TableFieldField.exponent.Goals as goal

pub returns : goal.returns
returns c =
    let s = c.args.self.now in
    let m = s.base.m in
    let x = elem (house m) c.args.a in
    subst (λ z. IsExponent (house m) x (get_or s.exponents z 0)) (sym (c.from.ensures ∙ c.element.ensures))
    (exponent-at m s.powers s.exponents s.base.fit s.tied x (mod-lt c.args.a (pow_pos m)))
