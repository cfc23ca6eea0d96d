use Rattle.std.proofs.Common.{◌+◌, ◌<◌, arith, subst, sym, ◌∙◌}
use Rattle.std.proofs.lemmas.List.{get_or-take, length-take-le}
use Rattle.bch.proofs.CodeRows.{coefficient-lt}
use Rattle.bch.proofs.code.Code.generator.Goals as goal

pub packed-requires-clause-bits : goal.packed-requires-clause-bits
packed-requires-clause-bits g c = λ i lt.
    let code = c.args.self.now in
    let within = c.check_cells.ensures.within in
    let count = c.from.ensures in
    let inside : i < c.from.result + 1 = subst (λ n. i < n) (length-take-le (c.from.result + 1) c.coefficients.result (omega arith)) lt in
    subst (λ z. z < 2) (sym (get_or-take (c.from.result + 1) c.coefficients.result i 0 inside ∙ c.coefficients.ensures i (omega arith)))
    (coefficient-lt (g.F.Field.model code.field.now) (g.F.Field.lawful code.field.now) code.t code.few i)
