use Rattle.std.proofs.Common.{Ok, sym, ap, ◌∙◌, subst, ◌+◌, ◌/◌}
use Rattle.bits.specs.Bits.{Buffer}
use Rattle.galois.specs.Model.{units}
use Rattle.bch.specs.Calls.{Encoded}
use Rattle.bch.proofs.Refusing.{encode-done}
use Rattle.bch.proofs.encoder.encode.Goals as goal

pub returns : goal.returns
returns g c =
    let given = c.args.«data».now in
    let before = c.args.row.now in
    let after = c.lay.new.row in
    let code = c.in_ok-code.code in
    let e = c.in_ok-code.ensures in
    let n = c.row_cells.ensures ∙ ap (λ f. units (g.F.Field.model f)) (sym e.0) in
    subst (λ t. Encoded {U = Unit {0}} (g.F.Field.model c.args.f.now) t given before after (Ok tt)) e.1
    (subst (λ f. Encoded {U = Unit {0}} (g.F.Field.model f) code.t given before after (Ok tt)) e.0
    (encode-done (g.F.Field.model code.field.now) (g.F.Field.lawful code.field.now) code.t code.few given before after
    c.generator.result c.remainder.result tt
    (c.if-row-bytes_for.false ∙ c.bytes_for.ensures ∙ ap (λ n. (n + 7) / 8) n) c.lay.auto.row
    (subst (λ k. Buffer k given) c.data_cells.ensures c.in_ok-check_buffer.ensures) c.generator.ensures.bits c.remainder.ensures c.lay.ensures))
