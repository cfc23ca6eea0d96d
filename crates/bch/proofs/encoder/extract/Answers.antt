use Rattle.std.proofs.Common.{◌≡◌, ◌+◌, ◌/◌, false, cond, eqb, ltb, Ok, sym, ap, ◌∙◌, subst, ap₂, arith}
use Rattle.bits.specs.Bits.{bit_at, Buffer}
use Rattle.galois.specs.Model.{units}
use Rattle.bch.specs.Calls.{Extracted}
use Rattle.bch.proofs.Laying.{below_put}
use Rattle.bch.proofs.Refusing.{extract-done}
use Rattle.bch.proofs.encoder.extract.Goals as goal

pub loop-j-preserved : goal.loop-j-preserved
loop-j-preserved g c = λ i.
    let l = c.loop-j in
    c.in_ok-put_bit.ensures.1 i
    ∙ ap₂ (cond (eqb i l.j)) c.in_ok-bit.ensures.1 (l.invariant i)
    ∙ below_put (λ i. bit_at 8 c.args.row.now (c.from-r.result + i)) l.j i

pub returns : goal.returns
returns g c =
    let row = c.args.row.now in
    let before = c.args.«data».now in
    let after = c.loop-j.«data» in
    let code = c.in_ok-code.code in
    let e = c.in_ok-code.ensures in
    let l = c.loop-j in
    let end : l.j ≡ c.from-j-end.result = omega arith in
    let n = c.row_cells.ensures ∙ ap (λ f. units (g.F.Field.model f)) (sym e.0) in
    subst (λ t. Extracted {U = Unit {0}} (g.F.Field.model c.args.f.now) t row before after (Ok tt)) e.1
    (subst (λ f. Extracted {U = Unit {0}} (g.F.Field.model f) code.t row before after (Ok tt)) e.0
    (extract-done (g.F.Field.model code.field.now) (g.F.Field.lawful code.field.now) code.t code.few row before after tt
    (c.if-data-bytes_for.false ∙ c.bytes_for.ensures ∙ ap (λ n. (n + 7) / 8) c.data_cells-k.ensures) (l.auto.«data» ∙ c.clear.auto.buffer)
    (subst (λ n. Buffer n row) n c.in_ok-check_buffer.ensures)
    (λ i. l.invariant i ∙ ap₂ (λ k r. cond (ltb i k) (bit_at 8 row (r + i)) false)
    (end ∙ c.from-j-end.ensures ∙ c.data_cells-k.ensures) (c.from-r.ensures ∙ c.check_cells.ensures.value))))
