use Rattle.std.proofs.Common.{◌≡◌, ◌+◌, ◌*◌, refl, ap, ◌∙◌, arith}
use Rattle.std.proofs.lemmas.Bool.{eq-eqb, ne_eqb}
use Rattle.bits.specs.Bits.{bit_at}
use Rattle.galois.specs.Model.{power}
use Rattle.galois.proofs.Powers.{next_power}
use Rattle.field.specs.Syndromes.{syndromes_of}
use Rattle.field.proofs.Summed.{sums_none, sums_set, sums_clear, bit_of-byte}
use Rattle.field.proofs.Field.syndromes.Goals as goal
use Rattle.field.proofs.Field.syndromes.Goals.{then-byte-i-eq1, else-byte-i-eq1}

pub loop-byte-init : goal.loop-byte-init
unfolding power
loop-byte-init g c = (sums_none (g.Self.Field.model c.args.self.now) (bit_at 8 c.args.row.now), refl)

pub loop-i-preserved : goal.loop-i-preserved
loop-i-preserved g c =
    let F = g.Self.Field.model c.args.self.now in
    let laws = g.Self.Field.lawful c.args.self.now in
    let row = c.args.row.now in
    let l = c.loop-i in
    let p = 8 * c.loop-byte.byte-index + l.i in
    let up : p + 1 ≡ 8 * c.loop-byte.byte-index + (l.i + 1) = omega arith in
    let here = bit_of-byte row c.loop-byte.byte-index l.i c.loop-i-test.true in (
      elim c.if-byte-i-eq1.branch [
        | then-byte-i-eq1 w ↦
            w.sums-is ∙ w.turned-sums.ensures
            ∙ sums_set F laws (bit_at 8 row) p l.sums l.x (here ∙ eq-eqb _ 1 w.if-byte-i-eq1.true) l.invariant.0 l.invariant.1
        | else-byte-i-eq1 w ↦
            w.sums-is ∙ l.invariant.0 ∙ sums_clear F laws (bit_at 8 row) p (here ∙ ne_eqb _ 1 w.if-byte-i-eq1.false)
      ]
          ∙ ap (syndromes_of F (bit_at 8 row)) up,
      next_power F laws c.alpha-alpha.result l.x c.mul-x.result p c.alpha-alpha.ensures l.invariant.1 c.mul-x.ensures ∙ ap (power F) up,
    )
