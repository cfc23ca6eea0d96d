use Rattle.std.proofs.Common.{◌*◌, ap, ◌∙◌}
use lib.Bits.{bit_and, bit_xor}
use Rattle.field.proofs.Reduced.{carried, uncarried}
use Rattle.field.proofs.shift.ShiftField.times_alpha.Goals as goal
use Rattle.field.proofs.shift.ShiftField.times_alpha.Goals.{then-a-self-eq1, else-a-self-eq1}

pub returns : goal.returns
returns c =
    let m = c.args.self.now.m in
    let n = c.from.result in
    let mask = c.from.ensures ∙ c.units.ensures in
    elim c.if-a-self-eq1.branch [
      | then-a-self-eq1 w ↦
          ap (λ z. bit_and z n) (w.reduced-is ∙ ap (λ z. bit_xor (z * 2) w.reducing_polynomial.result) c.from-doubled.ensures)
          ∙ carried m n mask c.args.a _ w.reducing_polynomial.ensures w.if-a-self-eq1.true
      | else-a-self-eq1 w ↦ ap (λ z. bit_and z n) (w.reduced-is ∙ ap (λ z. z * 2) c.from-doubled.ensures) ∙ uncarried m n mask c.args.a w.if-a-self-eq1.false
    ]
