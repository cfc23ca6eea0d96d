use Rattle.std.proofs.Common.{◌+◌, ◌*◌, sym, subst}
use Rattle.bch.proofs.Packing.{Packed, pack_last}
use Rattle.bch.proofs.generator.packed.Goals as goal

pub loop-bit-preserved : goal.loop-bit-preserved
loop-bit-preserved c =
    let xs = c.args.coefficients.now in
    let rest = c.next.new.self.iter.rest.now in
    let l = c.loop-bit in
    subst (λ b. Packed xs rest (2 * l.all + b)) (sym c.from.ensures)
    (pack_last xs rest c.in-Some.bit.now l.all c.requires.bits (subst (λ r. Packed xs r l.all) c.in-Some.ensures.steps l.invariant))
