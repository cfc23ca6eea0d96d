use Rattle.bch.proofs.Packing.{Packed}
use Rattle.bch.proofs.generator.packed.Given as goal

abbrev pub invariant-loop-bit : goal.invariant-loop-bit
invariant-loop-bit l = Packed l.coefficients l.bit-iterator.iter.rest.now l.all
