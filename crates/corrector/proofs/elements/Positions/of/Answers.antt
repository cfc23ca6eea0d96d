use Rattle.std.proofs.Common.{refl, arith}
use Rattle.galois.specs.Model.{power}
use Rattle.corrector.proofs.elements.Positions.of.Goals as goal

pub invariant_of-result : goal.invariant_of-result
unfolding power
invariant_of-result g c = record { placed = refl; within = omega arith }
