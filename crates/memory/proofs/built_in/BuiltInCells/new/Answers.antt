use Rattle.std.proofs.Common.{refl}
use Rattle.bits.proofs.Turning.{bit_at-zeros}
use Rattle.memory.proofs.built_in.BuiltInCells.new.Goals as goal

pub returns : goal.returns
returns c = record { zero = λ k h. bit_at-zeros 8 512 k; line = λ k h. refl }
