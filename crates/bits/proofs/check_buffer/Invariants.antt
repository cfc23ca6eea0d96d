use Rattle.std.proofs.Common.{◌≡◌, ℕ, ◌<◌, ◌≤◌, false}
use Rattle.bits.specs.Bits.{bit_at}
use Rattle.bits.proofs.check_buffer.Given as goal

abbrev pub invariant-loop-j : goal.invariant-loop-j
invariant-loop-j l = (i : ℕ) → l.n ≤ i → i < l.j → bit_at 8 l.buffer i ≡ false
