use Rattle.std.proofs.Common.{◌≡◌, ℕ, ◌+◌, false, cond, ltb}
use Rattle.bits.specs.Bits.{bit_at}
use Rattle.bch.proofs.encoder.extract.Given as goal

abbrev pub invariant-loop-j : goal.invariant-loop-j
invariant-loop-j g l = (i : ℕ) → bit_at 8 l.«data» i ≡ cond (ltb i l.j) (bit_at 8 l.row (l.r + i)) false
