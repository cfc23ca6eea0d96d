use Rattle.std.proofs.Common.{◌≡◌, ℕ, false, cond, ltb}
use Rattle.bits.specs.Bits.{bit_of, bit_at}
use Rattle.bch.specs.Steps.{laid}
use Rattle.bch.proofs.code.Code.lay.Given as goal

-- the check cells below j, then the data cells below r + j
abbrev pub invariant-loop-j : goal.invariant-loop-j
invariant-loop-j g l = (i : ℕ) → bit_at 8 l.row i ≡ cond (ltb i l.j) (bit_of l.check i) false

abbrev pub invariant-loop-j-2 : goal.invariant-loop-j-2
invariant-loop-j-2 g l = (i : ℕ) → bit_at 8 l.row i ≡ laid l.check l.r l.«data» l.j i
