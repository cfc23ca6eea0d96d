use Rattle.std.proofs.Common.{◌≡◌, ℕ, ◌+◌, ◌*◌, ◌^◌, ◌<◌, ◌≤◌, [], length, replicate, get_or}
use Rattle.galois.specs.House.{house}
use Rattle.galois.specs.Model.{power}
use Rattle.field.proofs.ByteTables.{Filled}
use Rattle.field.proofs.Summed.{none}
use Rattle.field.proofs.byte_sums.byte_sums.Given as goal

-- the rows so far are filled, the others are as they were made
abbrev pub invariant-loop-sums : goal.invariant-loop-sums
invariant-loop-sums l =
    (length l.sums-items ≡ 32)
    × (l.x ≡ power (house l.base.m) (8 * l.sums-index))
    × ((q : ℕ) → q < l.sums-index → Filled l.base.m q (get_or l.sums-items q []) 256)
    × ((q : ℕ) → l.sums-index ≤ q → q < 32 → get_or l.sums-items q [] ≡ replicate 256 none)

abbrev pub invariant-loop-j : goal.invariant-loop-j
invariant-loop-j l =
    (length l.sums ≡ 256) × (l.x ≡ power (house l.base.m) (8 * l.sums-index + l.j)) × Filled l.base.m l.sums-index l.sums (2 ^ l.j)

abbrev pub invariant-loop-low : goal.invariant-loop-low
invariant-loop-low l = (length l.sums ≡ 256) × Filled l.base.m l.sums-index l.sums (l.high + l.low)
