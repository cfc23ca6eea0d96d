use Rattle.std.proofs.Common.{◌≡◌, ◌-◌, ◌^◌, ◌<◌, ◌≤◌}
use Rattle.bits.specs.Bits.{bit_at}
use Rattle.bch.specs.Steps.{register}
use Rattle.bch.proofs.code.Code.remainder.Given as goal

abbrev pub invariant-loop-s : goal.invariant-loop-s
invariant-loop-s g l =
    (l.s ≤ l.k) × (l.all < 2 ^ l.r) × (l.all ≡ register l.g l.r (bit_at 8 l.«data») l.s (l.k - l.s))
