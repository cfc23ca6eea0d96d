use Rattle.std.proofs.Common.{◌≡◌, ◌-◌, ◌%◌, ◌^◌}
use lib.Bits.{bit_xor}
use Rattle.galois.specs.House.{product}
use Rattle.field.proofs.shift.ShiftFieldField.mul.Given as goal

-- the sum so far, and what is left to add
abbrev pub invariant-loop : goal.invariant-loop
invariant-loop l =
    bit_xor l.sum (product l.self.m (l.self.m - l.counter) l.left l.by)
    ≡ product l.self.m l.self.m (l.a % 2 ^ l.self.m) (l.b % 2 ^ l.self.m)
