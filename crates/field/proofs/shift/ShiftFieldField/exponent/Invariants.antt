use Rattle.std.proofs.Common.{◌≡◌, ℕ, ◌<◌}
use Rattle.galois.specs.House.{house}
use Rattle.galois.specs.Model.{power}
use Rattle.field.proofs.shift.ShiftFieldField.exponent.Given as goal

abbrev pub invariant-loop-p : goal.invariant-loop-p
invariant-loop-p l =
    (l.y ≡ power (house l.self.m) l.p)
    × ((q : ℕ) → q < l.p → power (house l.self.m) q ≡ l.x → ⊥)
