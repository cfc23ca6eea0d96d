use Rattle.std.proofs.Common.{◌≡◌, ◌-◌, ◌/◌, ◌^◌, refl}
use Rattle.galois.proofs.HouseRing.{each}
use Rattle.field.proofs.shift.ShiftField.units.Goals as goal

pub returns : goal.returns
returns c = each (λ m. 255 / 2 ^ (8 - m) ≡ 2 ^ m - 1) refl refl refl refl refl c.args.self.now.m c.args.self.now.fit
