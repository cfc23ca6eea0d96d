-- The figures of the code: cells of a row, and how many of them are check cells.
use Rattle.std.proofs.Common.{◌≡◌, ℕ, ◌-◌, ◌/◌, ◌^◌, ◌<◌, ◌≤◌, refl, arith, pow_mono}
use Rattle.galois.specs.House.{Fit}
use Rattle.galois.specs.Model.{FieldModel, FieldLaws, units}
use Rattle.galois.proofs.HouseRing.{each}

pub mask-units : (m : ℕ) → Fit m → 255 / 2 ^ (8 - m) ≡ 2 ^ m - 1
mask-units = each (λ m. 255 / 2 ^ (8 - m) ≡ 2 ^ m - 1) refl refl refl refl refl

module _ (F : FieldModel) (l : FieldLaws F) where
  pub units_lt : units F < 256
  units_lt = let h = l.high in let w : 2 ^ F.m ≤ 2 ^ 8 = pow_mono h in omega arith

  pub units-pos : 0 < units F
  units-pos = let h = l.low in let w : 2 ^ 4 ≤ 2 ^ F.m = pow_mono h in omega arith
