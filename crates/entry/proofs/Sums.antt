-- The exact sum of a blend lies between the two entries, in 65536ths.
use Rattle.std.proofs.Common.{◌≡◌, ℕ, suc, ◌≤◌, ℤ, pos, negsuc, ◌+ℤ◌, ◌-ℤ◌, ◌*ℤ◌, refl, mul-le-mul_left, arith, lit<, w16, w64, SFits}
use Rattle.std.proofs.lemmas.Int.{ints, clamps}
use Rattle.entry.specs.Rounding.{nearest}
use Rattle.entry.specs.Interpolation.{blended, Between}
use Rattle.entry.proofs.Law.{rounds}

-- with the difference of the two entries named, its part f / 65536 lies between none and all of it
between_ends : (x y : ℤ) (f : ℕ) → f ≤ 65536 → (d : ℤ) → y -ℤ x ≡ d → Between (x *ℤ pos 65536) (y *ℤ pos 65536) (x *ℤ pos 65536 +ℤ d *ℤ pos f)
between_ends x y f h (pos n) e = let l = mul-le-mul_left n h in (omega (arith, ints, clamps), omega (arith, ints, clamps))
between_ends x y f h (negsuc n) e = let l = mul-le-mul_left (suc n) h in (omega (arith, ints, clamps), omega (arith, ints, clamps))

module _ (x y : ℤ) (f : ℕ) (h : f ≤ 65536) where
  pub sum_between : Between (x *ℤ pos 65536) (y *ℤ pos 65536) (blended x y f)
  sum_between = between_ends x y f h (y -ℤ x) refl

  pub nearest-between : Between x y (nearest (blended x y f) 65536)
  nearest-between =
      let b = sum_between in
      let n = (rounds (blended x y f) 65536 (lit< tt)).near in
      (omega (arith, ints, clamps), omega (arith, ints, clamps))

  module _ (X : SFits w16 x) (Y : SFits w16 y) where
    pub sum_fits : SFits w64 (blended x y f)
    sum_fits = let b = sum_between in omega (arith, ints, clamps)

    pub step_fits : SFits w64 ((y -ℤ x) *ℤ pos f)
    step_fits = let b = sum_between in omega (arith, ints, clamps)

    pub nearest-fits : SFits w16 (nearest (blended x y f) 65536)
    nearest-fits = let b = nearest-between in omega (arith, ints, clamps)
