-- The error locator: the polynomial whose roots among the powers of alpha are the positions of the errors.
use Rattle.std.specs.Prelude.{◌≡◌, ℕ, zero, suc, ◌<◌, ◌≤◌, Bool, ◌≢◌, List, length}
use Rattle.galois.specs.Model.{FieldModel, size, units, power}
use Rattle.galois.specs.Ring.{Ops, pow, numbers}
use Rattle.galois.specs.Sums.{D2}
use Rattle.galois.specs.Rows.{cell_of, syndrome, distance, Near}

module _ {K : Type 0} (P : Ops K) where
  open P use {o, e, add, mul}

  -- x ^ 3 + r1 * x ^ 2 + r2 * x + r3
  abbrev pub cubic : K → K → K → K → K
  cubic r1 r2 r3 x = add (mul (add (mul (add x r1) x) r2) x) r3

  -- r2 and r3 are the lower coefficients of the locator for the power sums S_1, S_3 and S_5 of at least one and at most t errors; the
  -- coefficient above them is S_1. For fewer than three errors it is the locator times a power of x
  abbrev pub Locates : ℕ → (s1 s3 s5 r2 r3 : K) → Type 0
  Locates zero s1 s3 s5 r2 r3 = Unit {0}
  Locates (suc zero) s1 s3 s5 r2 r3 = (r2 ≡ o) × (r3 ≡ o)
  Locates (suc (suc zero)) s1 s3 s5 r2 r3 = (s1 ≢ o → mul s1 r2 ≡ D2 P s1 s3) × (r3 ≡ o)
  Locates (suc (suc (suc t))) s1 s3 s5 r2 r3 =
      (D2 P s1 s3 ≡ o → (r2 ≡ o) × (r3 ≡ o))
      × (D2 P s1 s3 ≢ o → (mul (D2 P s1 s3) r2 ≡ add (mul (pow P s1 2) s3) s5) × (r3 ≡ add (D2 P s1 s3) (mul s1 r2)))

-- where a row differs from the code row near it, and only there, alpha ^ p is a root of the locator of its power sums
abbrev pub LocatorRoots : FieldModel → ℕ → Type 0
LocatorRoots F t =
    (row c : List Bool) → length row ≡ units F → Near F t row c → 1 ≤ distance row c
    → (r2 r3 : ℕ) → r2 < size F → r3 < size F → Locates (numbers F) t (syndrome F 1 row) (syndrome F 3 row) (syndrome F 5 row) r2 r3
    → (p : ℕ) → p < units F
    → (cubic (numbers F) (syndrome F 1 row) r2 r3 (power F p) ≡ 0 → cell_of row p ≢ cell_of c p)
    × (cell_of row p ≢ cell_of c p → cubic (numbers F) (syndrome F 1 row) r2 r3 (power F p) ≡ 0)
