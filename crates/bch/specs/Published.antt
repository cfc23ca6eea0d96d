-- The published definition of the code: its generator polynomial, and the systematic row by division. A polynomial over 0 and 1 is the
-- function that gives its coefficients, the lowest first; a row is the polynomial whose coefficients are its cells.
use Rattle.std.specs.Prelude.{◌≡◌, ℕ, zero, suc, ◌+◌, ◌<◌, ◌≤◌, Bool, true, false, cond, List}
use Rattle.bits.specs.Bits.{xor}
use Rattle.galois.specs.Model.{FieldModel, units}
use Rattle.galois.specs.Rows.{power_sum, cell_of, check_cells, data_cells}

-- x ^ i times g
abbrev pub shifted : ℕ → (ℕ → Bool) → ℕ → Bool
shifted zero g j = g j
shifted (suc i) g zero = false
shifted (suc i) g (suc j) = shifted i g j

-- q times g, q having k coefficients: the sum of x ^ i * g over the set coefficients i of q
unfoldable pub product : (ℕ → Bool) → (ℕ → Bool) → ℕ → ℕ → Bool
product q g zero j = false
product q g (suc k) j = xor (product q g k j) (cond (q k) (shifted k g j) false)

-- the polynomial p of k coefficients has the roots alpha, alpha ^ 2, .., alpha ^ (2t): its value at alpha ^ j is a power sum
abbrev pub Roots : FieldModel → ℕ → (ℕ → Bool) → ℕ → Type 0
Roots F t p k = (j : ℕ) → 1 ≤ j → j ≤ t + t → power_sum F j p k ≡ 0

-- g is the generator: the polynomial of lowest degree, n - k, that has these roots and is not zero
pub record IsGenerator (F : FieldModel) (t : ℕ) (g : ℕ → Bool) : Type 0 where
  pub leading : g (check_cells F.m t) ≡ true
  pub degree : (i : ℕ) → check_cells F.m t < i → g i ≡ false
  pub roots : Roots F t g (suc (check_cells F.m t))
  pub lowest : (p : ℕ → Bool) (k : ℕ) → k ≤ check_cells F.m t → Roots F t p k → (i : ℕ) → i < k → p i ≡ false

-- for the data d, the row is d * x ^ (n - k) plus the remainder of that on division by the generator
pub record ByDivision (F : FieldModel) (t : ℕ) (d row : List Bool) : Type 0 where
  pub generator : ℕ → Bool
  pub quotient : ℕ → Bool
  pub remainder : ℕ → Bool
  pub generates : IsGenerator F t generator
  pub smaller : (j : ℕ) → check_cells F.m t ≤ j → remainder j ≡ false
  pub divides : (j : ℕ) → j < units F
      → shifted (check_cells F.m t) (cell_of d) j ≡ xor (product quotient generator (data_cells F.m t) j) (remainder j)
  pub sum : (j : ℕ) → j < units F → cell_of row j ≡ xor (shifted (check_cells F.m t) (cell_of d) j) (remainder j)
