-- What holds in every lawful field.
use Rattle.std.specs.Prelude.{◌≡◌, ℕ, ◌+◌, ◌<◌, ◌⊎◌}
use Rattle.galois.specs.Model.{FieldModel, IsInverse, IsExponent, size, units, power}

pub record Consequences (F : FieldModel) : Type 0 where
  -- a product is zero only if a factor is
  pub no_divisors : (a b : ℕ) → a < size F → b < size F → F.mul a b ≡ 0 → (a ≡ 0) ⊎ (b ≡ 0)
  -- squaring goes through sums
  pub square_of_sum : (a b : ℕ) → a < size F → b < size F
      → F.mul (F.add a b) (F.add a b) ≡ F.add (F.mul a a) (F.mul b b)
  -- powers add, and come round after n
  pub power_of_sum : (p q : ℕ) → power F (p + q) ≡ F.mul (power F p) (power F q)
  pub power_comes_round : (p : ℕ) → power F (p + units F) ≡ power F p
  -- each element has one inverse and one exponent, so that the two questions have one answer each
  pub has_inverse : (a : ℕ) → a < size F → (r : ℕ) × IsInverse F a r
  pub one_inverse : (a r s : ℕ) → a < size F → IsInverse F a r → IsInverse F a s → r ≡ s
  pub has_exponent : (a : ℕ) → a < size F → (p : ℕ) × IsExponent F a p
  pub one_exponent : (a p q : ℕ) → IsExponent F a p → IsExponent F a q → p ≡ q
