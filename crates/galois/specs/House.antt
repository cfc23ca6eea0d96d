-- The house fields: the polynomials over 0 and 1 of degree below m, bit i of a number for x ^ i, reduced by one polynomial for each m.
use Rattle.std.specs.Prelude.{◌≡◌, ℕ, zero, suc, ◌-◌, ◌*◌, ◌/◌, ◌%◌, ◌^◌, ◌<◌, ◌≤◌, cond, ◌==◌, bit_xor}
use Rattle.galois.specs.Model.{FieldModel, FieldLaws, size, power}

-- the degrees that fit
abbrev pub Fit : ℕ → Type 0
Fit m = (4 ≤ m) × (m ≤ 8)

-- d is the degree that is taken where m is asked for: m itself if it fits, else 4
pub record Taken (m d : ℕ) : Type 0 where
  pub fitting : Fit m → d ≡ m
  pub unfit : (Fit m → ⊥) → d ≡ 4

-- the reducing polynomial of degree m, bit i for x ^ i
abbrev pub reducer : ℕ → ℕ
reducer m = cond (m == 4) 0x13 (cond (m == 5) 0x25 (cond (m == 6) 0x43 (cond (m == 7) 0x89 0x11D)))

-- p where the bit b is set, else 0
abbrev pub pick : ℕ → ℕ → ℕ
pick zero p = 0
pick (suc b) p = p

-- a times x: where x ^ m comes up, the rest of the reducing polynomial takes its place
unfoldable pub shift : ℕ → ℕ → ℕ
shift m a = bit_xor ((a * 2) % 2 ^ m) (pick (a / 2 ^ (m - 1) % 2) (reducer m % 2 ^ m))

-- the sum of b * x ^ i over the set bits i < k of a
unfoldable pub product : ℕ → ℕ → ℕ → ℕ → ℕ
product m zero a b = 0
product m (suc k) a b = bit_xor (pick (a % 2) b) (product m k (a / 2) (shift m b))

-- the house field of degree m
abbrev pub house : ℕ → FieldModel
house m = record { m = m; add = bit_xor; mul = product m m; alpha = 2 }

-- F is the field of polynomials modulo the reducing one, with x for alpha: sums go bit by bit, the number 2 ^ i is alpha ^ i, and alpha is
-- a root of the reducing polynomial (alpha ^ m is the sum of its other terms)
pub record PolynomialField (F : FieldModel) : Type 0 where
  pub sums : (a b : ℕ) → a < size F → b < size F → F.add a b ≡ bit_xor a b
  pub bits : (i : ℕ) → i < F.m → power F i ≡ 2 ^ i
  pub root : power F F.m ≡ reducer F.m % 2 ^ F.m

-- two fields have the same elements, sums and products and the same alpha
pub record Alike (F G : FieldModel) : Type 0 where
  pub degree : F.m ≡ G.m
  pub alpha : F.alpha ≡ G.alpha
  pub add : (a b : ℕ) → a < size F → b < size F → F.add a b ≡ G.add a b
  pub mul : (a b : ℕ) → a < size F → b < size F → F.mul a b ≡ G.mul a b

-- the house fields are lawful, they are the polynomials modulo the reducing one, and nothing else lawful is
pub record HouseField (m : ℕ) : Type 0 where
  pub lawful : FieldLaws (house m)
  pub polynomial : PolynomialField (house m)
  pub only : (F : FieldModel) → FieldLaws F → PolynomialField F → F.m ≡ m → Alike F (house m)
