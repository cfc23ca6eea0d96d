-- What is meant by a field here: 2 ^ m elements, numbered from 0, with their sums and products and one element alpha whose powers are
-- all that is not zero; and the laws that make it a field of characteristic 2.
use Rattle.std.specs.Prelude.{◌≡◌, ℕ, zero, suc, ◌-◌, ◌%◌, ◌^◌, ◌<◌, ◌≤◌}

-- the meaning of a field: its degree m, the sum and the product of any two elements, and alpha; 0 is zero and 1 is one
pub record FieldModel : Type 0 where
  pub m : ℕ
  pub add : ℕ → ℕ → ℕ
  pub mul : ℕ → ℕ → ℕ
  pub alpha : ℕ

-- how many elements there are
abbrev pub size : FieldModel → ℕ
size F = 2 ^ F.m

-- how many of them are not zero: n, the length of a row
abbrev pub units : FieldModel → ℕ
units F = 2 ^ F.m - 1

-- the element that a number is read as
abbrev pub elem : FieldModel → ℕ → ℕ
elem F a = a % 2 ^ F.m

-- the sum and the product of what two numbers are read as
abbrev pub sum_of : FieldModel → ℕ → ℕ → ℕ
sum_of F a b = F.add (elem F a) (elem F b)

abbrev pub product-of : FieldModel → ℕ → ℕ → ℕ
product-of F a b = F.mul (elem F a) (elem F b)

-- alpha ^ p
unfoldable pub power : FieldModel → ℕ → ℕ
power F zero = 1
power F (suc p) = F.mul F.alpha (power F p)

-- the laws of a commutative ring in which every element is its own negative
pub record RingLaws (F : FieldModel) : Type 0 where
  pub add_lt : (a b : ℕ) → a < size F → b < size F → F.add a b < size F
  pub add_comm : (a b : ℕ) → a < size F → b < size F → F.add a b ≡ F.add b a
  pub add_assoc : (a b c : ℕ) → a < size F → b < size F → c < size F → F.add (F.add a b) c ≡ F.add a (F.add b c)
  pub add_zero : (a : ℕ) → a < size F → F.add a 0 ≡ a
  pub add_self : (a : ℕ) → a < size F → F.add a a ≡ 0
  pub mul_lt : (a b : ℕ) → a < size F → b < size F → F.mul a b < size F
  pub mul_comm : (a b : ℕ) → a < size F → b < size F → F.mul a b ≡ F.mul b a
  pub mul_assoc : (a b c : ℕ) → a < size F → b < size F → c < size F → F.mul (F.mul a b) c ≡ F.mul a (F.mul b c)
  pub mul_one : (a : ℕ) → a < size F → F.mul a 1 ≡ a
  pub mul_add : (a b c : ℕ) → a < size F → b < size F → c < size F → F.mul a (F.add b c) ≡ F.add (F.mul a b) (F.mul a c)

-- each element that is not zero is exactly one of alpha ^ 0 to alpha ^ (n - 1), and then they come round to 1 again
pub record PowerLaws (F : FieldModel) : Type 0 where
  pub alpha_lt : F.alpha < size F
  pub some : (a : ℕ) → 0 < a → a < size F → (p : ℕ) × (p < units F) × (power F p ≡ a)
  pub once : (p q : ℕ) → p < units F → q < units F → power F p ≡ power F q → p ≡ q
  pub turn : power F (units F) ≡ 1

-- a lawful field: m is 4 to 8, and the laws hold. Inverses follow from the powers
pub record FieldLaws (F : FieldModel) : Type 0 where
  pub low : 4 ≤ F.m
  pub high : F.m ≤ 8
  pub ring : RingLaws F
  pub powers : PowerLaws F

-- r is the inverse of the element a: a * r is one; for zero it is zero
pub record IsInverse (F : FieldModel) (a r : ℕ) : Type 0 where
  pub below : r < size F
  pub at_zero : a ≡ 0 → r ≡ 0
  pub at_unit : 0 < a → F.mul a r ≡ 1

-- r is the exponent of the element a: a is alpha ^ r, r below n; for zero it is n
pub record IsExponent (F : FieldModel) (a r : ℕ) : Type 0 where
  pub at_zero : a ≡ 0 → r ≡ units F
  pub at_unit : 0 < a → (r < units F) × (power F r ≡ a)
