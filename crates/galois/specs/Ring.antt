-- Commutative rings and fields of characteristic 2 over any type K: the operations, and the laws over them. The theory of the code is
-- told here once; the elements of every lawful field are such a K.
use Rattle.std.specs.Prelude.{◌≡◌, ℕ, zero, suc, Bool, true, ◌≢◌, ◌⊎◌}
use Rattle.galois.specs.Model.{FieldModel}

-- zero, one, sum and product
pub record Ops (K : Type 0) : Type 0 where
  pub o : K
  pub e : K
  pub add : K → K → K
  pub mul : K → K → K

pub record Ring2 {K : Type 0} (P : Ops K) : Type 0 where
  pub add_assoc : (a b c : K) → P.add (P.add a b) c ≡ P.add a (P.add b c)
  pub add_comm : (a b : K) → P.add a b ≡ P.add b a
  pub add_zero : (a : K) → P.add a P.o ≡ a
  pub add_self : (a : K) → P.add a a ≡ P.o
  pub mul_assoc : (a b c : K) → P.mul (P.mul a b) c ≡ P.mul a (P.mul b c)
  pub mul_comm : (a b : K) → P.mul a b ≡ P.mul b a
  pub mul_one : (a : K) → P.mul a P.e ≡ a
  pub distrib : (a b c : K) → P.mul a (P.add b c) ≡ P.add (P.mul a b) (P.mul a c)

-- no divisors of zero, 1 is not 0, and a test for 0: all that the theory asks of a field
pub record Field2 {K : Type 0} (P : Ops K) (is0 : K → Bool) : Type 0 where
  pub ring : Ring2 P
  pub no_divisors : (a b : K) → P.mul a b ≡ P.o → (a ≡ P.o) ⊎ (b ≡ P.o)
  pub one_is_not_zero : P.e ≢ P.o
  pub zero_passes : is0 P.o ≡ true
  pub passes_zero : (a : K) → is0 a ≡ true → a ≡ P.o

-- x ^ n
abbrev pub pow : {K : Type 0} (P : Ops K) → K → ℕ → K
pow P x zero = P.e
pow P x (suc n) = P.mul x (pow P x n)

-- the operations of a field, at numbers
abbrev pub numbers : FieldModel → Ops ℕ
numbers F = record { o = 0; e = 1; add = F.add; mul = F.mul }
