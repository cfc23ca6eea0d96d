-- Cells as elements 0 and 1 of a lawful field, and rows as polynomials over them.
use Rattle.std.proofs.Common.{◌≡◌, ℕ, zero, suc, ◌*◌, Bool, true, false, cond, eqb, ◌⊎◌, sym, refl, ap, ◌∙◌, ap₂, inl, inr, arith}
use Rattle.bits.specs.Bits.{xor}
use Rattle.galois.specs.Cosets.{exponent}
use Rattle.galois.specs.Model.{FieldModel, FieldLaws, units}
use Rattle.galois.specs.Polynomials.{value, generated}
use Rattle.galois.specs.Ring.{pow}
use Rattle.galois.specs.Rows.{power_sum}
use Rattle.galois.proofs.Solve.{mul_zero, zero_mul, one_mul, zero_add}
use Rattle.galois.proofs.Polynomials.{pow-mul}
use Rattle.galois.proofs.Generators.{root}
use Rattle.galois.proofs.Lift.{Element, ops, ring2, field2, number, alpha, turn, once, pow-power}
use Rattle.bch.specs.Steps.{coefficient}

module _ (F : FieldModel) (l : FieldLaws F) where
  -- a cell as an element
  abbrev pub bit_k : Bool → Element F
  bit_k true = (ops F l).e
  bit_k false = (ops F l).o

  pub bit_k_square : (b : Bool) → (ops F l).mul (bit_k b) (bit_k b) ≡ bit_k b
  bit_k_square true = one_mul (ring2 F l) (ops F l).e
  bit_k_square false = mul_zero (ring2 F l) (ops F l).o

  pub bit_k_xor : (a b : Bool) → bit_k (xor a b) ≡ (ops F l).add (bit_k a) (bit_k b)
  bit_k_xor true true = sym ((ring2 F l).add_self (ops F l).e)
  bit_k_xor true false = sym ((ring2 F l).add_zero (ops F l).e)
  bit_k_xor false b = sym (zero_add (ring2 F l) (bit_k b))

  pub bit_k_cond : (a b : Bool) → bit_k (cond a b false) ≡ (ops F l).mul (bit_k a) (bit_k b)
  bit_k_cond true b = sym (one_mul (ring2 F l) (bit_k b))
  bit_k_cond false b = sym (zero_mul (ring2 F l) (bit_k b))

  -- cells are told apart as elements
  pub bit_k_once : (a b : Bool) → bit_k a ≡ bit_k b → a ≡ b
  bit_k_once true true e = refl
  bit_k_once true false e = let z : ◌≡◌ {A = ℕ} 1 0 = number F l e in absurd (omega arith)
  bit_k_once false true e = let z : ◌≡◌ {A = ℕ} 0 1 = number F l e in absurd (omega arith)
  bit_k_once false false e = refl

  -- an element that is 0 or 1 is the cell of its number
  pub bit_k_of : (x : Element F) → (x ≡ (ops F l).o) ⊎ (x ≡ (ops F l).e) → bit_k (eqb x.0 1) ≡ x
  bit_k_of x h = elim h [ inl p ↦ ap (λ (y : Element F). bit_k (eqb y.0 1)) p ∙ sym p | inr p ↦ ap (λ (y : Element F). bit_k (eqb y.0 1)) p ∙ sym p ]

  scaled : (b : Bool) (x : Element F) → ((ops F l).mul (bit_k b) x).0 ≡ cond b x.0 0
  scaled true x = number F l (one_mul (ring2 F l) x)
  scaled false x = number F l (zero_mul (ring2 F l) x)

  -- the value of a row's polynomial
  abbrev pub row_value : (ℕ → Bool) → ℕ → Element F → Element F
  row_value c n x = value (ops F l) (λ p. bit_k (c p)) n x

  -- the power sum S_i is the value at alpha ^ i
  pub power_sum-value : (i : ℕ) (c : ℕ → Bool) (n : ℕ) → (row_value c n (pow (ops F l) (alpha F l) i)).0 ≡ power_sum F i c n
  unfolding value power_sum
  power_sum-value i c zero = refl
  power_sum-value i c (suc n) =
      ap₂ F.add (power_sum-value i c n)
      (scaled (c n) (pow (ops F l) (pow (ops F l) (alpha F l) i) n)
      ∙ ap (λ x. cond (c n) x 0) (number F l (sym (pow-mul (ring2 F l) (alpha F l) i n)) ∙ pow-power F l (i * n)))

  abbrev pub root_at : ℕ → Element F
  root_at = root (field2 F l) (alpha F l) (units F) (turn F l) (once F l)

  -- the product of the factors, at numbers
  pub generated-number : (d i : ℕ) → (generated (ops F l) root_at d i).0 ≡ coefficient F d i
  unfolding generated
  generated-number zero zero = refl
  generated-number zero (suc i) = refl
  generated-number (suc d) zero = ap₂ (λ y z. F.add 0 (F.mul y z)) (pow-power F l (exponent (units F) d)) (generated-number d zero)
  generated-number (suc d) (suc i) =
      ap₂ F.add (generated-number d i) (ap₂ F.mul (pow-power F l (exponent (units F) d)) (generated-number d (suc i)))
