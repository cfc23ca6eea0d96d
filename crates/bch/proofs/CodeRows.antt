-- Code rows by the roots of the generator: two with the same data are one, and the register's row is one. Rows are functions of the
-- position here.
use Rattle.std.proofs.Common.{◌≡◌, ℕ, suc, ◌+◌, ◌-◌, ◌<◌, ◌≤◌, Bool, eqb, ◌⊎◌, sym, ap, ◌∙◌, subst, ap₂, inl, inr, arith}
use Rattle.bits.specs.Bits.{bit_of}
use Rattle.galois.specs.Model.{FieldModel, FieldLaws, units}
use Rattle.galois.specs.Polynomials.{value, generated}
use Rattle.galois.specs.Ring.{pow}
use Rattle.galois.specs.Rows.{Few, check_cells, data_cells}
use Rattle.galois.proofs.Polynomials.{value-cong, value-split}
use Rattle.galois.proofs.Cosets.{Fine, fine}
use Rattle.galois.proofs.Generators.{generator_bit, generator-low, starts_vanish, only_one}
use Rattle.galois.proofs.Least.{Code}
use Rattle.galois.proofs.Lift.{same, ops, ring2, field2, number, alpha, turn, once}
use Rattle.bch.specs.Steps.{coefficient, register}
use Rattle.bch.proofs.Cells.{bit_k, bit_k_square, bit_k_once, bit_k_of, row_value, power_sum-value, root_at, generated-number}
use Rattle.bch.proofs.Registers.{bits_k, register-value}

-- g's bits are the coefficients of the product of the factors
abbrev pub Packs : FieldModel → ℕ → ℕ → Type 0
Packs F t g = (i : ℕ) → i ≤ check_cells F.m t → bit_of g i ≡ eqb (coefficient F (check_cells F.m t) i) 1

module _ (F : FieldModel) (l : FieldLaws F) (t : ℕ) (few : Few t) where
  abbrev pub r : ℕ
  r = check_cells F.m t

  pub is_fine : Fine (units F) t r
  is_fine = fine F.m t (l.low, l.high) few

  abbrev k : ℕ
  k = data_cells F.m t

  pub row_parts : r + k ≡ units F
  row_parts = let h = is_fine.short in let p = is_fine.some in omega arith

  pub coefficient-bit : (i : ℕ) → (generated (ops F l) (root_at F l) r i ≡ (ops F l).o) ⊎ (generated (ops F l) (root_at F l) r i ≡ (ops F l).e)
  coefficient-bit = generator_bit (field2 F l) (alpha F l) (units F) (turn F l) (once F l) t r is_fine

  pub coefficient-lt : (i : ℕ) → coefficient F r i < 2
  coefficient-lt i =
      elim (coefficient-bit i) [
        | inl p ↦ let z : coefficient F r i ≡ 0 = sym (generated-number F l r i) ∙ number F l p in omega arith
        | inr p ↦ let z : coefficient F r i ≡ 1 = sym (generated-number F l r i) ∙ number F l p in omega arith
      ]

  -- the coefficient as a cell, and back as an element
  pub bit_k_coefficient : (i : ℕ) → bit_k F l (eqb (coefficient F r i) 1) ≡ generated (ops F l) (root_at F l) r i
  bit_k_coefficient i =
      ap (λ y. bit_k F l (eqb y 1)) (sym (generated-number F l r i)) ∙ bit_k_of F l (generated (ops F l) (root_at F l) r i) (coefficient-bit i)

  low : (g : ℕ) → Packs F t g → (d : ℕ) → d < r → value (ops F l) (bits_k F l g) r (root_at F l d) ≡ pow (ops F l) (root_at F l d) r
  low g G d h =
      value-cong (ring2 F l) (bits_k F l g) (generated (ops F l) (root_at F l) r) r (root_at F l d) (λ i lt. ap (bit_k F l) (G i (omega arith)) ∙ bit_k_coefficient i)
      ∙ generator-low (field2 F l) (alpha F l) (units F) (turn F l) (once F l) t r is_fine d h

  -- a row is a code row where it vanishes at every root
  pub to_code : (c : ℕ → Bool) → ((d : ℕ) → d < r → row_value F l c (r + k) (root_at F l d) ≡ (ops F l).o) → Code F t c
  to_code c h i lt =
      sym (power_sum-value F l (suc (i + i)) c (units F))
      ∙ ap (λ n. (row_value F l c n (pow (ops F l) (alpha F l) (suc (i + i)))).0) (sym row_parts)
      ∙ number F l (starts_vanish (field2 F l) (alpha F l) (units F) (turn F l) (once F l) t r is_fine (λ p. bit_k F l (c p)) (r + k) h i lt)

  pub from_code : (c : ℕ → Bool) → Code F t c → (i : ℕ) → i < t → row_value F l c (r + k) (pow (ops F l) (alpha F l) (suc (i + i))) ≡ (ops F l).o
  from_code c h i lt =
      same F _ _ (ap (λ n. (row_value F l c n (pow (ops F l) (alpha F l) (suc (i + i)))).0) row_parts ∙ power_sum-value F l (suc (i + i)) c (units F) ∙ h i lt)

  -- two code rows with the same data are one
  pub one_row : (c d : ℕ → Bool) → Code F t c → Code F t d → ((j : ℕ) → j < k → c (r + j) ≡ d (r + j)) → (j : ℕ) → j < units F → c j ≡ d j
  one_row c d cc cd same_data j lt =
      bit_k_once F l (c j) (d j)
      (only_one (field2 F l) (alpha F l) (units F) (turn F l) (once F l) t r is_fine (λ p. bit_k F l (c p)) (λ p. bit_k F l (d p)) k
      (λ i _. bit_k_square F l (c i)) (λ i _. bit_k_square F l (d i))
      (λ i ge u. let z : r + (i - r) ≡ i = omega arith in ap (λ n. bit_k F l (c n)) (sym z) ∙ ap (bit_k F l) (same_data (i - r) (omega arith)) ∙ ap (λ n. bit_k F l (d n)) z)
      (from_code c cc) (from_code d cd) j (let z = row_parts in omega arith))

  -- the register's bits below the data make a code row
  module _ (g : ℕ) (G : Packs F t g) (given row : ℕ → Bool)
      (below : (j : ℕ) → j < r → row j ≡ bit_of (register g r given 0 k) j)
      (above : (j : ℕ) → j < k → row (r + j) ≡ given j) where
    vanish : (d : ℕ) → d < r → row_value F l row (r + k) (root_at F l d) ≡ (ops F l).o
    vanish d h =
        let R = ring2 F l in
        let b = root_at F l d in
        let p = pow (ops F l) b r in
        let v = row_value F l given k b in
        let pos = is_fine.some in
        let z : suc (r - 1) ≡ r = omega arith in
        let reg : value (ops F l) (bits_k F l (register g r given 0 k)) r b ≡ (ops F l).mul p (value (ops F l) (λ i. bit_k F l (given (0 + i))) k b) =
        subst (λ n. value (ops F l) (bits_k F l (register g n given 0 k)) n b ≡ (ops F l).mul (pow (ops F l) b n) (value (ops F l) (λ i. bit_k F l (given (0 + i))) k b)) z
        (register-value F l g (r - 1) given b (subst (λ n. value (ops F l) (bits_k F l g) n b ≡ pow (ops F l) b n) (sym z) (low g G d h)) k 0) in
        value-split R (λ p. bit_k F l (row p)) r k b
        ∙ ap₂ (λ y w. (ops F l).add y ((ops F l).mul p w))
        (value-cong R (λ p. bit_k F l (row p)) (bits_k F l (register g r given 0 k)) r b (λ i lt. ap (bit_k F l) (below i lt))
        ∙ reg ∙ ap ((ops F l).mul p) (value-cong R (λ i. bit_k F l (given (0 + i))) (λ i. bit_k F l (given i)) k b (λ i _. ap (λ n. bit_k F l (given n)) (omega arith))))
        (value-cong R (λ i. bit_k F l (row (r + i))) (λ i. bit_k F l (given i)) k b (λ i lt. ap (bit_k F l) (above i lt)))
        ∙ R.add_self ((ops F l).mul p v)

    pub register-code : Code F t row
    register-code = to_code row vanish
