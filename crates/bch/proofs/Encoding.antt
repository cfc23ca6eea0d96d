-- The row that is laid down is the systematic code row of the data, and the one by division.
use Rattle.std.proofs.Common.{◌≡◌, ℕ, suc, ◌+◌, ◌-◌, ◌%◌, ◌^◌, ◌<◌, ◌≤◌, Bool, false, cond, eqb, ltb, ◌⊎◌, List, get_or, drop, sym, ap, ◌∙◌, subst, ap₂, inl, inr, arith, get_or-drop, pow_mono}
use native.Mathlib.Nat.{div-eq_of_lt}
use Rattle.std.proofs.lemmas.Bool.{cases_lt, lt-ltb, le-ltb}
use Rattle.bits.specs.Bits.{xor, bit_of, bit_at, Sized, Buffer}
use Rattle.bits.proofs.Turning.{xor-false}
use Rattle.galois.specs.Lists.{tabulate}
use Rattle.galois.specs.Model.{FieldModel, FieldLaws, units}
use Rattle.galois.specs.Rows.{Few, power_sum, cell_of, CodeRow, check_cells, data_cells, Systematic}
use Rattle.galois.proofs.Least.{Code, code_cells}
use Rattle.galois.proofs.PowerSums.{power_sum-cong}
use Rattle.galois.proofs.Tabulated.{length-tabulate, get_or-tabulate, tabulate-cong, drop-tabulate, same_list}
use Rattle.bch.specs.Buffers.{shown}
use Rattle.bch.specs.Published.{shifted, IsGenerator, ByDivision}
use Rattle.bch.specs.Steps.{register, laid}
use Rattle.bch.proofs.Laying.{laid-low, laid-high, laid-past}
use Rattle.bch.proofs.CodeRows.{Packs, row_parts, one_row, register-code}
use Rattle.bch.proofs.Published.{g, generates, code_multiple, xor_self, shifted-low, shifted-from}

-- what a list of cells says at each position is what its function says
pub cell-shown : (n : ℕ) (buffer : List ℕ) (j : ℕ) → j < n → cell_of (shown n buffer) j ≡ bit_at 8 buffer j
cell-shown n buffer j h = get_or-tabulate (bit_at 8 buffer) n false j h

-- a code row as a list, from its function
pub shown-code : (F : FieldModel) (t : ℕ) (buffer : List ℕ) → Code F t (bit_at 8 buffer) → CodeRow F t (shown (units F) buffer)
shown-code F t buffer code = record {
  cells = length-tabulate (bit_at 8 buffer) (units F);
  zeros = λ i lt.
      ap (power_sum F (suc (i + i)) (cell_of (shown (units F) buffer))) (length-tabulate (bit_at 8 buffer) (units F))
      ∙ power_sum-cong F (suc (i + i)) (cell_of (shown (units F) buffer)) (bit_at 8 buffer) (units F) (cell-shown (units F) buffer) ∙ code i lt;
}

bit_of-past : (x i : ℕ) → x < 2 ^ i → bit_of x i ≡ false
bit_of-past x i h = ap (λ y. eqb (y % 2) 1) (div-eq_of_lt h)

module _ (F : FieldModel) (l : FieldLaws F) (t : ℕ) (few : Few t) where
  abbrev r : ℕ
  r = check_cells F.m t

  abbrev k : ℕ
  k = data_cells F.m t

  abbrev n : ℕ
  n = units F

  -- a number of r + 1 bits that are the coefficients is the generator
  pub packed_generates : (x : ℕ) → x < 2 ^ (r + 1) → Packs F t x → IsGenerator F t (bit_of x)
  packed_generates x below packs =
      let G = generates F l t few in
      record {
        leading = packs r (omega arith) ∙ G.leading;
        degree = λ i h. let up : 2 ^ (r + 1) ≤ 2 ^ i = pow_mono (let le : r + 1 ≤ i = omega arith in le) in bit_of-past x i (omega arith);
        roots = λ j lo hi. power_sum-cong F j (bit_of x) (g F l t few) (suc r) (λ p lt. packs p (omega arith)) ∙ G.roots j lo hi;
        lowest = G.lowest;
      }

  module _ (x check : ℕ) (given row : List ℕ) (packs : Packs F t x) (ec : check ≡ register x r (bit_at 8 given) 0 k)
      (cells : (j : ℕ) → bit_at 8 row j ≡ laid check r given k j) where
    below : (j : ℕ) → j < r → bit_at 8 row j ≡ bit_of (register x r (bit_at 8 given) 0 k) j
    below j h = cells j ∙ laid-low check r given k j h ∙ ap (λ y. bit_of y j) ec

    above : (j : ℕ) → j < k → bit_at 8 row (r + j) ≡ bit_at 8 given j
    above j h = cells (r + j) ∙ laid-high check r given k j h

    code : Code F t (bit_at 8 row)
    code = register-code F l t few x packs (bit_at 8 given) (bit_at 8 row) below above

    pub row_buffer : Sized n row → Buffer n row
    row_buffer sized = record { sized = sized; unused = λ j ge lt. cells j ∙ laid-past check r given k j (let z = row_parts F l t few in omega arith) }

    pub systematic : Systematic F t (shown k given) (shown n row)
    systematic = record {
      code = shown-code F t row code;
      holds =
          ap (λ m. drop r (tabulate (bit_at 8 row) m)) (sym (row_parts F l t few)) ∙ drop-tabulate (bit_at 8 row) r k
          ∙ tabulate-cong (λ j. bit_at 8 row (r + j)) (bit_at 8 given) k above;
      only = λ other co eq.
          same_list other (shown n row) false (co.cells ∙ sym (length-tabulate (bit_at 8 row) n))
          (λ j lt. let h : j < n = subst (λ m. j < m) co.cells lt in
          one_row F l t few (cell_of other) (bit_at 8 row) (code_cells F t other co) code
          (λ i u. sym (get_or-drop r other i false) ∙ ap (λ d. get_or d i false) eq ∙ get_or-tabulate (bit_at 8 given) k false i u ∙ sym (above i u)) j h
          ∙ sym (cell-shown n row j h));
    }

    remainder : ℕ → Bool
    remainder j = cond (ltb j r) (bit_at 8 row j) false

    -- below r the data times x ^ r is zero, from r on the remainder is
    parts : (j : ℕ) → j < n
        → ((shifted r (cell_of (shown k given)) j ≡ false) × (remainder j ≡ bit_at 8 row j)) ⊎ ((shifted r (cell_of (shown k given)) j ≡ bit_at 8 row j) × (remainder j ≡ false))
    unfolding remainder
    parts j h = elim (cases_lt j r) [
      | inl lt ↦ inl (shifted-low r (cell_of (shown k given)) j lt, ap (λ b. cond b (bit_at 8 row j) false) (lt-ltb j r lt))
      | inr ge ↦
          let z = row_parts F l t few in
          let back : r + (j - r) ≡ j = omega arith in
          let small : j - r < k = omega arith in
          inr (
            shifted-from r (cell_of (shown k given)) j ge ∙ cell-shown k given (j - r) small ∙ sym (above (j - r) small) ∙ ap (bit_at 8 row) back,
            ap (λ b. cond b (bit_at 8 row j) false) (le-ltb j r ge),
          )
    ]

    pub by-division : ByDivision F t (shown k given) (shown n row)
    unfolding remainder
    by-division =
        let q = code_multiple F l t few (bit_at 8 row) code in
        record {
          generator = g F l t few;
          quotient = q.0;
          remainder = remainder;
          generates = generates F l t few;
          smaller = λ j h. ap (λ b. cond b (bit_at 8 row j) false) (le-ltb j r h);
          divides = λ j h.
              let row_is = q.1 j (let z = row_parts F l t few in omega arith) in
              elim (parts j h) [
                | inl p ↦ p.0 ∙ sym (ap₂ xor (sym row_is) p.1 ∙ xor_self (bit_at 8 row j))
                | inr p ↦ p.0 ∙ sym (ap₂ xor (sym row_is) p.1 ∙ xor-false (bit_at 8 row j))
              ];
          sum = λ j h. cell-shown n row j h ∙ elim (parts j h) [
            | inl p ↦ sym (ap₂ xor p.0 p.1)
            | inr p ↦ sym (ap₂ xor p.0 p.1 ∙ xor-false (bit_at 8 row j))
          ];
        }
