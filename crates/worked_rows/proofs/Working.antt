-- The worked rows: what computes is computed, and what speaks of every row follows from the laws of the code.
use Rattle.std.proofs.Common.{◌≡◌, ℕ, ◌<◌, ◌≤◌, Bool, false, List, [], ◌∷◌, length, get_or, Ok, Err, sym, refl, ap, ◌∙◌, subst, inl, inr, arith, lit≤, get_or-drop}
use Rattle.refusal.specs.declared.Refusal.TheVariants.{NoCodeRow}
use Rattle.bits.specs.Bits.{bit_at, Buffer}
use Rattle.galois.specs.House.{shift, product}
use Rattle.galois.specs.Lists.{All, tabulate}
use Rattle.galois.specs.Model.{FieldLaws, power}
use Rattle.galois.specs.Rows.{power_sum, syndrome, cell_of, Few, CodeRow, data_of, distance, Near, Systematic}
use Rattle.galois.specs.Ring.{numbers}
use Rattle.galois.specs.Sums.{D2, D3}
use Rattle.galois.proofs.House.{house-laws}
use Rattle.galois.proofs.Least.{code_cells}
use Rattle.galois.proofs.Tabulated.{same_list, length-tabulate}
use Rattle.decoding.specs.Classes.{class_row}
use Rattle.decoding.proofs.Zeros.{Zeros, zeros_code}
use Rattle.decoding.proofs.Classed.{class_tells}
use Rattle.bch.specs.Buffers.{shown}
use Rattle.bch.proofs.CodeRows.{one_row}
use Rattle.bch.proofs.Encoding.{shown-code}
use Rattle.corrector.specs.Corrected.{Corrected}
use Rattle.worked_rows.specs.Worked.{F, PowerHolds, powers, EncodingHolds, encodings, Correction, CorrectionHolds, corrections, WorkedRows}

laws : FieldLaws F
laws = house-laws 4 (omega arith, omega arith)

-- a code row with the data d is the code row of d
pub only_row : (t : ℕ) → Few t → (d row : List Bool) → CodeRow F t row → data_of F t row ≡ d → Systematic F t d row
only_row t few d row code holds = record {
  code = code;
  holds = holds;
  only = λ other co eq.
      same_list other row false (co.cells ∙ sym code.cells)
      (λ j lt.
      one_row F laws t few (cell_of other) (cell_of row) (code_cells F t other co) (code_cells F t row code)
      (λ i u. sym (get_or-drop _ other i false) ∙ ap (λ (e : List Bool). get_or e i false) (eq ∙ sym holds) ∙ get_or-drop _ row i false) j
      (subst (λ n. j < n) co.cells lt));
}

-- a row whose class is past t has no code row near
pub none_near : (t : ℕ) → Few t → (row : List Bool) → length row ≡ 15 → class_row F t row ≡ 4 → ((c : List Bool) × Near F t row c) → ⊥
none_near t few row long past (c, near) =
    let e = (class_tells F laws t few).near row c long near in
    let z = near.close in
    omega arith

-- ---- what is left to compute
buffer_of : (buffer : List ℕ) → length buffer ≡ 2 → bit_at 8 buffer 15 ≡ false → Buffer 15 buffer
buffer_of buffer long clear = record { sized = long; unused = λ j lo hi. let z : j ≡ 15 = omega arith in ap (bit_at 8 buffer) z ∙ clear }

abbrev Clean : ℕ → List ℕ → Type 0
Clean t buffer = Zeros t (power_sum F 1 (bit_at 8 buffer) 15) (power_sum F 3 (bit_at 8 buffer) 15) (power_sum F 5 (bit_at 8 buffer) 15)

code_of : (t : ℕ) → Few t → (buffer : List ℕ) → Clean t buffer → CodeRow F t (shown 15 buffer)
code_of t few buffer z = shown-code F t buffer (zeros_code F t few (bit_at 8 buffer) z)

corrected_to : (t : ℕ) → Few t → (row after : List ℕ) (count : ℕ) → Buffer 15 row → Buffer 15 after → Clean t after
    → count ≡ distance (shown 15 row) (shown 15 after) → count ≤ t → Corrected F t row after (Ok count)
corrected_to t few row after count b d z far le = (b, d, record { code = code_of t few after z; close = subst (λ k. k ≤ t) far le }, far)

refused_at : (t : ℕ) → Few t → (row : List ℕ) → Buffer 15 row → class_row F t (shown 15 row) ≡ 4 → Corrected F t row row (Err NoCodeRow)
refused_at t few row b past =
    (inr (b.sized, inr (b.unused, inl (none_near t few (shown 15 row) (length-tabulate (bit_at 8 row) 15) past, refl))), refl)

few_1 : Few 1
few_1 = (lit≤ tt, lit≤ tt)

few_2 : Few 2
few_2 = (lit≤ tt, lit≤ tt)

few_3 : Few 3
few_3 = (lit≤ tt, lit≤ tt)

-- ---- the list
pub powers_hold : All PowerHolds powers
unfolding power product shift
powers_hold = (refl, (refl, (refl, (refl, tt))))

pub encodings_hold : All EncodingHolds encodings
unfolding power_sum power product shift tabulate
encodings_hold = (
  only_row 2 few_2 _ _ (code_of 2 few_2 (0xD1 ∷ 0x01 ∷ []) (refl, λ _. refl, λ h. absurd (omega arith))) refl,
  (only_row 3 few_3 _ _ (code_of 3 few_3 (0x37 ∷ 0x05 ∷ []) (refl, λ _. refl, λ _. refl)) refl, tt),
)

sums_and : (k : Correction) → syndrome F 1 (shown 15 k.row) ≡ k.s1 → syndrome F 3 (shown 15 k.row) ≡ k.s3
    → syndrome F 5 (shown 15 k.row) ≡ k.s5 → D2 (numbers F) k.s1 k.s3 ≡ k.d2 → D3 (numbers F) k.s1 k.s3 k.s5 ≡ k.d3
    → Corrected F k.t k.row k.after k.answer → CorrectionHolds k
sums_and k a b c d e f =
    record { first = a; third = b; fifth = c; second_determinant = d; third_determinant = e; corrected = f }

pub corrections_hold : All CorrectionHolds corrections
unfolding power_sum power product shift tabulate
corrections_hold = (
  sums_and _ refl refl refl refl refl
      (corrected_to 2 few_2 (0x08 ∷ 0x04 ∷ []) (0x00 ∷ 0x00 ∷ []) 2 (buffer_of _ refl refl) (buffer_of _ refl refl)
      (refl, λ _. refl, λ h. absurd (omega arith)) refl (lit≤ tt)),
  (
    sums_and _ refl refl refl refl refl (refused_at 2 few_2 (0x21 ∷ 0x04 ∷ []) (buffer_of _ refl refl) refl),
    (
      sums_and _ refl refl refl refl refl
          (corrected_to 3 few_3 (0x21 ∷ 0x04 ∷ []) (0x00 ∷ 0x00 ∷ []) 3 (buffer_of _ refl refl) (buffer_of _ refl refl)
          (refl, λ _. refl, λ _. refl) refl (lit≤ tt)),
      (
        sums_and _ refl refl refl refl refl (refused_at 3 few_3 (0xD1 ∷ 0x01 ∷ []) (buffer_of _ refl refl) refl),
        (
          sums_and _ refl refl refl refl refl
              (corrected_to 1 few_1 (0x08 ∷ 0x04 ∷ []) (0x08 ∷ 0x14 ∷ []) 1 (buffer_of _ refl refl) (buffer_of _ refl refl)
              (refl, λ h. absurd (omega arith), λ h. absurd (omega arith)) refl (lit≤ tt)),
          tt,
        ),
      ),
    ),
  ),
)

pub worked_rows : WorkedRows
unfolding tabulate
worked_rows = record {
  powers_hold = powers_hold;
  encodings_hold = encodings_hold;
  corrections_hold = corrections_hold;
  data_of_the_last = refl;
}
