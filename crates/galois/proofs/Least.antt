-- The least distance of a code, for rows as functions of the position and as lists.
use Rattle.std.proofs.Common.{◌≡◌, ℕ, suc, ◌+◌, ◌<◌, ◌≤◌, Bool, false, List, length, sym, ap, ◌∙◌, inl, inr, arith}
use Rattle.std.proofs.lemmas.Bool.{cases_lt}
use Rattle.galois.specs.Model.{FieldModel, FieldLaws, units}
use Rattle.galois.specs.Sums.{S}
use Rattle.galois.specs.Rows.{power_sum, cell_of, CodeRow, distance, RowsApart}
use Rattle.galois.proofs.Tabulated.{same_list}
use Rattle.galois.proofs.Lift.{same, ops, field2, number}
use Rattle.galois.proofs.Vandermonde.{least-distance}
use Rattle.galois.proofs.Distances.{apart, apart-zero, distance-of_rows, distance-triangle}
use Rattle.galois.proofs.Differ.{differ, length-differ, X, all_units, distinct, sum_of, differ-sums}

-- S_1, S_3 .. S_(2t - 1) of a row given by its positions are zero
abbrev pub Code : FieldModel → ℕ → (ℕ → Bool) → Type 0
Code F t c = (i : ℕ) → i < t → power_sum F (suc (i + i)) c (units F) ≡ 0

pub code_cells : (F : FieldModel) (t : ℕ) (row : List Bool) → CodeRow F t row → Code F t (cell_of row)
code_cells F t row code i lt = ap (power_sum F (suc (i + i)) (cell_of row)) (sym code.cells) ∙ code.zeros i lt

module _ (F : FieldModel) (l : FieldLaws F) where
  -- the power sums of a row are those of its differences from a code row
  pub code-sums : (t : ℕ) (c d : ℕ → Bool) → Code F t d → (i : ℕ) → i < t
      → (S (ops F l) (X F l) (suc (i + i)) (differ c d (units F))).0 ≡ power_sum F (suc (i + i)) c (units F)
  code-sums t c d code i lt =
      number F l (differ-sums F l c d (suc (i + i)) (units F)) ∙ ap (F.add (power_sum F (suc (i + i)) c (units F))) (code i lt)
      ∙ l.ring.add_zero _ (sum_of F l (suc (i + i)) c (units F)).1

  -- code rows that differ in at most 2t positions do not differ
  pub code_apart : (t : ℕ) (c d : ℕ → Bool) → Code F t c → Code F t d → apart c d (units F) ≤ t + t → apart c d (units F) ≡ 0
  code_apart t c d hc hd few =
      let long = length-differ c d (units F) in
      sym long
      ∙ ap length (least-distance (field2 F l) (X F l) t (differ c d (units F)) (omega arith) (distinct F l c d (units F) (omega arith))
      (all_units F l c d) (λ i lt. same F _ (ops F l).o (code-sums t c d hd i lt ∙ hc i lt)))

  -- the same for lists
  pub code_equal : (t : ℕ) (c d : List Bool) → CodeRow F t c → CodeRow F t d → distance c d ≤ t + t → c ≡ d
  code_equal t c d hc hd few =
      let far = distance-of_rows (units F) c d hc.cells hd.cells in
      let none = code_apart t (cell_of c) (cell_of d) (code_cells F t c hc) (code_cells F t d hd) (omega arith) in
      let long = hc.cells in
      same_list c d false (hc.cells ∙ sym hd.cells) (λ j lt. apart-zero (cell_of c) (cell_of d) (units F) none j (omega arith))

  -- and for two that are near one row
  pub code_meet : (t : ℕ) (row c d : List Bool) → CodeRow F t c → CodeRow F t d → distance row c + distance row d ≤ t + t → c ≡ d
  code_meet t row c d hc hd near = code_equal t c d hc hd (let z = distance-triangle row c d in omega arith)

pub rows_apart : (F : FieldModel) → FieldLaws F → (t : ℕ) → RowsApart F t
rows_apart F l t = record {
  least = λ row c d long. code_meet F l t row c d;
  apart = λ c d hc hd other.
      elim (cases_lt (t + t) (distance c d)) [ inl far ↦ omega arith | inr near ↦ absurd (other (code_equal F l t c d hc hd near)) ];
  one_near = λ row c d nc nd.
      code_meet F l t row c d nc.code nd.code (let x = nc.close in let y = nd.close in omega arith);
}
