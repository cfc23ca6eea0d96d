-- The class of rows as lists.
use Rattle.std.proofs.Common.{◌≡◌, ℕ, suc, ◌+◌, Bool, List, length, sym, ap, ◌∙◌, arith}
use Rattle.galois.specs.Model.{FieldModel, FieldLaws, units}
use Rattle.galois.specs.Rows.{power_sum, cell_of, Few}
use Rattle.galois.proofs.Distances.{distance-of_rows}
use Rattle.galois.proofs.Least.{code_cells}
use Rattle.decoding.specs.Classes.{class_of, class_row, ClassIsDistance}
use Rattle.decoding.proofs.Within.{cells_within}
use Rattle.decoding.proofs.Shown.{class_at, class_is_apart, class_past, clean-code}

pub class_cells : (F : FieldModel) (t : ℕ) (row : List Bool) → length row ≡ units F → class_row F t row ≡ class_at F t (cell_of row)
class_cells F t row long =
    ap (λ n. class_of F t (power_sum F 1 (cell_of row) n) (power_sum F 3 (cell_of row) n) (power_sum F 5 (cell_of row) n)) long

pub class_tells : (F : FieldModel) → FieldLaws F → (t : ℕ) → Few t → ClassIsDistance F t
class_tells F l t few = record {
  near = λ row c long N.
      class_cells F t row long ∙ class_is_apart F l t few (cell_of row) (cell_of c) (cells_within F t row c long N)
      ∙ sym (distance-of_rows (units F) row c long N.code.cells);
  past = λ row c long code far h.
      let w = distance-of_rows (units F) row c long code.cells in
      let z = class_cells F t row long in
      class_past F l t few (cell_of row) (cell_of c) (code_cells F t c code) (omega arith) (omega arith);
  clean = λ row long h. record {
    cells = long;
    zeros = λ i lt.
        ap (power_sum F (suc (i + i)) (cell_of row)) long ∙ clean-code F l t few (cell_of row) (sym (class_cells F t row long) ∙ h) i lt;
  };
}
