-- Code rows near a row, for rows as functions of the position, and how lists of cells are such rows.
use Rattle.std.proofs.Common.{◌≡◌, ℕ, suc, ◌+◌, ◌<◌, ◌≤◌, Bool, false, List, length, ap, ◌∙◌, arith}
use Rattle.galois.specs.Model.{FieldModel, units}
use Rattle.galois.specs.Lists.{tabulate}
use Rattle.galois.specs.Rows.{power_sum, cell_of, syndrome, CodeRow, distance, Near}
use Rattle.galois.proofs.Tabulated.{length-tabulate, get_or-tabulate}
use Rattle.galois.proofs.PowerSums.{power_sum-cong}
use Rattle.galois.proofs.Distances.{apart, apart-cong, apart-sym, distance-of_rows}
use Rattle.galois.proofs.Least.{Code, code_cells}

-- d is a code row within t positions of c
pub record Within (F : FieldModel) (t : ℕ) (c d : ℕ → Bool) : Type 0 where
  pub code : Code F t d
  pub close : apart c d (units F) ≤ t

-- ---- a list by its cells
pub cells_within : (F : FieldModel) (t : ℕ) (row c : List Bool) → length row ≡ units F → Near F t row c → Within F t (cell_of row) (cell_of c)
cells_within F t row c long N = record {
  code = code_cells F t c N.code;
  close = let z = N.close in let w = distance-of_rows (units F) row c long N.code.cells in omega arith;
}

-- ---- the list of the first n cells
pub cell-tabulate : (f : ℕ → Bool) (n j : ℕ) → j < n → cell_of (tabulate f n) j ≡ f j
cell-tabulate f n j lt = get_or-tabulate f n false j lt

pub syndrome-tabulate : (F : FieldModel) (i : ℕ) (f : ℕ → Bool) (n : ℕ) → syndrome F i (tabulate f n) ≡ power_sum F i f n
syndrome-tabulate F i f n =
    ap (power_sum F i (cell_of (tabulate f n))) (length-tabulate f n) ∙ power_sum-cong F i (cell_of (tabulate f n)) f n (cell-tabulate f n)

pub distance-tabulate : (f g : ℕ → Bool) (n : ℕ) → distance (tabulate f n) (tabulate g n) ≡ apart f g n
distance-tabulate f g n =
    distance-of_rows n (tabulate f n) (tabulate g n) (length-tabulate f n) (length-tabulate g n)
    ∙ apart-cong (cell_of (tabulate f n)) f (cell_of (tabulate g n)) n (cell-tabulate f n)
    ∙ apart-sym f (cell_of (tabulate g n)) n ∙ apart-cong (cell_of (tabulate g n)) g f n (cell-tabulate g n) ∙ apart-sym g f n

module _ (F : FieldModel) (t : ℕ) where
  pub code_tabulate : (f : ℕ → Bool) → Code F t f → CodeRow F t (tabulate f (units F))
  code_tabulate f code = record {
    cells = length-tabulate f (units F);
    zeros = λ i lt. syndrome-tabulate F (suc (i + i)) f (units F) ∙ code i lt;
  }

  pub near_tabulate : (f g : ℕ → Bool) → Within F t f g → Near F t (tabulate f (units F)) (tabulate g (units F))
  near_tabulate f g W = record {
    code = code_tabulate g W.code;
    close = let z = W.close in let w = distance-tabulate f g (units F) in omega arith;
  }

  pub tabulate-near : (f : ℕ → Bool) (c : List Bool) → Near F t (tabulate f (units F)) c → Within F t f (cell_of c)
  tabulate-near f c N =
      let W = cells_within F t (tabulate f (units F)) c (length-tabulate f (units F)) N in
      record {
        code = W.code;
        close =
            let z = W.close in
            let w = apart-cong (cell_of (tabulate f (units F))) f (cell_of c) (units F) (cell-tabulate f (units F)) in
            omega arith;
      }
