-- Rows of cells, and the binary primitive BCH code over a field: which rows are code rows, and how far rows are apart.
use Rattle.std.specs.Prelude.{◌≡◌, ℕ, zero, suc, ◌+◌, ◌-◌, ◌*◌, ◌^◌, ◌<◌, ◌≤◌, Bool, true, false, cond, ◌≢◌, List, [], ◌∷◌, length, drop, slice_index, slice_index_or}
use Rattle.galois.specs.Model.{FieldModel, units, power}

-- the sum of alpha ^ (i * p) over the set positions p below n, c telling which are set
unfoldable pub power_sum : FieldModel → ℕ → (ℕ → Bool) → ℕ → ℕ
power_sum F i c zero = 0
power_sum F i c (suc p) = F.add (power_sum F i c p) (cond (c p) (power F (i * p)) 0)

-- the cell at a position of a row
abbrev pub cell_of : List Bool → ℕ → Bool
cell_of row p = slice_index_or row p false

-- S_i of a row: the sum of alpha ^ (i * p) over its set positions p
abbrev pub syndrome : FieldModel → ℕ → List Bool → ℕ
syndrome F i row = power_sum F i (cell_of row) (length row)

-- how many errors a code can be made to correct
abbrev pub Few : ℕ → Type 0
Few t = (1 ≤ t) × (t ≤ 3)

-- a code row has n cells, and S_1, S_3 .. S_(2t - 1) are zero
pub record CodeRow (F : FieldModel) (t : ℕ) (row : List Bool) : Type 0 where
  pub cells : length row ≡ units F
  pub zeros : (i : ℕ) → i < t → syndrome F (suc (i + i)) row ≡ 0

-- k, the number of data cells, for m = 4 to 8 and t = 1 to 3
abbrev pub data_table : List (List ℕ)
data_table =
    (11 ∷ 7 ∷ 5 ∷ [])
    ∷ (26 ∷ 21 ∷ 16 ∷ [])
    ∷ (57 ∷ 51 ∷ 45 ∷ [])
    ∷ (120 ∷ 113 ∷ 106 ∷ [])
    ∷ (247 ∷ 239 ∷ 231 ∷ [])
    ∷ []

abbrev pub data_cells : ℕ → ℕ → ℕ
data_cells m t = slice_index (slice_index_or data_table (m - 4) []) (t - 1)

-- the other cells of a row, below the data: the check cells
abbrev pub check_cells : ℕ → ℕ → ℕ
check_cells m t = (2 ^ m - 1) - data_cells m t

-- the data of a row: data cell j stands at position n - k + j
abbrev pub data_of : FieldModel → ℕ → List Bool → List Bool
data_of F t row = drop (check_cells F.m t) row

-- 1 for two unlike cells, 0 for two alike
abbrev pub unlike : Bool → Bool → ℕ
unlike true true = 0
unlike true false = 1
unlike false true = 1
unlike false false = 0

-- at how many positions two rows differ
abbrev pub distance : List Bool → List Bool → ℕ
distance [] [] = 0
distance [] (y ∷ ys) = 1 + distance [] ys
distance (x ∷ xs) [] = 1 + distance xs []
distance (x ∷ xs) (y ∷ ys) = unlike x y + distance xs ys

-- row is the code row of the data d: the one code row that has d for its data
pub record Systematic (F : FieldModel) (t : ℕ) (d row : List Bool) : Type 0 where
  pub code : CodeRow F t row
  pub holds : data_of F t row ≡ d
  pub only : (other : List Bool) → CodeRow F t other → data_of F t other ≡ d → other ≡ row

-- c is a code row within t positions of a row
pub record Near (F : FieldModel) (t : ℕ) (row c : List Bool) : Type 0 where
  pub code : CodeRow F t c
  pub close : distance row c ≤ t

-- two code rows whose distances from one row are together at most 2t are equal
abbrev pub LeastDistance : FieldModel → ℕ → Type 0
LeastDistance F t =
    (row c d : List Bool) → length row ≡ units F → CodeRow F t c → CodeRow F t d → distance row c + distance row d ≤ t + t → c ≡ d

-- how far code rows lie apart
pub record RowsApart (F : FieldModel) (t : ℕ) : Type 0 where
  pub least : LeastDistance F t
  -- different code rows differ in at least 2t + 1 positions
  pub apart : (c d : List Bool) → CodeRow F t c → CodeRow F t d → c ≢ d → 2 * t + 1 ≤ distance c d
  -- at most one code row lies within t positions of a row
  pub one_near : (row c d : List Bool) → Near F t row c → Near F t row d → c ≡ d
