-- What a book means, and when its figures fit.
use Rattle.std.specs.Prelude.{ℕ, ◌*◌, ◌≤◌, Bool, cond, ◌&&◌, nat_le}
use Rattle.memory.specs.Mem.{Layout, Mem}
use Rattle.galois.specs.Model.{FieldModel, units}
use Rattle.galois.specs.Rows.{data_cells}
use Rattle.tally.specs.Fields.{field_setting}
use Rattle.tally.specs.Tally.{Setting}

-- A book: the field of its corrector and how many errors that corrects, the reach and the number of rows as they were given, and its memory.
-- Position j of row r is cell r * n + j.
pub record BookModel : Type 0 where
  pub field : FieldModel
  pub strength : ℕ
  pub reach : ℕ
  pub rows : ℕ
  pub memory : Mem

-- The figures fit: the reach is at most t, there are 1 to 1024 rows, and the memory has room for them
pub record FiguresFit (n t s R N : ℕ) : Type 0 where
  pub within : s ≤ t
  pub some : 1 ≤ R
  pub few : R ≤ 1024
  pub room : R * n ≤ N

abbrev pub figures_test : (n t s R N : ℕ) → Bool
figures_test n t s R N = nat_le s t && nat_le 1 R && nat_le R 1024 && nat_le (R * n) N

-- a figure that counts only where the figures fit; else it is 0
abbrev pub effective : (n t s R N x : ℕ) → ℕ
effective n t s R N x = cond (figures_test n t s R N) x 0

-- the setting of the tally: of no rows where the figures do not fit
abbrev pub setting_at : FieldModel → (t s R : ℕ) → Layout → Setting
setting_at F t s R l = field_setting F t (effective (units F) t s R l.cells s) (effective (units F) t s R l.cells R) l

abbrev pub setting : BookModel → Setting
setting b = setting_at b.field b.strength b.reach b.rows b.memory.layout

-- whether the figures of a book fit
abbrev pub fits : BookModel → Bool
fits b = figures_test (units b.field) b.strength b.reach b.rows b.memory.layout.cells

-- what each cell shows
abbrev pub cell : BookModel → ℕ → Bool
cell b = b.memory.bit

-- how many rows there are, and how far reads and mends reach
abbrev pub rows_of : BookModel → ℕ
rows_of b = (setting b).R

abbrev pub reach_of : BookModel → ℕ
reach_of b = (setting b).s

-- n, and k
abbrev pub row_size : BookModel → ℕ
row_size b = units b.field

abbrev pub data_size : BookModel → ℕ
data_size b = data_cells b.field.m b.strength
