-- How the entries of a table stand in the rows of a book.
use Rattle.std.specs.Prelude.{ℕ, ◌+◌, ◌*◌, ◌/◌, ◌%◌, ◌≤◌, Bool, cond, ◌&&◌, List, [], ◌∷◌, ℤ, nat_le, slice_index, slice_set}
use Rattle.book.specs.Model.{BookModel, rows_of, data_size}
use Rattle.entry.specs.TwosComplement.{bytes_of, number_of}

-- e, how many entries a row holds: one for every 16 data cells
abbrev pub per_row : BookModel → ℕ
per_row b = data_size b / 16

-- The number of entries fits: 1 to 1024, and the rows have room for them
pub record EntriesFit (b : BookModel) (E : ℕ) : Type 0 where
  pub some : 1 ≤ E
  pub few : E ≤ 1024
  pub room : E ≤ rows_of b * per_row b

abbrev pub entries_test : BookModel → ℕ → Bool
entries_test b E = nat_le 1 E && nat_le E 1024 && nat_le E (rows_of b * per_row b)

-- how many entries there are: none where the number does not fit
abbrev pub entries_of : BookModel → ℕ → ℕ
entries_of b E = cond (entries_test b E) E 0

-- the row of entry i, and its index there
abbrev pub row_number : BookModel → ℕ → ℕ
row_number b i = i / per_row b

abbrev pub index_in : BookModel → ℕ → ℕ
index_in b i = i % per_row b

-- the bytes of a row's data
abbrev pub room : BookModel → ℕ
room b = (data_size b + 7) / 8

-- the entry at index x of a row's data: it stands in bytes 2x and 2x + 1, low byte first
abbrev pub entry_at : List ℕ → ℕ → ℤ
entry_at bytes x = number_of (slice_index bytes (2 * x) ∷ slice_index bytes (2 * x + 1) ∷ [])

-- the data with the entry at index x made z: its two bytes, and no other
abbrev pub changed : List ℕ → ℕ → ℤ → List ℕ
changed bytes x z = slice_set (slice_set bytes (2 * x) (slice_index (bytes_of z) 0)) (2 * x + 1) (slice_index (bytes_of z) 1)
