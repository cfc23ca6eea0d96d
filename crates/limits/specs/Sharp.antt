-- Worked rows that show the limits to be sharp, over the house field of 16 elements: rows of 15 cells.
use Rattle.std.specs.Prelude.{◌≡◌, ℕ, ◌+◌, ◌*◌, ◌<◌, ◌≤◌, Bool, true, false, List, [], ◌∷◌, Ok, Err, Result}
use Rattle.refusal.specs.declared.Refusal.{Refusal}
use Rattle.refusal.specs.declared.Refusal.TheVariants.{NoCodeRow}
use Rattle.bits.specs.Bits.{Sized}
use Rattle.memory.specs.Mem.{Mem}
use Rattle.galois.specs.House.{house}
use Rattle.bch.specs.Buffers.{shown}
use Rattle.book.specs.Model.{BookModel, FiguresFit, rows_of}
use Rattle.book.specs.Calls.{row_cells, Looked}

-- the zero row turned at the positions 3 and 10: two strikes
abbrev pub twice : List Bool
twice = false ∷ false ∷ false ∷ true ∷ false ∷ false ∷ false ∷ false ∷ false ∷ false ∷ true ∷ false ∷ false ∷ false ∷ false ∷ []

-- a book over that field, which corrects t turned cells and has reach s
abbrev pub book_of : (t s R : ℕ) → Mem → BookModel
book_of t s R m = record { field = house 4; strength = t; reach = s; rows = R; memory = m }

pub record SharpLimits : Type 0 where
  -- with t = 2 and s = 1 two strikes are more than s: a read of the row is refused with 10
  pub refused : (R : ℕ) (m : Mem) (r : ℕ) → r < rows_of (book_of 2 1 R m) → row_cells (book_of 2 1 R m) r ≡ twice
      → (before after : List ℕ) → Sized 7 before → (x : Result ℕ Refusal) → Looked (book_of 2 1 R m) r before after x → x ≡ Err NoCodeRow
  -- with t = s = 1 two strikes are more than 2t - s: position 12 is turned too, and the read gives the data 40 01 with count 1
  pub mistaken : (R : ℕ) (m : Mem) (r : ℕ) → r < rows_of (book_of 1 1 R m) → row_cells (book_of 1 1 R m) r ≡ twice
      → (before after : List ℕ) → Sized 11 before → (x : Result ℕ Refusal) → Looked (book_of 1 1 R m) r before after x
      → (x ≡ Ok 1) × (shown 11 after ≡ shown 11 (0x40 ∷ 0x01 ∷ []))
  -- a reach of t fits, a reach of t + 1 does not
  pub reach_t : (n t R N : ℕ) → 1 ≤ R → R ≤ 1024 → R * n ≤ N → FiguresFit n t t R N
  pub reach_past : (n t R N : ℕ) → FiguresFit n t (t + 1) R N → ⊥
