-- What each call of a book answers and leaves: b is the book before, b' the book after.
use Rattle.std.specs.Prelude.{◌≡◌, ℕ, ◌+◌, ◌*◌, ◌<◌, ◌≤◌, Bool, false, ◌⊎◌, List, ◌∷◌, Ok, Err, Result, ◌≢◌}
use Rattle.std.proofs.Math.Option.{Option, none, some}
use Rattle.refusal.specs.Order.{Unless, Never}
use Rattle.refusal.specs.declared.Refusal.{Refusal}
use Rattle.refusal.specs.declared.Refusal.TheVariants.{Row, Length, UnusedBit, Cell, NoCodeRow}
use Rattle.bits.specs.Bits.{Sized, Unused, Buffer}
use Rattle.memory.specs.Mem.{Mem, Unchanged}
use Rattle.galois.specs.Rows.{CodeRow, Systematic, cell_of, data_of, distance}
use Rattle.bch.specs.Buffers.{shown}
use Rattle.rows.specs.Laid.{run, Laid}
use Rattle.tally.specs.Rows.{hits, total}
use Rattle.tally.specs.Tally.{Call, nearest}
use Rattle.tally.specs.Promises.{Holds, is_none}
use Rattle.book.specs.Model.{BookModel, setting, cell, rows_of, reach_of, row_size, data_size}

-- the cells of row r
abbrev pub row_cells : BookModel → ℕ → List Bool
row_cells b r = run b.memory (r * row_size b) (row_size b)

-- c is a code row within the reach of a row
pub record InReach (b : BookModel) (row c : List Bool) : Type 0 where
  pub code : CodeRow b.field b.strength c
  pub close : distance row c ≤ reach_of b

-- where row r begins; refused where there is no such row
abbrev pub Begun : BookModel → ℕ → Result ℕ Refusal → Type 0
Begun b r (Ok a) = (r < rows_of b) × (a ≡ r * row_size b)
Begun b r (Err e) = (rows_of b ≤ r) × (e ≡ Row)

-- a copy of the row that begins at cell a, corrected: the buffer shows the code row within the reach, and the answer is how far the row is from
-- it. Refused for a wrong length, then where there are no such cells, then where no code row is that near
abbrev pub Copied : BookModel → ℕ → (before after : List ℕ) → Result ℕ Refusal → Type 0
Copied b a before after (Ok count) =
    let row = run b.memory a (row_size b) in
    Buffer (row_size b) after × InReach b row (shown (row_size b) after) × (count ≡ distance row (shown (row_size b) after))
Copied b a before after (Err e) =
    Unless (Sized (row_size b) before) Length
    (Unless (a + row_size b ≤ b.memory.layout.cells) Cell (Unless ((c : List Bool) × InReach b (run b.memory a (row_size b)) c) NoCodeRow Never)) e

-- row r shows the cells of `code` now, and nothing else changed, neither in the memory nor beneath it
abbrev pub RowLaid : BookModel → BookModel → ℕ → List Bool → Type 0
RowLaid b b' r code = Laid (r * row_size b) (row_size b) (cell_of code) b.memory b'.memory

-- MAKING BLANK over the memory m: the cells of every row are zero, and nothing else changed
abbrev pub Blanked : Mem → BookModel → Type 0
Blanked m b = Laid 0 (rows_of b * row_size b) (λ _. false) m b.memory

-- WRITE: the row is the systematic code row of the data in the buffer. Refused for a wrong row number, then for a wrong length, then for an
-- unused bit that is set
abbrev pub Wrote : {U : Type 0} → BookModel → BookModel → ℕ → List ℕ → Result U Refusal → Type 0
Wrote b b' r bytes (Ok u) =
    (r < rows_of b) × Buffer (data_size b) bytes
    × ((code : List Bool) × Systematic b.field b.strength (shown (data_size b) bytes) code × RowLaid b b' r code)
Wrote b b' r bytes (Err e) =
    Unless (r < rows_of b) Row (Unless (Sized (data_size b) bytes) Length (Unless (Unused (data_size b) bytes) UnusedBit Never)) e
    × Unchanged b.memory b'.memory

-- READ: the buffer shows the data of the code row within the reach, and the answer is in how many cells the row differs from it. Refused for
-- a wrong row number, then for a wrong length, then where there is no such code row; a refusal leaves the buffer
abbrev pub Looked : BookModel → ℕ → (before after : List ℕ) → Result ℕ Refusal → Type 0
Looked b r before after (Ok count) =
    (r < rows_of b) × Sized (data_size b) before × Buffer (data_size b) after
    × ((code : List Bool) × InReach b (row_cells b r) code × (shown (data_size b) after ≡ data_of b.field b.strength code) × (count ≡ distance (row_cells b r) code))
Looked b r before after (Err e) =
    Unless (r < rows_of b) Row (Unless (Sized (data_size b) before) Length (Unless ((c : List Bool) × InReach b (row_cells b r) c) NoCodeRow Never)) e
    × (after ≡ before)

-- MEND: the row is the code row within the reach, and the answer is how many cells that turned. Refused for a wrong row number, then where
-- there is no such code row
abbrev pub Mended : BookModel → BookModel → ℕ → Result ℕ Refusal → Type 0
Mended b b' r (Ok count) =
    (r < rows_of b) × ((code : List Bool) × InReach b (row_cells b r) code × RowLaid b b' r code × (count ≡ distance (row_cells b r) code))
Mended b b' r (Err e) =
    Unless (r < rows_of b) Row (Unless ((c : List Bool) × InReach b (row_cells b r) c) NoCodeRow Never) e × Unchanged b.memory b'.memory

-- one row of a sweep: made the code row within the reach, or as it was where there is none
abbrev pub SweptRow : BookModel → BookModel → ℕ → Type 0
SweptRow b b' r = InReach b (row_cells b r) (row_cells b' r) ⊎ (((c : List Bool) → InReach b (row_cells b r) c → ⊥) × (row_cells b' r ≡ row_cells b r))

-- SWEEP: each row mended where it can be, and nothing else changed; of the rows so many had no code row within the reach, the others were
-- accepted, and so many cells turned in all
pub record Swept (b b' : BookModel) (accepted refused turned : ℕ) : Type 0 where
  pub layout : b'.memory.layout ≡ b.memory.layout
  pub rows : (r : ℕ) → r < rows_of b → SweptRow b b' r
  pub there : (c : ℕ) → c < b.memory.layout.cells → rows_of b * row_size b ≤ c → b'.memory.bit c ≡ b.memory.bit c
  pub beneath : (x : ℕ) → x < b.memory.layout.bottom.cells
      → ((c : ℕ) → c < rows_of b * row_size b → b.memory.layout.bottom.place x ≢ b.memory.layout.place c) → b'.memory.held x ≡ b.memory.held x
  pub all : accepted + refused ≡ rows_of b
  pub far : refused ≡ hits (λ r. is_none (nearest (setting b) (reach_of b) (row_cells b r))) (rows_of b)
  pub changed : turned ≡ total (λ r. distance (row_cells b r) (row_cells b' r)) (rows_of b)

-- THE HISTORY of a book: the calls h, the last one first, lead from a blank book to this one
abbrev pub Led : List Call → BookModel → Type 0
Led h b = Holds (setting b) h (cell b)

-- a call that was made: whatever calls led to the book before, they and this one lead to the book after
abbrev pub Leads : Call → BookModel → BookModel → Type 0
Leads c b b' = (h : List Call) → Led h b → Led (c ∷ h) b'

-- a read is proper if there is such a row and the buffer has the right length
abbrev pub ProperRead : BookModel → ℕ → List ℕ → Type 0
ProperRead b r buffer = (r < rows_of b) × Sized (data_size b) buffer

-- the data that a read gave, none where it was refused
abbrev pub answered : BookModel → List ℕ → Result ℕ Refusal → Option (List Bool)
answered b after (Ok count) = some (shown (data_size b) after)
answered b after (Err e) = none
