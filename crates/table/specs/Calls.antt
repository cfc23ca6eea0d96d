-- What each call of a table answers and leaves: b is the book beneath it, E the number of entries that it was made with.
use Rattle.std.specs.Prelude.{◌≡◌, ℕ, ◌+◌, ◌*◌, ◌/◌, ◌%◌, ◌<◌, ◌≤◌, true, ◌≢◌, ◌⊎◌, List, ◌∷◌, take, ℤ, Ok, Err, Result, Float}
use Rattle.refusal.specs.declared.Refusal.{Refusal}
use Rattle.refusal.specs.Order.{Unless}
use Rattle.refusal.specs.declared.Refusal.TheVariants.{Entry, Value, NoCodeRow}
use Rattle.bits.specs.Bits.{Sized}
use Rattle.tally.specs.Tally.{Call, read, write}
use Rattle.book.specs.Model.{BookModel, rows_of, data_size}
use Rattle.book.specs.Calls.{Led, Leads}
use Rattle.book.specs.Promised.{ReadCall, WriteCall}
use Rattle.entry.specs.Values.{SixtyFourths, entry_of, within_limits}
use Rattle.entry.specs.Rounding.{Rounds}
use Rattle.entry.specs.Interpolation.{next_index, blended}
use Rattle.table.specs.Model.{per_row, entries_of, row_number, index_in, room, entry_at, changed}

-- where entry i stands: at index x of row r
pub record Stands (b : BookModel) (i r x : ℕ) : Type 0 where
  pub row : r ≡ row_number b i
  pub index : x ≡ index_in b i
  -- the row is one of the book, the index one of the row, and no other entry stands there
  pub there : r < rows_of b
  pub inside : x < per_row b
  pub alone : r * per_row b + x ≡ i

-- FINDING entry i: refused where there is no such entry
abbrev pub Found : BookModel → ℕ → ℕ → Result (ℕ × ℕ) Refusal → Type 0
Found b E i (Ok p) = (i < entries_of b E) × Stands b i p.0 p.1
Found b E i (Err e) = (entries_of b E ≤ i) × (e ≡ Entry)

-- a row read into a buffer of the right length: `bytes` is what it holds then, x the book's answer
pub record RowRead (b : BookModel) (r : ℕ) (bytes : List ℕ) (x : Result ℕ Refusal) : Type 0 where
  pub before : List ℕ
  pub sized : Sized (data_size b) before
  pub call : ReadCall b r before bytes x

-- READING a row: its data, which stand in the first bytes of a buffer that may be longer
abbrev pub RowHeld : BookModel → ℕ → Result (List ℕ) Refusal → Type 0
RowHeld b r (Ok buffer) = (count : ℕ) × RowRead b r (take (room b) buffer) (Ok count)
RowHeld b r (Err e) = (bytes : List ℕ) × RowRead b r bytes (Err e)

-- entry i as a read of its row gives it; refused where the read is, which is only where no code row is near enough
abbrev pub EntryRead : BookModel → ℕ → Result ℤ Refusal → Type 0
EntryRead b i (Ok z) = (bytes : List ℕ) × (count : ℕ) × RowRead b (row_number b i) bytes (Ok count) × (z ≡ entry_at bytes (index_in b i))
EntryRead b i (Err e) = (e ≡ NoCodeRow) × ((bytes : List ℕ) × RowRead b (row_number b i) bytes (Err NoCodeRow))

-- the same for any number i: refused first where there is no such entry
abbrev pub EntryGot : BookModel → ℕ → ℕ → Result ℤ Refusal → Type 0
EntryGot b E i (Ok z) = (i < entries_of b E) × EntryRead b i (Ok z)
EntryGot b E i (Err e) = Unless (i < entries_of b E) Entry (λ f. EntryRead b i (Err f)) e

-- GETTING entry i: the value of the entry, exactly
abbrev pub Got : BookModel → ℕ → ℕ → Result Float Refusal → Type 0
Got b E i (Ok v) = (z : ℤ) × EntryGot b E i (Ok z) × SixtyFourths v z
Got b E i (Err e) = EntryGot b E i (Err e)

-- whatever calls led to the book, they and a read of the row of entry i lead to it still
abbrev pub ReadLeads : BookModel → ℕ → Type 0
ReadLeads b i = Leads (read (row_number b i) (room b)) b b

-- entry i made z, and no other: its row is read, its two bytes in the data are changed, and the row is written
pub record EntryPut {U : Type 0} (b b' : BookModel) (i : ℕ) (z : ℤ) (u : U) : Type 0 where
  pub bytes : List ℕ
  pub count : ℕ
  pub got : RowRead b (row_number b i) bytes (Ok count)
  pub wrote : WriteCall b b' (row_number b i) (changed bytes (index_in b i) z) (Ok u)
  pub here : entry_at (changed bytes (index_in b i) z) (index_in b i) ≡ z
  pub others : (y : ℕ) → y ≢ index_in b i → entry_at (changed bytes (index_in b i) z) y ≡ entry_at bytes y
  -- whatever calls led to the book before, they, the read and the write lead to the book after
  pub history : (h : List Call) → Led h b → Led (write (row_number b i) (changed bytes (index_in b i) z) ∷ read (row_number b i) (room b) ∷ h) b'

-- PUTTING v at entry i. Refused where there is no such entry, then where v has no entry, then where the row cannot be read; a refusal
-- leaves everything as it was
abbrev pub Put : {U : Type 0} → BookModel → BookModel → ℕ → ℕ → Float → Result U Refusal → Type 0
Put b b' E i v (Ok u) = (i < entries_of b E) × ((z : ℤ) × (entry_of v ≡ Ok z) × EntryPut b b' i z u)
Put b b' E i v (Err e) = Unless (i < entries_of b E) Entry (Unless (within_limits v ≡ true) Value (λ f. EntryRead b i (Err f))) e × (b' ≡ b)

-- where the angle a lies in a table of n entries: at this index, and so many 65536ths of the way to the next entry
abbrev pub angle_index : ℕ → ℕ → ℕ
angle_index a n = a * n / 65536

abbrev pub angle_fraction : ℕ → ℕ → ℕ
angle_fraction a n = a * n % 65536

-- LOOKING UP the angle a in a table of n entries: the whole number nearest the exact sum between the two entries. Refused where there are no
-- entries, then where the row of either cannot be read
abbrev pub LookedUp : BookModel → ℕ → ℕ → Result ℤ Refusal → Type 0
LookedUp b n a (Ok s) =
    (0 < n)
    × ((x : ℤ) × (y : ℤ) × EntryRead b (angle_index a n) (Ok x) × EntryRead b (next_index (angle_index a n) n) (Ok y) × Rounds (blended x y (angle_fraction a n)) 65536 s)
LookedUp b n a (Err e) = Unless (0 < n) Entry (λ f. EntryRead b (angle_index a n) (Err f) ⊎ EntryRead b (next_index (angle_index a n) n) (Err f)) e
