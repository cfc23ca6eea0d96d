-- The tally: what each row of a book holds after a list of calls, told from the arguments of the calls alone.
use Rattle.std.specs.Prelude.{ℕ, ◌+◌, ◌-◌, ◌*◌, Bool, false, cond, ◌&&◌, List, [], ◌∷◌, drop, replicate, ◌==◌, nat_le}
use Rattle.std.proofs.Math.Option.{Option, none, some}
use Rattle.memory.specs.Mem.{Layout, in_run}
use Rattle.galois.specs.Rows.{distance}
use Rattle.tally.specs.Rows.{turned_by, hits, every, first}
use Rattle.tally.specs.Buffers.{unpacked}

-- What the tally knows of a book: its code, its reach and where its cells lie. Position j of row r is cell r * n + j.
pub record Setting : Type 0 where
  pub n : ℕ  -- the cells of a row
  pub k : ℕ  -- the data cells of a row
  pub t : ℕ  -- how many turned cells the code corrects
  pub s : ℕ  -- the reach: how many a read or a mend corrects
  pub R : ℕ  -- the rows
  pub layout : Layout  -- the memory's cells, their places and the span
  pub code : List Bool → Bool  -- whether a row of n cells is a code row
  pub encode : List Bool → List Bool  -- the code row of k data cells

-- The calls on a book, each with what decides what it does.
pub data Call : Type 0 where
  write : ℕ → List ℕ → Call  -- a row number, and a buffer of data
  read : ℕ → ℕ → Call  -- a row number, and the length of the buffer to fill
  mend : ℕ → Call  -- a row number
  sweep : Call
  knock : ℕ → ℕ → Call  -- the first place of a run, and its length

-- What is kept of one row. A stretch begins at making, at a write of the row and at an accepted mend of it; a strike is a cell of the
-- row that a knock turns.
pub record Row : Type 0 where
  pub cells : List Bool
  pub written : List Bool  -- the data last written; zeros where there was no write
  pub newest : ℕ  -- the strikes of the stretch that is going on
  pub earlier : List ℕ  -- the strikes of each earlier stretch since the last write, the latest first

module _ (b : Setting) where
  open b use {n, k, t, s, R, layout, code, encode}

  -- the data cells of a row stand above its check cells
  abbrev pub data_cells_of : List Bool → List Bool
  data_cells_of row = drop (n - k) row

  -- the first code row within m positions of a row; for m up to t there is at most one
  unfoldable pub nearest : ℕ → List Bool → Option (List Bool)
  nearest m row = first (λ c. code c && nat_le (distance row c) m) (every n)

  -- made blank: zero cells, zero data, one stretch of 0 strikes
  abbrev pub blank : Row
  blank = record { cells = replicate n false; written = replicate k false; newest = 0; earlier = [] }

  -- written: the code row of the data, which are noted, and one stretch of 0 strikes replaces the others
  abbrev pub after_write : Option (List Bool) → Row → Row
  after_write none w = w
  after_write (some d) w = record { cells = encode d; written = d; newest = 0; earlier = [] }

  -- mended: the code row within the reach, and a further stretch begins
  abbrev pub after_mend : Option (List Bool) → Row → Row
  after_mend none w = w
  after_mend (some c) w = record { cells = c; written = w.written; newest = 0; earlier = w.newest ∷ w.earlier }

  -- knocked: each cell that is hit turns, and is one strike more in the newest stretch
  abbrev pub after_knock : (ℕ → Bool) → Row → Row
  after_knock hit w = record { cells = turned_by hit w.cells; written = w.written; newest = hits hit n + w.newest; earlier = w.earlier }

  -- whether a knock of `len` places from `from` on turns the cell at position j of row r
  abbrev pub struck : ℕ → ℕ → ℕ → ℕ → Bool
  struck from len r j = in_run from len (layout.place (r * n + j))

  -- What one call makes of row r, below R. A call with another row number does not concern it. A write of an unfit buffer, a mend with no
  -- code row within the reach and a knock past the span are refused, and leave the row as it is; a read always does. A sweep mends every row.
  abbrev pub step : ℕ → Call → Row → Row
  step r (write q buffer) w = cond (q == r) (after_write (unpacked k buffer) w) w
  step r (read q room) w = w
  step r (mend q) w = cond (q == r) (after_mend (nearest s w.cells) w) w
  step r sweep w = after_mend (nearest s w.cells) w
  step r (knock from len) w = cond (nat_le (from + len) layout.span) (after_knock (struck from len r) w) w

  -- row r after a list of calls on a book made blank; the last call stands first in the list
  abbrev pub after : List Call → ℕ → Row
  after [] r = blank
  after (c ∷ h) r = step r c (after h r)
