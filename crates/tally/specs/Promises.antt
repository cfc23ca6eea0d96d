-- What the calls of a book promise of its cells and answers, whatever was called before.
-- A book is a setting b with its cells now, `cell`: cell r * n + j is position j of row r.
use Rattle.std.specs.Prelude.{◌≡◌, ℕ, ◌+◌, ◌-◌, ◌*◌, ◌<◌, ◌≤◌, Bool, true, false, ◌≢◌, ◌⊎◌, List, [], ◌∷◌, ◌++◌}
use Rattle.std.proofs.Math.Option.{Option, none, some}
use Rattle.memory.specs.Mem.{in_run, turned}
use Rattle.memory.specs.Lines.{Interleaved}
use Rattle.galois.specs.Lists.{tabulate}
use Rattle.tally.specs.Rows.{hits}
use Rattle.tally.specs.Tally.{Setting, Call, write, read, mend, sweep, knock, data_cells_of, nearest, after}
use Rattle.tally.specs.Buffers.{unpacked}
use Rattle.tally.specs.Damage.{Lawful, Within, Near, mends, Spaced}

abbrev pub is_none : {A : Type 0} → Option A → Bool
is_none none = true
is_none (some a) = false

module _ (b : Setting) where
  open b use {n, k, t, s, R, layout, code, encode}

  -- the cells of row r
  abbrev pub row_of : (ℕ → Bool) → ℕ → List Bool
  row_of cell r = tabulate (λ j. cell (r * n + j)) n

  -- the calls h, the last one first, on a book made blank lead to these cells: each row holds the tally's cells
  abbrev pub Holds : List Call → (ℕ → Bool) → Type 0
  Holds h cell = (r : ℕ) → r < R → row_of cell r ≡ (after b h r).cells

  -- EVERY call c: if the rows held the tally's cells before it, they hold them after it, with c counted in
  abbrev pub Keeps : Call → (ℕ → Bool) → (ℕ → Bool) → Type 0
  Keeps c before now = (h : List Call) → Holds h before → Holds (c ∷ h) now

  -- calls that row r survives: they left no stretch of it with over s strikes; or the memory is interleaved to some depth d, as wide as a
  -- row, and each piece of the calls between sweeps has at most one accepted knock, of at most d * s cells
  abbrev pub Survives : List Call → ℕ → Type 0
  Survives h r = Within s (after b h r) ⊎ ((d : ℕ) × Interleaved d n layout × Spaced b (d * s) h)

  -- A READ of row r that gives the data `answer`, or none where it is refused
  pub record ReadPromise (r : ℕ) (cell : ℕ → Bool) (answer : Option (List Bool)) : Type 0 where
    -- where no stretch has over 2t - s strikes, it gives the data last written or is refused
    pub honest : (h : List Call) → Holds h cell → Within (2 * t - s) (after b h r) → (d : List Bool) → answer ≡ some d → d ≡ (after b h r).written
    -- after calls that the row survives, it gives the data last written
    pub sure : (h : List Call) → Holds h cell → Survives h r → answer ≡ some (after b h r).written

  -- A MEND of row r, accepted or not: after calls that the row survives it is accepted
  abbrev pub MendPromise : ℕ → (ℕ → Bool) → Bool → Type 0
  MendPromise r cell accepted = (h : List Call) → Holds h cell → Survives h r → accepted ≡ true

  -- A SWEEP that refused so many rows: those with no code row within the reach, of which none is a row that survives
  pub record SweepPromise (cell : ℕ → Bool) (refused : ℕ) : Type 0 where
    pub counted : refused ≡ hits (λ r. is_none (nearest b s (row_of cell r))) R
    pub sure : (h : List Call) → Holds h cell → (r : ℕ) → r < R → Survives h r → nearest b s (row_of cell r) ≡ some (encode (after b h r).written)

  -- now has `row` at row r, and every other row as before
  pub record Only (r : ℕ) (before now : ℕ → Bool) (row : List Bool) : Type 0 where
    pub here : row_of now r ≡ row
    pub there : (q : ℕ) → q < R → q ≢ r → row_of now q ≡ row_of before q

  -- every cell of every row is as before
  abbrev pub Same : (ℕ → Bool) → (ℕ → Bool) → Type 0
  Same before now = (c : ℕ) → c < R * n → now c ≡ before c

  -- What each call does to the cells, in its own words, carries the promises
  pub record Carries : Type 0 where
    pub made : (cell : ℕ → Bool) → ((c : ℕ) → c < R * n → cell c ≡ false) → Holds [] cell
    pub wrote : (r : ℕ) (buffer : List ℕ) (d : List Bool) (before now : ℕ → Bool) → unpacked k buffer ≡ some d → Only r before now (encode d) → Keeps (write r buffer) before now
    pub not_written : (r : ℕ) (buffer : List ℕ) (before now : ℕ → Bool) → (R ≤ r) ⊎ (unpacked k buffer ≡ none) → Same before now → Keeps (write r buffer) before now
    pub looked : (r room : ℕ) (before now : ℕ → Bool) → Same before now → Keeps (read r room) before now
    pub mended : (r : ℕ) (c : List Bool) (before now : ℕ → Bool) → Near b s (row_of before r) c → Only r before now c → Keeps (mend r) before now
    pub not_mended : (r : ℕ) (before now : ℕ → Bool) → (R ≤ r) ⊎ ((c : List Bool) → Near b s (row_of before r) c → ⊥) → Same before now → Keeps (mend r) before now
    pub swept : (h : List Call) (now : ℕ → Bool) → Holds (mends R ++ h) now → Holds (sweep ∷ h) now
    pub knocked : (from len : ℕ) (before now : ℕ → Bool) → from + len ≤ layout.span → ((c : ℕ) → c < R * n → now c ≡ turned (in_run from len (layout.place c)) (before c)) → Keeps (knock from len) before now
    pub not_knocked : (from len : ℕ) (before now : ℕ → Bool) → layout.span < from + len → Same before now → Keeps (knock from len) before now
    pub given : (r : ℕ) (cell : ℕ → Bool) (c : List Bool) → r < R → Near b s (row_of cell r) c → ReadPromise r cell (some (data_cells_of b c))
    pub refused : (r : ℕ) (cell : ℕ → Bool) → r < R → ((c : List Bool) → Near b s (row_of cell r) c → ⊥) → ReadPromise r cell none × MendPromise r cell false
    pub counted : (cell : ℕ → Bool) → SweepPromise cell (hits (λ r. is_none (nearest b s (row_of cell r))) R)

abbrev pub CallLaws : Type 0
CallLaws = (b : Setting) → Lawful b → Carries b
