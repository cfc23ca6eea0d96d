-- What a book survives: laws of the tally, for every list of calls.
use Rattle.std.specs.Prelude.{◌≡◌, ℕ, zero, suc, ◌+◌, ◌-◌, ◌*◌, ◌<◌, ◌≤◌, Bool, true, false, cond, List, [], ◌∷◌, ◌++◌, length, replicate, nat_le}
use Rattle.std.proofs.Math.Option.{none, some}
use Rattle.std.specs.List.{AllByRecursion}
use Rattle.memory.specs.Lines.{Interleaved}
use Rattle.galois.specs.Rows.{distance}
use Rattle.tally.specs.Tally.{Setting, Call, write, read, mend, sweep, knock, Row, data_cells_of, nearest, after}

-- no stretch of a row since its last write has more than m strikes
abbrev pub Within : ℕ → Row → Type 0
Within m w = (w.newest ≤ m) × AllByRecursion (λ x. x ≤ m) w.earlier

-- the mends of the rows below m, from 0 up; the last one stands first
abbrev pub mends : ℕ → List Call
mends zero = []
mends (suc m) = mend m ∷ mends m

-- a list of calls split at its sweeps: what was called since the last sweep stands first
abbrev pub onto : Call → List (List Call) → List (List Call)
onto c [] = (c ∷ []) ∷ []
onto c (p ∷ ps) = (c ∷ p) ∷ ps

abbrev pub pieces : List Call → List (List Call)
pieces [] = [] ∷ []
pieces (write q buffer ∷ h) = onto (write q buffer) (pieces h)
pieces (read q room ∷ h) = onto (read q room) (pieces h)
pieces (mend q ∷ h) = onto (mend q) (pieces h)
pieces (sweep ∷ h) = [] ∷ pieces h
pieces (knock from len ∷ h) = onto (knock from len) (pieces h)

-- at most one length, of at most m
abbrev pub OneOf : ℕ → List ℕ → Type 0
OneOf m ls = (length ls ≤ 1) × AllByRecursion (λ l. l ≤ m) ls

module _ (b : Setting) where
  open b use {n, k, t, s, R, layout, code, encode}

  -- what the code, the reach and the rows must be for the promises to hold
  pub record Lawful : Type 0 where
    pub reach : s ≤ t
    pub room : R * n ≤ layout.cells
    pub long : (d : List Bool) → length d ≡ k → length (encode d) ≡ n
    pub coded : (d : List Bool) → length d ≡ k → code (encode d) ≡ true
    pub back : (d : List Bool) → length d ≡ k → data_cells_of b (encode d) ≡ d
    pub zeros : encode (replicate k false) ≡ replicate n false
    -- two code rows whose distances from one row are together at most 2t are equal
    pub apart : (row c e : List Bool) → length row ≡ n → length c ≡ n → length e ≡ n → code c ≡ true → code e ≡ true
        → distance row c + distance row e ≤ 2 * t → c ≡ e

  -- c is a code row within m positions of a row
  pub record Near (m : ℕ) (row c : List Bool) : Type 0 where
    pub long : length c ≡ n
    pub coded : code c ≡ true
    pub close : distance row c ≤ m

  -- the lengths of the accepted knocks of a piece
  abbrev pub knocks : List Call → List ℕ
  knocks [] = []
  knocks (write q buffer ∷ h) = knocks h
  knocks (read q room ∷ h) = knocks h
  knocks (mend q ∷ h) = knocks h
  knocks (sweep ∷ h) = knocks h
  knocks (knock from len ∷ h) = cond (nat_le (from + len) layout.span) (len ∷ knocks h) (knocks h)

  -- each piece between sweeps holds at most one accepted knock, of at most m cells
  abbrev pub Spaced : ℕ → List Call → Type 0
  Spaced m h = AllByRecursion (λ p. OneOf m (knocks p)) (pieces h)

  -- The laws of damage
  pub record Stands : Type 0 where
    -- the search for a code row within m positions finds one exactly where there is one, and up to t the only one
    pub found : (m : ℕ) (row c : List Bool) → nearest b m row ≡ some c → Near m row c
    pub not_found : (m : ℕ) (row : List Bool) → nearest b m row ≡ none → (c : List Bool) → Near m row c → ⊥
    pub only : (m : ℕ) (row : List Bool) → m ≤ t → length row ≡ n → (c e : List Bool) → Near m row c → Near m row e → c ≡ e
    -- a sweep is a mend of each row from 0 up
    pub swept : (h : List Call) (r : ℕ) → r < R → after b (sweep ∷ h) r ≡ after b (mends R ++ h) r
    -- where no stretch has over 2t - s strikes, each code row within the reach of the row has the data last written
    pub true_data : (h : List Call) (r : ℕ) → r < R → Within (2 * t - s) (after b h r) → (c : List Bool) → Near s (after b h r).cells c → data_cells_of b c ≡ (after b h r).written
    -- where none has over s, the code row of the data last written is within the reach
    pub in_reach : (h : List Call) (r : ℕ) → r < R → Within s (after b h r) → Near s (after b h r).cells (encode (after b h r).written)
    -- on a memory interleaved to depth d, as wide as a row, one knock of at most d * s cells between sweeps leaves no stretch of any row over s
    pub spread : (d : ℕ) → Interleaved d n layout → (h : List Call) → Spaced (d * s) h → (r : ℕ) → r < R → Within s (after b h r)

abbrev pub DamageLaws : Type 0
DamageLaws = (b : Setting) → Lawful b → Stands b
