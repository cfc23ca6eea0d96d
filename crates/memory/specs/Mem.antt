-- What a memory means, the laws of every memory, and what each call answers and leaves.
use Rattle.std.specs.Prelude.{◌≡◌, ℕ, ◌+◌, ◌<◌, ◌≤◌, Bool, true, false, cond, not, ◌&&◌, List, Ok, Err, Result, ◌==◌, ◌≢◌, nat_le, nat_lt}
use Rattle.refusal.specs.declared.Refusal.{Refusal}
use Rattle.refusal.specs.declared.Refusal.TheVariants.{Cell}

-- The bottom of a memory: how many cells it has and the place of each, also of those that layers hide; the slice that the cells
-- are lent in, by its ghost name (0: none), and what that slice holds past its last cell.
pub record Bottom : Type 0 where
  pub cells : ℕ
  pub place : ℕ → ℕ
  pub lent : ℕ
  pub past : List ℕ

-- What never changes: the number of cells N, the span P, the place of each cell, and the bottom.
pub record Layout : Type 0 where
  pub cells : ℕ
  pub span : ℕ
  pub place : ℕ → ℕ
  pub bottom : Bottom

-- A memory: its layout, what each of its cells shows, and what each cell of its bottom holds.
pub record Mem : Type 0 where
  pub layout : Layout
  pub bit : ℕ → Bool
  pub held : ℕ → Bool

-- The laws of every memory: N ≤ P ≤ 262144, and the places are below P and distinct.
pub record Sound (l : Layout) : Type 0 where
  pub small : l.span ≤ 262144
  pub room : l.cells ≤ l.span
  pub within : (k : ℕ) → k < l.cells → l.place k < l.span
  pub apart : (i j : ℕ) → i < l.cells → j < l.cells → l.place i ≡ l.place j → i ≡ j

-- A call that takes m to m' keeps the layout, and each cell then shows what f says.
abbrev pub Leaves : Mem → Mem → (ℕ → Bool) → Type 0
Leaves m m' f = (m'.layout ≡ m.layout) × ((k : ℕ) → k < m.layout.cells → m'.bit k ≡ f k)

-- Each cell of the bottom then holds what f says.
abbrev pub Beneath : Mem → Mem → (ℕ → Bool) → Type 0
Beneath m m' f = (b : ℕ) → b < m.layout.bottom.cells → m'.held b ≡ f b

-- Each cell of the bottom that does not lie at the place p holds what it held.
abbrev pub Elsewhere : Mem → Mem → ℕ → Type 0
Elsewhere m m' p = (b : ℕ) → b < m.layout.bottom.cells → (m.layout.bottom.place b ≢ p) → m'.held b ≡ m.held b

-- Nothing changed.
abbrev pub Unchanged : Mem → Mem → Type 0
Unchanged m m' = Leaves m m' m.bit × Beneath m m' m.held

-- A bit is turned where the first argument says so.
abbrev pub turned : Bool → Bool → Bool
turned true b = not b
turned false b = b

-- Whether the place p is one of the n places from a on.
abbrev pub in_run : ℕ → ℕ → ℕ → Bool
in_run a n p = nat_le a p && nat_lt p (a + n)

-- Reading cell i.
abbrev pub Got : Mem → ℕ → Result Bool Refusal → Type 0
Got m i (Ok v) = (i < m.layout.cells) × (v ≡ m.bit i)
Got m i (Err e) = (m.layout.cells ≤ i) × (e ≡ Cell)

-- Asking for the place of cell i.
abbrev pub Placed : Mem → ℕ → Result ℕ Refusal → Type 0
Placed m i (Ok p) = (i < m.layout.cells) × (p ≡ m.layout.place i)
Placed m i (Err e) = (m.layout.cells ≤ i) × (e ≡ Cell)

-- Writing v to cell i.
abbrev pub Put : {U : Type 0} → Mem → Mem → ℕ → Bool → Result U Refusal → Type 0
Put m m' i v (Ok u) = (i < m.layout.cells) × Leaves m m' (λ k. cond (k == i) v (m.bit k)) × Elsewhere m m' (m.layout.place i)
Put m m' i v (Err e) = (m.layout.cells ≤ i) × (e ≡ Cell) × Unchanged m m'

-- Knocking the n places from a on.
abbrev pub Knocked : {U : Type 0} → Mem → Mem → ℕ → ℕ → Result U Refusal → Type 0
Knocked m m' a n (Ok u) =
    (a + n ≤ m.layout.span) × Leaves m m' (λ k. turned (in_run a n (m.layout.place k)) (m.bit k))
    × Beneath m m' (λ b. turned (in_run a n (m.layout.bottom.place b)) (m.held b))
Knocked m m' a n (Err e) = (m.layout.span < a + n) × (e ≡ Cell) × Unchanged m m'
