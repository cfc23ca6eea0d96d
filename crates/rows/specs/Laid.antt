-- Runs of cells of a memory, and what it is to move them to a row buffer and back.
use Rattle.std.specs.Prelude.{◌≡◌, ℕ, ◌+◌, ◌<◌, ◌≤◌, Bool, false, ◌⊎◌, List, Ok, Err, Result, ◌≢◌}
use Rattle.refusal.specs.Order.{Unless, Never}
use Rattle.refusal.specs.declared.Refusal.{Refusal}
use Rattle.refusal.specs.declared.Refusal.TheVariants.{Length, Cell}
use Rattle.bits.specs.Bits.{bit_at, Sized, Buffer}
use Rattle.memory.specs.Mem.{Mem, Unchanged}
use Rattle.galois.specs.Lists.{tabulate}
use Rattle.bch.specs.Buffers.{shown}

-- what the n cells from cell a on show
abbrev pub run : Mem → ℕ → ℕ → List Bool
run m a n = tabulate (λ j. m.bit (a + j)) n

-- m' is m with the n cells from a on showing `cell 0`, `cell 1` ..; nothing else changed: no other cell, and no cell of the bottom that lies
-- at none of their places
pub record Laid (a n : ℕ) (cell : ℕ → Bool) (m m' : Mem) : Type 0 where
  pub layout : m'.layout ≡ m.layout
  pub here : (j : ℕ) → j < n → m'.bit (a + j) ≡ cell j
  pub there : (c : ℕ) → c < m.layout.cells → (c < a) ⊎ (a + n ≤ c) → m'.bit c ≡ m.bit c
  pub beneath : (b : ℕ) → b < m.layout.bottom.cells → ((j : ℕ) → j < n → m.layout.bottom.place b ≢ m.layout.place (a + j))
      → m'.held b ≡ m.held b

-- whether the buffer is one for n bits, and then whether there are n cells from a on
abbrev pub RunFits : {U : Type 0} → Mem → (a n : ℕ) (buffer : List ℕ) → Result U Refusal → Type 0
RunFits m a n buffer (Ok u) = (a + n ≤ m.layout.cells) × Sized n buffer
RunFits m a n buffer (Err e) = Unless (Sized n buffer) Length (Unless (a + n ≤ m.layout.cells) Cell Never) e

-- the buffer `after` shows the n cells from a on; a refusal leaves it as it was
abbrev pub Gathered : {U : Type 0} → Mem → (a n : ℕ) (before after : List ℕ) → Result U Refusal → Type 0
Gathered m a n before after (Ok u) = (a + n ≤ m.layout.cells) × Sized n before × Buffer n after × (shown n after ≡ run m a n)
Gathered m a n before after (Err e) = Unless (Sized n before) Length (Unless (a + n ≤ m.layout.cells) Cell Never) e × (after ≡ before)

-- the n cells from a on show the bits of the buffer, and nothing else changed; a refusal changes nothing
abbrev pub Scattered : {U : Type 0} → Mem → Mem → (a n : ℕ) (buffer : List ℕ) → Result U Refusal → Type 0
Scattered m m' a n buffer (Ok u) = (a + n ≤ m.layout.cells) × Sized n buffer × Laid a n (bit_at 8 buffer) m m'
Scattered m m' a n buffer (Err e) = Unless (Sized n buffer) Length (Unless (a + n ≤ m.layout.cells) Cell Never) e × Unchanged m m'

-- the first n cells are zero, and nothing else changed; a refusal changes nothing
abbrev pub Zeroed : {U : Type 0} → Mem → Mem → ℕ → Result U Refusal → Type 0
Zeroed m m' n (Ok u) = (n ≤ m.layout.cells) × Laid 0 n (λ _. false) m m'
Zeroed m m' n (Err e) = Unless (n ≤ m.layout.cells) Cell Never e × Unchanged m m'
