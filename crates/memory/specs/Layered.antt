-- A layer that shows cells of the memory below in an order of its own.
use Rattle.std.specs.Prelude.{◌≡◌, ℕ, ◌<◌, ◌≤◌, Ok, Err, Result}
use Rattle.refusal.specs.declared.Refusal.{Refusal}
use Rattle.refusal.specs.declared.Refusal.TheVariants.{Cell}
use Rattle.memory.specs.Mem.{Mem}

-- Over n cells the layer has `size n` cells, and its cell k is cell `index n k` below; the span and the bottom are those below.
abbrev pub layered : (ℕ → ℕ) → (ℕ → ℕ → ℕ) → Mem → Mem
layered size index m =
    let n = m.layout.cells in
    record {
      layout = record { cells = size n; span = m.layout.span; place = λ k. m.layout.place (index n k); bottom = m.layout.bottom };
      bit = λ k. m.bit (index n k);
      held = m.held;
    }

-- The layer's cells are cells below, no two of them the same.
pub record Picks (size : ℕ → ℕ) (index : ℕ → ℕ → ℕ) (n : ℕ) : Type 0 where
  pub few : size n ≤ n
  pub into : (k : ℕ) → k < size n → index n k < n
  pub once : (i j : ℕ) → i < size n → j < size n → index n i ≡ index n j → i ≡ j

-- Asking the layer which cell below its cell i is.
abbrev pub Shown : (ℕ → ℕ) → (ℕ → ℕ → ℕ) → ℕ → ℕ → Result ℕ Refusal → Type 0
Shown size index n i (Ok k) = (i < size n) × (k ≡ index n i)
Shown size index n i (Err e) = (size n ≤ i) × (e ≡ Cell)
