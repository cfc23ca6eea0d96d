-- What each layer makes of the memory below.
use Rattle.std.specs.Prelude.{◌≡◌, ℕ, ◌+◌, ◌*◌, ◌/◌, ◌%◌, ◌<◌, ◌≤◌, Bool, cond, not, ◌&&◌, ◌==◌, nat_le}
use Rattle.memory.specs.Mem.{Mem}
use Rattle.memory.specs.Layered.{layered}
use Rattle.memory.specs.Lines.{InLine, Interleaved}

-- The inverter shows the opposite of each cell.
abbrev pub inverted : Mem → Mem
inverted m = record { layout = m.layout; bit = λ k. not (m.bit k); held = m.held }

-- The window shows the l cells from cell c on. Its figures fit over n cells if there are so many, and at least one;
abbrev pub WindowFits : ℕ → ℕ → ℕ → Type 0
WindowFits c l n = (1 ≤ l) × (c + l ≤ n)

-- as a test;
abbrev pub window_test : ℕ → ℕ → ℕ → Bool
window_test c l n = nat_le 1 l && nat_le (c + l) n

-- where they do not fit, it has no cells.
abbrev pub window_size : ℕ → ℕ → ℕ → ℕ
window_size c l n = cond (window_test c l n) l 0

abbrev pub windowed : ℕ → ℕ → Mem → Mem
windowed c l = layered (window_size c l) (λ n k. c + k)

-- The laws of the window: it has l cells where its figures fit, and else none; its cell k is cell c + k below; and over cells in a
-- line it lies in a line.
pub record WindowLaws (c l : ℕ) (m : Mem) : Type 0 where
  pub fit : WindowFits c l m.layout.cells → (windowed c l m).layout.cells ≡ l
  pub unfit : (WindowFits c l m.layout.cells → ⊥) → (windowed c l m).layout.cells ≡ 0
  pub cell : (k : ℕ) → (windowed c l m).bit k ≡ m.bit (c + k)
  pub place : (k : ℕ) → (windowed c l m).layout.place k ≡ m.layout.place (c + k)
  pub line : InLine m.layout → InLine (windowed c l m).layout

-- The interleaver has rows of w cells, d rows to a group, and lays each group down column after column. Its figures fit over n cells
-- if those are one or more whole groups, d is at most 16 and w at most 255;
abbrev pub InterleaverFits : ℕ → ℕ → ℕ → Type 0
InterleaverFits d w n = (1 ≤ d) × (d ≤ 16) × (1 ≤ w) × (w ≤ 255) × ((q : ℕ) × (1 ≤ q) × (n ≡ q * (d * w)))

-- as a test;
abbrev pub interleaver_test : ℕ → ℕ → ℕ → Bool
interleaver_test d w n = nat_le 1 d && nat_le d 16 && nat_le 1 w && nat_le w 255 && nat_le 1 n && n % (d * w) == 0

-- where they do not fit, it has no cells.
abbrev pub interleaver_size : ℕ → ℕ → ℕ → ℕ
interleaver_size d w n = cond (interleaver_test d w n) n 0

-- Cell k is position k % w of row k / w; below it is in column k % w of that row's group.
abbrev pub crossed : ℕ → ℕ → ℕ → ℕ
crossed d w k = (k / w / d * w + k % w) * d + k / w % d

abbrev pub interleaved : ℕ → ℕ → Mem → Mem
interleaved d w = layered (interleaver_size d w) (λ n k. crossed d w k)

-- The laws of the interleaver: it has all cells below where its figures fit, and else none; position j of row i of group g is cell
-- g * d * w + j * d + i below; and over cells in a line its cells are interleaved to depth d and width w.
pub record InterleaverLaws (d w : ℕ) (m : Mem) : Type 0 where
  pub fit : InterleaverFits d w m.layout.cells → (interleaved d w m).layout.cells ≡ m.layout.cells
  pub unfit : (InterleaverFits d w m.layout.cells → ⊥) → (interleaved d w m).layout.cells ≡ 0
  pub cell : (g i j : ℕ) → i < d → j < w → (interleaved d w m).bit ((g * d + i) * w + j) ≡ m.bit (g * d * w + j * d + i)
  pub place : (g i j : ℕ) → i < d → j < w → (interleaved d w m).layout.place ((g * d + i) * w + j) ≡ m.layout.place (g * d * w + j * d + i)
  pub line : InterleaverFits d w m.layout.cells → InLine m.layout → Interleaved d w (interleaved d w m).layout
