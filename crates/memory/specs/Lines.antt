-- How the cells of a memory lie among its places: in a line, or interleaved over a line.
use Rattle.std.specs.Prelude.{◌≡◌, ℕ, ◌+◌, ◌*◌, ◌<◌}
use Rattle.memory.specs.Mem.{Layout}

-- The cells lie in a line: each next cell's place is one more.
abbrev pub InLine : Layout → Type 0
InLine l = (k : ℕ) → k + 1 < l.cells → l.place (k + 1) ≡ l.place k + 1

-- The cells are interleaved to depth d and width w over a line that begins at the place `first`: they are whole groups of d rows of
-- w cells, and each group takes d * w places, column after column. So position j of row i of group g lies j * d + i places into its
-- group, and neighbours in a row lie d places apart.
pub record Interleaved (d w : ℕ) (l : Layout) : Type 0 where
  pub deep : 0 < d
  pub wide : 0 < w
  pub groups : ℕ
  pub whole : l.cells ≡ groups * (d * w)
  pub first : ℕ
  pub crossed : (g i j : ℕ) → g < groups → i < d → j < w → l.place ((g * d + i) * w + j) ≡ first + (g * d * w + j * d + i)
