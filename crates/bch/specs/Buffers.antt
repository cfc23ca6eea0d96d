-- The cells that a buffer shows.
use Rattle.std.specs.Prelude.{ℕ, Bool, List}
use Rattle.bits.specs.Bits.{bit_at}
use Rattle.galois.specs.Lists.{tabulate}

-- the first n bits of a buffer, as a list of cells
abbrev pub shown : ℕ → List ℕ → List Bool
shown n buffer = tabulate (bit_at 8 buffer) n
