-- A row buffer that is filled cell by cell.
use Rattle.std.proofs.Common.{◌≡◌, ℕ, ◌+◌, Bool, false, cond, ltb, List, ◌∙◌}
use Rattle.std.proofs.lemmas.Bool.{lt-ltb, le-ltb}
use Rattle.bits.specs.Bits.{bit_at, Sized, Buffer}
use Rattle.memory.specs.Mem.{Mem}
use Rattle.galois.proofs.Tabulated.{tabulate-cong}
use Rattle.bch.specs.Buffers.{shown}
use Rattle.rows.specs.Laid.{run}

-- the first j bits of the buffer are those of the cells, and those past j are zero
abbrev pub Filled : (ℕ → Bool) → ℕ → ℕ → List ℕ → Type 0
Filled bit a j row = (i : ℕ) → bit_at 8 row i ≡ cond (ltb i j) (bit (a + i)) false

pub filled_all : (m : Mem) (a n : ℕ) (row : List ℕ) → Sized n row → Filled m.bit a n row → Buffer n row × (shown n row ≡ run m a n)
filled_all m a n row sized p = (
  record { sized = sized; unused = λ j ge lt. p j ∙ rw (le-ltb j n ge) },
  tabulate-cong (bit_at 8 row) (λ j. m.bit (a + j)) n (λ j lt. p j ∙ rw (lt-ltb j n lt)),
)
