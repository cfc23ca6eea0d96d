-- What a book means, from what its corrector and its memory mean.
use Rattle.std.specs.Prelude.{◌≡◌}
use Rattle.field.specs.declared.Field.{Ghosts as Fields}
use Rattle.corrector.specs.declared.Corrector.{Ghosts as Correctors}
use Rattle.memory.specs.declared.Memory.{Ghosts as Memories}
use Rattle.book.specs.declared.Book.{Book}
use Rattle.book.specs.Model.{BookModel}

abbrev pub meaning : {C M : Type 0} → Fields C → Correctors C → Memories M → Book C M → BookModel
meaning field corrector memory b = record {
  field = field.model b.corrector;
  strength = corrector.strength b.corrector;
  reach = b.reach;
  rows = b.rows;
  memory = memory.means b.memory;
}

-- the corrector and the figures stay as they are: a clause of its own in each call that changes a book, since its callers cite it alone
abbrev pub Kept : {C M : Type 0} → Book C M → Book C M → Type 0
Kept b b' = (b'.corrector ≡ b.corrector) × (b'.reach ≡ b.reach) × (b'.rows ≡ b.rows)
