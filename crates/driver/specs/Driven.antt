-- What a line does to a book, and what is answered: b is the book before, b' the book after.
use Rattle.std.specs.Prelude.{◌≡◌, ℕ, ◌⊎◌, List, [], ◌∷◌, Err, Result}
use Rattle.refusal.specs.declared.Refusal.{Refusal}
use Rattle.refusal.specs.declared.Refusal.TheVariants.{Line}
use Rattle.book.specs.Model.{BookModel}
use Rattle.book.specs.Promised.{WriteCall, ReadCall, MendCall, SweepCall, KnockCall}
use Rattle.line.specs.declared.command.Command.{Command}
use Rattle.line.specs.declared.command.Command.TheVariants.{Write, Read, Knock, Mend, Sweep}
use Rattle.line.specs.Spelling.{Spells}
use Rattle.answer.specs.declared.Answer.{Answer}
use Rattle.driver.specs.Answered.{Finished, Counted, Filled, Surveyed}

-- A COMMAND that was made: the book's own call, with all that it promises, and its answer. A byte is written from a buffer of one byte, and
-- read into one; a read leaves the book.
abbrev pub Made : BookModel → BookModel → Command → Result Answer Refusal → Type 0
Made b b' (Write row byte) a = Finished (WriteCall b b' row (byte ∷ [])) a
Made b b' (Read row) a = Filled (ReadCall b row (0 ∷ [])) a × (b' ≡ b)
Made b b' (Knock from len) a = Finished (KnockCall b b' from len) a
Made b b' (Mend row) a = Counted (MendCall b b' row) a
Made b b' Sweep a = Surveyed (SweepCall b b') a

-- A LINE that was run: it spells a command, and that was made; or it spells none, is refused with 1, and the book is as it was.
abbrev pub Driven : BookModel → BookModel → List ℕ → Result Answer Refusal → Type 0
Driven b b' line a =
    ((c : Command) × Spells line c × Made b b' c a) ⊎ (((c : Command) → Spells line c → ⊥) × (a ≡ Err Line) × (b' ≡ b))

-- the field, t, the reach and the number of rows stay as they are
abbrev pub SameFigures : BookModel → BookModel → Type 0
SameFigures b b' = (b'.field ≡ b.field) × (b'.strength ≡ b.strength) × (b'.reach ≡ b.reach) × (b'.rows ≡ b.rows)

-- LINES that were run one after another: each from the book that the one before left, and each with one answer.
abbrev pub Ran : BookModel → BookModel → List (List ℕ) → List (Result Answer Refusal) → Type 0
Ran b b' [] [] = b' ≡ b
Ran b b' [] (a ∷ rest) = ⊥
Ran b b' (line ∷ lines) [] = ⊥
Ran b b' (line ∷ lines) (a ∷ rest) = (m : BookModel) × SameFigures b m × Driven b m line a × Ran m b' lines rest
