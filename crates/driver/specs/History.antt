-- How lines lengthen the history of a book: the calls that led to it, the last one first.
use Rattle.std.specs.Prelude.{◌≡◌, ℕ, ◌⊎◌, List, [], ◌∷◌}
use Rattle.tally.specs.Tally.{Call, write, read, mend, sweep, knock}
use Rattle.book.specs.Model.{BookModel}
use Rattle.book.specs.Calls.{Led}
use Rattle.line.specs.declared.command.Command.{Command}
use Rattle.line.specs.declared.command.Command.TheVariants.{Write, Read, Knock, Mend, Sweep}
use Rattle.line.specs.Spelling.{Spells}

-- The call that a command stands for, as histories name it.
abbrev pub call_of : Command → Call
call_of (Write row byte) = write row (byte ∷ [])
call_of (Read row) = read row 1
call_of (Knock from len) = knock from len
call_of (Mend row) = mend row
call_of Sweep = sweep

-- The history h is j after a line: longer by the call that the line spells; a line that spells none adds none.
abbrev pub Adds : List ℕ → List Call → List Call → Type 0
Adds line h j = ((c : Command) × Spells line c × (j ≡ call_of c ∷ h)) ⊎ (((c : Command) → Spells line c → ⊥) × (j ≡ h))

-- The same of lines one after another.
abbrev pub AddsAll : List (List ℕ) → List Call → List Call → Type 0
AddsAll [] h j = j ≡ h
AddsAll (line ∷ lines) h j = (i : List Call) × Adds line h i × AddsAll lines i j

-- THE LAW: whatever calls led to the book before, they and those that the lines spell lead to the book after.
abbrev pub LeadsOn : BookModel → BookModel → List (List ℕ) → Type 0
LeadsOn b b' lines = (h : List Call) → Led h b → ((j : List Call) × AddsAll lines h j × Led j b')
