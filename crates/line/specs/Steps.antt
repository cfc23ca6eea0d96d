-- What a step through the lines of an input gives.
use Rattle.std.specs.Prelude.{◌≡◌, ℕ, List, [], ◌∷◌, Some, None, Option}
use Rattle.std.specs.Borrow.{Bor}
use Rattle.line.specs.declared.input.Lines.{Lines}
use Rattle.line.specs.Lines.{lines_of}

-- The input that has not been given out yet.
abbrev pub remaining : Lines → List ℕ
remaining s = s.rest.now

-- A step gives the first line that remains, and leaves the others; where there is none it changes nothing.
abbrev pub Steps : Lines → Option (Bor (List ℕ)) → Lines → Type 0
Steps s None t = (lines_of (remaining s) ≡ []) × (remaining t ≡ remaining s)
Steps s (Some line) t = lines_of (remaining s) ≡ line.now ∷ lines_of (remaining t)
