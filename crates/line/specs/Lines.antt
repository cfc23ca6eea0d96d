-- The lines of an input. A line ends with a newline (10), the last one also with the input.
use Rattle.std.specs.Prelude.{◌≡◌, ℕ, cond, List, [], ◌∷◌, ◌++◌, ◌==◌, ◌≢◌}
use Rattle.std.specs.List.{AllByRecursion}

-- A byte in front of the first line; it is a line of its own where there is none.
abbrev pub before : ℕ → List (List ℕ) → List (List ℕ)
before c [] = (c ∷ []) ∷ []
before c (l ∷ ls) = (c ∷ l) ∷ ls

-- The lines of an input: a newline ends an empty line in front of those of the rest, and any other byte belongs to the first of them.
abbrev pub lines_of : List ℕ → List (List ℕ)
lines_of [] = []
lines_of (c ∷ s) = cond (c == 10) ([] ∷ lines_of s) (before c (lines_of s))

-- No byte of s is w.
abbrev pub Lacks : ℕ → List ℕ → Type 0
Lacks w s = AllByRecursion (λ c. c ≢ w) s

-- Each line with a newline behind it, one after another.
abbrev pub joined : List (List ℕ) → List ℕ
joined [] = []
joined (l ∷ ls) = l ++ (10 ∷ joined ls)

-- The input with a newline put behind its last byte, unless that is one already.
abbrev pub ended : List ℕ → List ℕ
ended [] = []
ended (c ∷ []) = cond (c == 10) (c ∷ []) (c ∷ 10 ∷ [])
ended (c ∷ d ∷ s) = c ∷ ended (d ∷ s)

-- The law: no line holds a newline, the lines with their newlines are the input, and only these lines are so.
pub record Cut (s : List ℕ) (ls : List (List ℕ)) : Type 0 where
  pub plain : AllByRecursion (Lacks 10) ls
  pub whole : joined ls ≡ ended s
  pub only : (ms : List (List ℕ)) → AllByRecursion (Lacks 10) ms → joined ms ≡ ended s → ms ≡ ls
