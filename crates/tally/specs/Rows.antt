-- Rows of cells: what a knock leaves of one, how many of its cells it strikes, and every row of a length.
use Rattle.std.specs.Prelude.{ℕ, zero, suc, ◌+◌, Bool, true, false, cond, List, [], ◌∷◌, ◌++◌, map}
use Rattle.std.proofs.Math.Option.{Option, none, some}
use Rattle.memory.specs.Mem.{turned}

-- the row with each cell turned whose position is hit
abbrev pub turned_by : (ℕ → Bool) → List Bool → List Bool
turned_by hit [] = []
turned_by hit (x ∷ xs) = turned (hit 0) x ∷ turned_by (λ j. hit (suc j)) xs

-- how many of the first n positions are hit
abbrev pub hits : (ℕ → Bool) → ℕ → ℕ
hits hit zero = 0
hits hit (suc n) = cond (hit 0) 1 0 + hits (λ j. hit (suc j)) n

-- the sum of the first n values of f
abbrev pub total : (ℕ → ℕ) → ℕ → ℕ
total f zero = 0
total f (suc n) = f 0 + total (λ j. f (suc j)) n

-- every row of n cells
abbrev pub every : ℕ → List (List Bool)
every zero = [] ∷ []
every (suc n) = map (λ row. false ∷ row) (every n) ++ map (λ row. true ∷ row) (every n)

-- the first of a list that passes a test
abbrev pub first : {A : Type 0} → (A → Bool) → List A → Option A
first p [] = none
first p (x ∷ xs) = cond (p x) (some x) (first p xs)
