-- Lists: what holds of each element, distinct images, and the list of the first values of a function.
use Rattle.std.specs.Prelude.{ℕ, zero, suc, ◌≢◌, List, [], ◌∷◌}

abbrev pub All : {A : Type 0} (P : A → Type 0) → List A → Type 0
All P [] = Unit {0}
All P (a ∷ l) = P a × All P l

abbrev pub Distinct : {A K : Type 0} (X : A → K) → List A → Type 0
Distinct X [] = Unit {0}
Distinct X (a ∷ l) = All (λ b. X a ≢ X b) l × Distinct X l

-- f 0, f 1, .., f (n - 1)
unfoldable pub tabulate : {A : Type 0} → (ℕ → A) → ℕ → List A
tabulate f zero = []
tabulate f (suc n) = f 0 ∷ tabulate (λ j. f (suc j)) n
