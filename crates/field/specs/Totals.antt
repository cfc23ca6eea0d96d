-- The sum of a list of elements.
use Rattle.std.specs.Prelude.{ℕ, List, [], ◌∷◌}
use Rattle.galois.specs.Model.{FieldModel, elem}

abbrev pub total : FieldModel → List ℕ → ℕ
total F [] = 0
total F (x ∷ xs) = F.add (elem F x) (total F xs)
