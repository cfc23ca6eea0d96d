-- What a step through the positions of a row gives.
use Rattle.std.specs.Prelude.{◌≡◌, ℕ, ◌+◌, ◌<◌, Some, None, Option}
use Rattle.galois.specs.Model.{FieldModel, units, power}

-- the next position of the row with its element, and the position after it is next; none past the last. The field stays
abbrev pub Steps : (F G : FieldModel) (next after : ℕ) → Option (ℕ × ℕ) → Type 0
Steps F G next after (Some (p, x)) = (p ≡ next) × (x ≡ power F next) × (next < units F) × (after ≡ next + 1) × (G ≡ F)
Steps F G next after None = (next ≡ units F) × (after ≡ next) × (G ≡ F)
