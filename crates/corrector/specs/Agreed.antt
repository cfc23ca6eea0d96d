-- That a correction leaves no choice, and what comparing two of them tells.
use Rattle.std.specs.Prelude.{◌≡◌, ℕ, ◌<◌, List, length, Result, ◌≢◌, slice_index}
use Rattle.refusal.specs.declared.Refusal.{Refusal}
use Rattle.galois.specs.Model.{FieldModel}
use Rattle.corrector.specs.Corrected.{Corrected}
use Rattle.corrector.specs.declared.comparison.Agreement.{Agreement}
use Rattle.corrector.specs.declared.comparison.Agreement.TheVariants.{Alike, Unlike}

-- every number is a byte
abbrev pub Bytes : List ℕ → Type 0
Bytes buffer = (i : ℕ) → i < length buffer → slice_index buffer i < 256

-- whatever corrects a buffer of bytes for one field and one t gives the same answer and leaves the same bytes
abbrev pub OneCorrection : FieldModel → ℕ → Type 0
OneCorrection F t =
    (before first second : List ℕ) (r s : Result ℕ Refusal) → Bytes first → Bytes second → Corrected F t before first r → Corrected F t before second s
    → (r ≡ s) × (first ≡ second)

-- what the comparison of two corrections of one row tells: that they give one answer and leave one row, or that they do not
abbrev pub Compared : (F : FieldModel) (t : ℕ) (G : FieldModel) (u : ℕ) (row : List ℕ) → Agreement → Type 0
Compared F t G u row Alike = (after : List ℕ) × (r : Result ℕ Refusal) × Corrected F t row after r × Corrected G u row after r
Compared F t G u row Unlike =
    (first second : List ℕ) × (r s : Result ℕ Refusal) × Corrected F t row first r × Corrected G u row second s × (r ≡ s → first ≢ second)
