-- What a trial of one position leaves; no public contract cites it.
use Rattle.std.specs.Prelude.{◌≡◌, ℕ, ◌*◌, ◌<◌, ◌==◌, true, false, not, cond, List, length, Some, None, Option}
use Rattle.bits.specs.Bits.{bit_at}
use Rattle.galois.specs.Model.{FieldModel}
use Rattle.galois.specs.Rows.{Few}
use Rattle.decoding.specs.Classes.{class_of}
use Rattle.field.specs.declared.syndromes.Syndromes.{Syndromes}
use Rattle.field.specs.Syndromes.{with_turn}
use Rattle.corrector.specs.Searched.{Elements}
use Rattle.step_corrector.specs.declared.class.Class.{Class}
use Rattle.step_corrector.specs.declared.trials.Standing.{Standing}
use Rattle.step_corrector.specs.Classes.{number, class_for, falls}

-- k is the class of the syndromes s
abbrev pub Classed : FieldModel → ℕ → Syndromes → Class → Type 0
Classed F t s k = Few t → Elements F s → number k ≡ class_of F t s.s1 s.s3 s.s5

-- the cell at p is turned over, where the buffer has one, and no other changes
abbrev pub Turned : (before after : List ℕ) → ℕ → Type 0
Turned before after p = p < 8 * length before → (i : ℕ) → bit_at 8 after i ≡ cond (i == p) (not (bit_at 8 before i)) (bit_at 8 before i)

-- where the class falls by one with the turn of a position of the element x, this is how the row stands then
abbrev pub Fallen : FieldModel → ℕ → (before : Standing) → ℕ → Option Standing → Type 0
Fallen F t before x (Some kept) =
    (kept.sums ≡ with_turn F before.sums x) × (Elements F kept.sums → kept.class ≡ class_for F t kept.sums)
    × (Elements F kept.sums → falls before.class (class_for F t kept.sums) ≡ true)
Fallen F t before x None = Elements F (with_turn F before.sums x) → falls before.class (class_for F t (with_turn F before.sums x)) ≡ false

-- the turn is kept where the class falls by one; else the row is as it was
abbrev pub Left : (row after : List ℕ) → ℕ → Option Standing → Type 0
Left row after p (Some kept) = Turned row after p
Left row after p None = p < 8 * length row → (i : ℕ) → bit_at 8 after i ≡ bit_at 8 row i

abbrev pub Tried : FieldModel → ℕ → (row after : List ℕ) (p x : ℕ) (before : Standing) → Option Standing → Type 0
Tried F t row after p x before r = Fallen F t before x r × Left row after p r
