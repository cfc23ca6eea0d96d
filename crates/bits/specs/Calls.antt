-- What the calls on buffers answer and leave.
use Rattle.std.specs.Prelude.{◌≡◌, ℕ, ◌*◌, ◌<◌, ◌≤◌, Bool, cond, List, length, drop, Ok, Err, Result, ◌==◌}
use Rattle.refusal.specs.Order.{Unless, Never}
use Rattle.refusal.specs.declared.Refusal.{Refusal}
use Rattle.refusal.specs.declared.Refusal.TheVariants.{Length, UnusedBit, Cell}
use Rattle.bits.specs.Bits.{bit_at, Sized, Unused, Buffer}

-- bit j of numbers of w bits each
abbrev pub Got : ℕ → List ℕ → ℕ → Result Bool Refusal → Type 0
Got w buffer j (Ok b) = (j < w * length buffer) × (b ≡ bit_at w buffer j)
Got w buffer j (Err e) = (w * length buffer ≤ j) × (e ≡ Cell)

-- bit j is made f of what it was, no other bit changes, and no number past that of bit j
abbrev pub Changed : {U : Type 0} → ℕ → (Bool → Bool) → List ℕ → List ℕ → ℕ → Result U Refusal → Type 0
Changed w f before after j (Ok u) =
    (j < w * length before)
    × ((i : ℕ) → bit_at w after i ≡ cond (i == j) (f (bit_at w before i)) (bit_at w before i))
    × ((p : ℕ) → j < w * p → drop p after ≡ drop p before)
Changed w f before after j (Err e) = (w * length before ≤ j) × (e ≡ Cell) × (after ≡ before)

-- whether a buffer is one for n bits: its length is looked at first
abbrev pub Admitted : {U : Type 0} → ℕ → List ℕ → Result U Refusal → Type 0
Admitted n buffer (Ok u) = Buffer n buffer
Admitted n buffer (Err e) = Unless (Sized n buffer) Length (Unless (Unused n buffer) UnusedBit Never) e
