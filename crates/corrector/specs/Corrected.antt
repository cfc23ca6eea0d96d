-- What a corrector does to a row buffer, and that this leaves no choice.
use Rattle.std.specs.Prelude.{◌≡◌, ℕ, Bool, List, Ok, Err, Result}
use Rattle.refusal.specs.Order.{Unless, Never}
use Rattle.refusal.specs.declared.Refusal.{Refusal}
use Rattle.refusal.specs.declared.Refusal.TheVariants.{Length, UnusedBit, NoCodeRow}
use Rattle.bits.specs.Bits.{Sized, Unused, Buffer}
use Rattle.galois.specs.Model.{FieldModel, units}
use Rattle.galois.specs.Rows.{Few, Near, distance}
use Rattle.bch.specs.Buffers.{shown}

-- u is the t that is taken where t is asked for: t itself if it fits, else 1
abbrev pub Strength : (t u : ℕ) → Type 0
Strength t u = (Few t → u ≡ t) × ((Few t → ⊥) → u ≡ 1)

-- the row is made the code row within t positions of it, and the answer is how many cells that turns; refused, and left as it was, where the
-- buffer has the wrong length, then where an unused bit is set, then where no code row is that near
abbrev pub Corrected : FieldModel → ℕ → (before after : List ℕ) → Result ℕ Refusal → Type 0
Corrected F t before after (Ok count) =
    let row = shown (units F) before in
    let code = shown (units F) after in
    Buffer (units F) before × Buffer (units F) after × Near F t row code × (count ≡ distance row code)
Corrected F t before after (Err e) =
    let row = shown (units F) before in
    Unless (Sized (units F) before) Length (Unless (Unused (units F) before) UnusedBit (Unless ((c : List Bool) × Near F t row c) NoCodeRow Never)) e
    × (after ≡ before)
