-- What a search for the code row near a row finds, and what the syndromes say before it.
use Rattle.std.specs.Prelude.{◌≡◌, ℕ, ◌<◌, ◌≤◌, Bool, ◌&&◌, ◌||◌, List, Some, None, Option, ◌==◌, nat_lt}
use Rattle.field.specs.declared.syndromes.Syndromes.{Syndromes}
use Rattle.field.specs.Syndromes.{syndromes_of}
use Rattle.bits.specs.Bits.{bit_at, Buffer}
use Rattle.galois.specs.Model.{FieldModel, size, units}
use Rattle.galois.specs.Rows.{Near, distance}
use Rattle.bch.specs.Buffers.{shown}

-- the first t of the syndromes S_1, S_3 and S_5 are zero: the row is a code row
abbrev pub clean : ℕ → Syndromes → Bool
clean t s = s.s1 == 0 && (nat_lt t 2 || s.s3 == 0) && (nat_lt t 3 || s.s5 == 0)

-- the syndromes are elements of the field
abbrev pub Elements : FieldModel → Syndromes → Type 0
Elements F s = (s.s1 < size F) × (s.s3 < size F) × (s.s5 < size F)

-- the row is made the code row within t positions of it, and the answer is how many cells that turns; or there is none, and then nothing is
-- said of what is left. No bit past the row changes
abbrev pub Searched : FieldModel → ℕ → (before after : List ℕ) → Option ℕ → Type 0
Searched F t before after (Some count) =
    let row = shown (units F) before in
    let code = shown (units F) after in
    Near F t row code × (count ≡ distance row code) × ((j : ℕ) → units F ≤ j → bit_at 8 after j ≡ bit_at 8 before j)
Searched F t before after None = (c : List Bool) → Near F t (shown (units F) before) c → ⊥

-- what a search promises: it is handed a row buffer and its syndromes
abbrev pub Searches : FieldModel → ℕ → Syndromes → (before after : List ℕ) → Option ℕ → Type 0
Searches F t sums before after r =
    Buffer (units F) before → sums ≡ syndromes_of F (bit_at 8 before) (units F) → Searched F t before after r
