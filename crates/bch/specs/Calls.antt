-- What the calls of this crate answer and leave.
use Rattle.std.specs.Prelude.{◌≡◌, ℕ, List, Ok, Err, Result}
use Rattle.refusal.specs.Order.{Unless, Never}
use Rattle.refusal.specs.declared.Refusal.{Refusal}
use Rattle.refusal.specs.declared.Refusal.TheVariants.{Figures, Length, UnusedBit}
use Rattle.bits.specs.Bits.{bit_of, Sized, Unused, Buffer}
use Rattle.galois.specs.Model.{FieldModel, units}
use Rattle.galois.specs.Rows.{Few, data_cells, data_of, Systematic}
use Rattle.bch.specs.Buffers.{shown}
use Rattle.bch.specs.Published.{IsGenerator, ByDivision}

-- k, for a t that fits
abbrev pub Counted : FieldModel → ℕ → Result ℕ Refusal → Type 0
Counted F t (Ok k) = Few t × (k ≡ data_cells F.m t)
Counted F t (Err e) = (Few t → ⊥) × (e ≡ Figures)

-- the generator, as the number whose bits are its coefficients
abbrev pub Generated : FieldModel → ℕ → Result ℕ Refusal → Type 0
Generated F t (Ok g) = Few t × IsGenerator F t (bit_of g)
Generated F t (Err e) = (Few t → ⊥) × (e ≡ Figures)

-- the buffer `after` shows the code row of the data in the buffer `given`, which is the one by division; a refusal leaves it as it was
abbrev pub Encoded : {U : Type 0} → FieldModel → ℕ → (given before after : List ℕ) → Result U Refusal → Type 0
Encoded F t given before after (Ok u) =
    let k = data_cells F.m t in
    Few t × Buffer k given × Sized (units F) before × Buffer (units F) after
    × Systematic F t (shown k given) (shown (units F) after) × ByDivision F t (shown k given) (shown (units F) after)
Encoded F t given before after (Err e) =
    let k = data_cells F.m t in
    Unless (Few t) Figures (Unless (Sized k given × Sized (units F) before) Length (Unless (Unused k given) UnusedBit Never)) e × (after ≡ before)

-- the buffer `after` shows the data of the row in the buffer `row`; a refusal leaves it as it was
abbrev pub Extracted : {U : Type 0} → FieldModel → ℕ → (row before after : List ℕ) → Result U Refusal → Type 0
Extracted F t row before after (Ok u) =
    let k = data_cells F.m t in
    Few t × Buffer (units F) row × Sized k before × Buffer k after × (shown k after ≡ data_of F t (shown (units F) row))
Extracted F t row before after (Err e) =
    let k = data_cells F.m t in
    Unless (Few t) Figures (Unless (Sized (units F) row × Sized k before) Length (Unless (Unused (units F) row) UnusedBit Never)) e × (after ≡ before)
