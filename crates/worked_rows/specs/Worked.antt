-- Worked rows, all over the house field of degree 4, with 15 cells to a row in two bytes.
use Rattle.std.specs.Prelude.{◌≡◌, ℕ, List, [], ◌∷◌, Ok, Err, Result}
use Rattle.refusal.specs.declared.Refusal.{Refusal}
use Rattle.refusal.specs.declared.Refusal.TheVariants.{NoCodeRow}
use Rattle.galois.specs.House.{house}
use Rattle.galois.specs.Lists.{All}
use Rattle.galois.specs.Model.{FieldModel, power}
use Rattle.galois.specs.Ring.{numbers}
use Rattle.galois.specs.Rows.{syndrome, data_cells, data_of, Systematic}
use Rattle.galois.specs.Sums.{D2, D3}
use Rattle.bch.specs.Buffers.{shown}
use Rattle.corrector.specs.Corrected.{Corrected}

abbrev pub F : FieldModel
F = house 4

-- ---- powers: alpha ^ p is x
pub record Power : Type 0 where
  pub p : ℕ
  pub x : ℕ

abbrev pub PowerHolds : Power → Type 0
PowerHolds k = power F k.p ≡ k.x

abbrev pub powers : List Power
powers = record { p = 4; x = 3 } ∷ record { p = 7; x = 11 } ∷ record { p = 14; x = 9 } ∷ record { p = 15; x = 1 } ∷ []

-- ---- code rows: for t, the row is the code row of the data
pub record Encoding : Type 0 where
  pub t : ℕ
  pub given : List ℕ
  pub row : List ℕ

abbrev pub EncodingHolds : Encoding → Type 0
EncodingHolds k = Systematic F k.t (shown (data_cells 4 k.t) k.given) (shown 15 k.row)

abbrev pub encodings : List Encoding
encodings =
    record { t = 2; given = 0x01 ∷ []; row = 0xD1 ∷ 0x01 ∷ [] }
    ∷ record { t = 3; given = 0x01 ∷ []; row = 0x37 ∷ 0x05 ∷ [] }
    ∷ []

-- ---- corrections: a row, its syndromes and determinants, and what a corrector of t errors makes of it
pub record Correction : Type 0 where
  pub t : ℕ
  pub row : List ℕ
  pub s1 : ℕ
  pub s3 : ℕ
  pub s5 : ℕ
  pub d2 : ℕ
  pub d3 : ℕ
  pub after : List ℕ
  pub answer : Result ℕ Refusal

pub record CorrectionHolds (k : Correction) : Type 0 where
  pub first : syndrome F 1 (shown 15 k.row) ≡ k.s1
  pub third : syndrome F 3 (shown 15 k.row) ≡ k.s3
  pub fifth : syndrome F 5 (shown 15 k.row) ≡ k.s5
  pub second_determinant : D2 (numbers F) k.s1 k.s3 ≡ k.d2
  pub third_determinant : D3 (numbers F) k.s1 k.s3 k.s5 ≡ k.d3
  pub corrected : Corrected F k.t k.row k.after k.answer

abbrev pub corrections : List Correction
corrections =
    -- the zero row turned at 3 and 10: two errors
    record { t = 2; row = 0x08 ∷ 0x04 ∷ []; s1 = 15; s3 = 11; s5 = 7; d2 = 7; d3 = 0; after = 0x00 ∷ 0x00 ∷ []; answer = Ok 2 }
    -- turned at 0, 5 and 10: S_1 is zero, and a code of two errors has no code row near
    ∷ record { t = 2; row = 0x21 ∷ 0x04 ∷ []; s1 = 0; s3 = 1; s5 = 0; d2 = 1; d3 = 1; after = 0x21 ∷ 0x04 ∷ []; answer = Err NoCodeRow }
    -- but one of three errors has
    ∷ record { t = 3; row = 0x21 ∷ 0x04 ∷ []; s1 = 0; s3 = 1; s5 = 0; d2 = 1; d3 = 1; after = 0x00 ∷ 0x00 ∷ []; answer = Ok 3 }
    -- a code row for two errors: every determinant is zero, and it is no code row for three, nor near one
    ∷ record { t = 3; row = 0xD1 ∷ 0x01 ∷ []; s1 = 0; s3 = 0; s5 = 7; d2 = 0; d3 = 0; after = 0xD1 ∷ 0x01 ∷ []; answer = Err NoCodeRow }
    -- turned at 3 and 10, for one error: position 12 is turned as well
    ∷ record { t = 1; row = 0x08 ∷ 0x04 ∷ []; s1 = 15; s3 = 11; s5 = 7; d2 = 7; d3 = 0; after = 0x08 ∷ 0x14 ∷ []; answer = Ok 1 }
    ∷ []

-- the whole list, and the data of the row that was corrected to a wrong one
pub record WorkedRows : Type 0 where
  pub powers_hold : All PowerHolds powers
  pub encodings_hold : All EncodingHolds encodings
  pub corrections_hold : All CorrectionHolds corrections
  pub data_of_the_last : data_of F 1 (shown 15 (0x08 ∷ 0x14 ∷ [])) ≡ shown 11 (0x40 ∷ 0x01 ∷ [])
