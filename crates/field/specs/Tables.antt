-- The tables of a house field: the powers of alpha, over two turns, the exponent of each element, and the syndromes of each byte of a row.
use Rattle.std.specs.Prelude.{◌≡◌, ℕ, zero, suc, ◌+◌, ◌-◌, ◌*◌, ◌^◌, ◌<◌, cond, List, [], slice_index, slice_index_or}
use Rattle.bits.specs.Bits.{bit_of}
use Rattle.galois.specs.House.{house}
use Rattle.galois.specs.Model.{FieldModel, power}
use Rattle.field.specs.declared.syndromes.Syndromes.{Syndromes}

abbrev pub Tables : ℕ → List ℕ → List ℕ → Type 0
Tables m powers exponents =
    ((p : ℕ) → p < 2 ^ m - 1 → slice_index powers p ≡ power (house m) p)
    × ((p : ℕ) → p < 2 ^ m - 1 → slice_index powers (p + (2 ^ m - 1)) ≡ power (house m) p)
    × ((p : ℕ) → p < 2 ^ m - 1 → slice_index exponents (power (house m) p) ≡ p)
    × (slice_index exponents 0 ≡ 2 ^ m - 1)

-- what the lowest k bits of the byte v, the q-th of a row, add to S_i
unfoldable pub bit_sums : FieldModel → ℕ → ℕ → ℕ → ℕ → ℕ
bit_sums F i q v zero = 0
bit_sums F i q v (suc k) = F.add (bit_sums F i q v k) (cond (bit_of v k) (power F (i * (8 * q + k))) 0)

-- what the byte v, the q-th of a row, adds to S_1, S_3 and S_5
abbrev pub byte_sums : FieldModel → ℕ → ℕ → Syndromes
byte_sums F q v = record { s1 = bit_sums F 1 q v 8; s3 = bit_sums F 3 q v 8; s5 = bit_sums F 5 q v 8 }

-- entry v of row q is what the byte v adds to the syndromes as the q-th of a row
abbrev pub ByteSums : ℕ → List (List Syndromes) → Type 0
ByteSums m table = (q v : ℕ) → q < 32 → v < 256 → (none : Syndromes) → slice_index_or (slice_index_or table q []) v none ≡ byte_sums (house m) q v
