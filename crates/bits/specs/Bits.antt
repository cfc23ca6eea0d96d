-- Bits, and how they lie in numbers and in buffers: bit j of a buffer of bytes is bit j mod 8, 0 the least, of byte j div 8.
use Rattle.std.specs.Prelude.{◌≡◌, ℕ, ◌+◌, ◌*◌, ◌/◌, ◌%◌, ◌^◌, ◌<◌, ◌≤◌, Bool, true, false, not, List, length, ◌==◌, bit_xor, slice_index, slice_set}

-- the sum of two bits
abbrev pub xor : Bool → Bool → Bool
xor true b = not b
xor false b = b

-- bit i of a number, 0 the least
abbrev pub bit_of : ℕ → ℕ → Bool
bit_of x i = x / 2 ^ i % 2 == 1

-- bit j of a list of numbers of w bits each
abbrev pub bit_at : ℕ → List ℕ → ℕ → Bool
bit_at w xs j = bit_of (slice_index xs (j / w)) (j % w)

-- bit j turned over
abbrev pub turned_at : ℕ → List ℕ → ℕ → List ℕ
turned_at w xs j = slice_set xs (j / w) (bit_xor (slice_index xs (j / w)) (2 ^ (j % w)))

-- a buffer for n bits has (n + 7) div 8 bytes
abbrev pub Sized : ℕ → List ℕ → Type 0
Sized n buffer = length buffer ≡ (n + 7) / 8

-- no bit past the first n is set
abbrev pub Unused : ℕ → List ℕ → Type 0
Unused n buffer = (j : ℕ) → n ≤ j → j < 8 * length buffer → bit_at 8 buffer j ≡ false

-- a buffer for n bits: as long as it has to be, its unused high bits zero
pub record Buffer (n : ℕ) (buffer : List ℕ) : Type 0 where
  pub sized : Sized n buffer
  pub unused : Unused n buffer
