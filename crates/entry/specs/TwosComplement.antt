-- How an entry stands in two bytes: as a 16-bit two's complement number, low byte first.
use Rattle.std.specs.Prelude.{ℕ, suc, ◌+◌, ◌-◌, ◌*◌, ◌/◌, ◌%◌, cond, List, [], ◌∷◌, ℤ, pos, negsuc, nat_lt, slice_index}

-- Of the numbers that differ from z by a multiple of 65536, the one from 0 to 65535.
abbrev pub unsigned_of : ℤ → ℕ
unsigned_of (pos n) = n
unsigned_of (negsuc n) = 65536 - suc n

-- The same the other way: the one from -32768 to 32767.
abbrev pub signed_of : ℕ → ℤ
signed_of n = cond (nat_lt n 32768) (pos n) (negsuc (65535 - n))

-- The low byte, then the high byte.
abbrev pub bytes_of : ℤ → List ℕ
bytes_of z = (unsigned_of z % 256) ∷ (unsigned_of z / 256) ∷ []

abbrev pub number_of : List ℕ → ℤ
number_of bytes = signed_of (slice_index bytes 0 + 256 * slice_index bytes 1)
