-- Two bytes are the two's complement number that they make, and no other pair is.
use Rattle.std.proofs.Common.{◌≡◌, ℕ, ◌+◌, ◌*◌, ◌/◌, ◌%◌, ◌<◌, List, [], ◌∷◌, length, get_or, arith}
use Rattle.entry.specs.TwosComplement.{unsigned_of, signed_of, bytes_of, number_of}

unsigned_signed : (n : ℕ) → n < 65536 → unsigned_of (signed_of n) ≡ n
unsigned_signed n h = grind arith

pub bytes_back : (bytes : List ℕ) → length bytes ≡ 2 → get_or bytes 0 0 < 256 → get_or bytes 1 0 < 256 → bytes_of (number_of bytes) ≡ bytes
bytes_back [] n a b = absurd (omega arith)
bytes_back (x ∷ []) n a b = absurd (omega arith)
bytes_back (x ∷ y ∷ []) n a b =
    let u : unsigned_of (number_of (x ∷ y ∷ [])) ≡ x + 256 * y = unsigned_signed (x + 256 * y) (omega arith) in
    let l : unsigned_of (number_of (x ∷ y ∷ [])) % 256 ≡ x = omega arith in
    let k : unsigned_of (number_of (x ∷ y ∷ [])) / 256 ≡ y = omega arith in
    λ i. l i ∷ k i ∷ []
bytes_back (x ∷ y ∷ z ∷ zs) n a b = absurd (omega arith)
