-- Values in arcseconds, as floats, and the entries that stand for them: whole numbers of 1/64 arcsecond.
use Rattle.std.specs.Prelude.{◌≡◌, ℕ, ◌*◌, Bool, true, false, cond, ℤ, pos, negsuc, ◌*ℤ◌, neg_ℤ, Ok, Err, Result, nat_le, unsigned_abs, Float}
use Rattle.std.specs.Float.{nan, inf, fin}
use Rattle.std.specs.Float.Ieee.{up, down}
use Rattle.std.specs.Float.Ieee.Exact.{HasValue}
use Rattle.refusal.specs.declared.Refusal.{Refusal}
use Rattle.refusal.specs.declared.Refusal.TheVariants.{Value}
use Rattle.entry.specs.Rounding.{nearest, Rounds}

-- n, or -n where s is true
abbrev pub signed : Bool → ℕ → ℤ
signed true n = neg_ℤ (pos n)
signed false n = pos n

-- z is below zero
abbrev pub is_negative : ℤ → Bool
is_negative (pos n) = false
is_negative (negsuc n) = true

-- A finite float m * 2 ^ e is the exact fraction numerator / denominator, the denominator a power of two.
abbrev pub numerator : Float → ℤ
numerator nan = pos 0
numerator (inf s) = pos 0
numerator (fin s m e) = signed s (m * up e)

abbrev pub denominator : Float → ℕ
denominator nan = 1
denominator (inf s) = 1
denominator (fin s m e) = down e

-- v is a number from -500 to 500.
abbrev pub within_limits : Float → Bool
within_limits nan = false
within_limits (inf s) = false
within_limits (fin s m e) = nat_le (m * up e) (500 * down e)

-- The entry of v: the whole number nearest 64 * v. What is no number, or outside the limits, has none.
abbrev pub entry_of : Float → Result ℤ Refusal
entry_of v = cond (within_limits v) (Ok (nearest (pos 64 *ℤ numerator v) (denominator v))) (Err Value)

-- v is z / 64 exactly, and zero is the zero with no sign.
abbrev pub SixtyFourths : Float → ℤ → Type 0
SixtyFourths v z = HasValue v (is_negative z) (unsigned_abs z) 64

-- The law of an answer for v: an entry rounds the exact number 64 * v, for a v within the limits; a refusal says that v is not.
abbrev pub Represents : Float → Result ℤ Refusal → Type 0
Represents v (Ok r) = (within_limits v ≡ true) × Rounds (pos 64 *ℤ numerator v) (denominator v) r
Represents v (Err e) = (within_limits v ≡ false) × (e ≡ Value)
