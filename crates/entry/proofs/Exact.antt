-- What an entry means: the law of `entry_of`, the float of an entry, and the way back.
use Rattle.std.proofs.Common.{◌≡◌, ℕ, suc, ◌*◌, ◌^◌, ◌<◌, ◌≤◌, Bool, true, false, cond, ℤ, pos, negsuc, ◌*ℤ◌, nat_abs, Ok, Err, sym, refl, ap, ◌∙◌, subst, true≢false, le_trans, lt_of_le_of_lt, mul-le-mul_right, mul_assoc, arith, lit<, lit≤, le-leb}
use mathlib.Core.Bool.{false≢true}
use borrow.Author.Tests.{lt-leb}
use lib.Ieee.{Float, nan, inf, fin, binary64, up, down, div, round, of_int}
use lib.Ieee.Fits.{down_pos}
use lib.Ieee.Exact.{HasValue, round_exact}
use lib.Ieee.Scale.{round_same}
use lib.Ieee.Back.{round_whole}
use Rattle.refusal.specs.declared.Refusal.TheVariants.{Value}
use Rattle.entry.specs.Rounding.{nearest}
use Rattle.entry.specs.Values.{signed, is_negative, within_limits, numerator, denominator, entry_of, SixtyFourths, Represents}
use Rattle.entry.proofs.Law.{whole_rounded, rounds}
use Rattle.entry.proofs.Scaled.{nearest-signed}

-- ---- the law

denominator-pos : (v : Float) → 0 < denominator v
denominator-pos nan = lit< tt
denominator-pos (inf s) = lit< tt
denominator-pos (fin s m e) = down_pos e

pub represents : (v : Float) → Represents v (entry_of v)
represents v = go (within_limits v) refl
  where
    go : (b : Bool) → within_limits v ≡ b → Represents v (cond b (Ok (nearest (pos 64 *ℤ numerator v) (denominator v))) (Err Value))
    go true e = (e, rounds (pos 64 *ℤ numerator v) (denominator v) (denominator-pos v))
    go false e = (e, refl)

-- ---- an entry as a float

sixty_fourth : (s : Bool) (n : ℕ) → n ≤ 32768 → HasValue (round binary64 s n 64) s n 64
sixty_fourth s n h =
    round_exact binary64 s n 64 n 1068 (lit< tt) (lt_of_le_of_lt h (lit< tt)) (lt_of_le_of_lt (mul-le-mul_right (2 ^ 1068) h) (lit< tt)) (sym (mul_assoc n (2 ^ 1068) 64))

by_64 : (s : Bool) (m : ℕ) (e : ℤ) (n : ℕ) → m * up e * 1 ≡ n * down e → round binary64 s (m * up e * 1) (64 * down e) ≡ round binary64 s n 64
by_64 s m e n p = round_same binary64 s (m * up e * 1) (64 * down e) n 64 (omega (arith, down_pos e)) (lit< tt) (omega arith)

quotient : (x : Float) (s : Bool) (n : ℕ) → n ≤ 32768 → HasValue x s n 1 → HasValue (div binary64 x (fin false 1 (pos 6))) s n 64
unfolding div
quotient nan s n h v = absurd v
quotient (inf t) s n h v = absurd v
quotient (fin true m e) true n h v = subst (λ (y : Float). HasValue y true n 64) (sym (by_64 true m e n v.1)) (sixty_fourth true n h)
quotient (fin false m e) false n h v = subst (λ (y : Float). HasValue y false n 64) (sym (by_64 false m e n v.1)) (sixty_fourth false n h)
quotient (fin true m e) false n h v = absurd (true≢false v.0)
quotient (fin false m e) true n h v = absurd (false≢true v.0)

pub entry_value : (z : ℤ) → nat_abs z ≤ 32768 → SixtyFourths (div binary64 (of_int binary64 z) (fin false 1 (pos 6))) z
unfolding of_int
entry_value (pos n) h = quotient (round binary64 false n 1) false n h (round_whole binary64 false n (le_trans h (lit≤ tt)))
entry_value (negsuc n) h = quotient (round binary64 true (suc n) 1) true (suc n) h (round_whole binary64 true (suc n) (le_trans h (lit≤ tt)))

-- ---- and back

signed_back : (z : ℤ) → signed (is_negative z) (nat_abs z) ≡ z
signed_back (pos n) = refl
signed_back (negsuc n) = refl

pub way_back : (v : Float) (z : ℤ) → nat_abs z ≤ 32000 → SixtyFourths v z → entry_of v ≡ Ok z
way_back nan z h v = absurd v
way_back (inf s) z h v = absurd v
way_back (fin s m e) z h v =
    let k : nat_abs z * down e ≤ 32000 * down e = mul-le-mul_right (down e) h in
    let l : m * up e ≤ 500 * down e = omega (arith, v.1) in
    ap (λ (x : Bool). cond x (Ok (nearest (pos 64 *ℤ signed s (m * up e)) (down e))) (Err Value)) (le-leb _ _ l)
    ∙ ap Ok (nearest-signed s (m * up e) (down e) (down_pos e) ∙ (λ i. signed (v.0 i) (whole_rounded (64 * (m * up e)) (down e) (nat_abs z) (down_pos e) (omega (arith, v.1)) i)) ∙ signed_back z)

pub past-limit : (v : Float) (z : ℤ) → 32000 < nat_abs z → SixtyFourths v z → entry_of v ≡ Err Value
past-limit nan z h v = absurd v
past-limit (inf s) z h v = absurd v
past-limit (fin s m e) z h v =
    let k : 32001 * down e ≤ nat_abs z * down e = mul-le-mul_right (down e) h in
    let l : 500 * down e < m * up e = omega (arith, v.1, down_pos e) in
    ap (λ (x : Bool). cond x (Ok (nearest (pos 64 *ℤ signed s (m * up e)) (down e))) (Err Value)) (lt-leb _ _ l)
