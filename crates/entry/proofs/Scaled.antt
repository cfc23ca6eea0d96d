-- What `entry_of` computes: a float of at most 500 in size, times 64, is exact; rounded, it is a whole number of at most 32000, which a cast keeps.
use Rattle.std.proofs.Common.{◌≡◌, ℕ, zero, suc, ◌+◌, ◌-◌, ◌*◌, ◌/◌, ◌%◌, ◌^◌, ◌<◌, ◌≤◌, min, Bool, true, false, cond, ◌&&◌, ◌||◌, T, eqb, ltb, leb, ℤ, pos, negsuc, ◌*ℤ◌, neg_ℤ, Ok, Err, sym, refl, ap, ◌∙◌, subst, true≢false, le_trans, le_of_eq, le_of_suc-le-suc, lt_of_le_of_lt, mul-le-mul_right, mul_assoc, mul_comm, one-mul, lt_of_not-le, mul-one, mul_right_comm, not-le_of_lt, le_of_mul-le-mul_right, mul-div_cancel, arith, lit<, lit≤, ltb→lt, leb→le, pow_pos, pow-add, leb-true}
use mathlib.Core.Bool.{false≢true}
use lib.Pow.{pow-lt}
use lib.Ieee.{Float, nan, inf, fin, binary64, up, down, mul, round, le, to_signed, fits, of_bits}
use lib.Ieee.Fits.{down_pos, and_l, and_r}
use lib.Ieee.Exact.{HasValue, round_exact}
use lib.Ieee.Back.{round_whole}
use Rattle.std.specs.Float.{float_with_sign, round_with}
use Rattle.refusal.specs.declared.Refusal.TheVariants.{Value}
use Rattle.entry.specs.Rounding.{rounded, nearest}
use Rattle.entry.specs.Values.{signed, within_limits, numerator, denominator, entry_of}
use Rattle.entry.proofs.Law.{same_rounded, rounded-le, whole_rounded}

pub sixty_four : of_bits binary64 4634204016564240384 ≡ fin false 1 (pos 6)
unfolding of_bits
sixty_four = refl

pub five_hundred : of_bits binary64 0x407f_4000_0000_0000 ≡ fin false 125 (pos 2)
unfolding of_bits
five_hundred = refl

-- ---- a float is a whole multiple of the smallest one: m * 2 ^ e is m * 2 ^ j times 2 ^ -1074

places : (e : ℤ) → down e ≤ 2 ^ 1074 → (j : ℕ) × (up e * 2 ^ 1074 ≡ 2 ^ j * down e)
places (pos k) h = (k + 1074, sym (pow-add 2 k 1074) ∙ sym (mul-one (2 ^ (k + 1074))))
places (negsuc k) h =
    let g : suc k ≤ 1074 = le_of_suc-le-suc (lt_of_not-le (λ (l : suc 1074 ≤ suc k). not-le_of_lt (pow-lt l) h)) in
    let e : 1074 - suc k + suc k ≡ 1074 = omega arith in
    (1074 - suc k, one-mul (2 ^ 1074) ∙ ap (λ (x : ℕ). 2 ^ x) (sym e) ∙ pow-add 2 (1074 - suc k) (suc k))

no_places : (a b c d : ℕ) → 0 * a * b ≡ 0 * c * d
no_places a b c d = omega arith

on_grid : (s : Bool) (m : ℕ) (e : ℤ) → T (fits binary64 (fin s m e)) → (m < 2 ^ 53) × ((j : ℕ) × (m * up e * 2 ^ 1074 ≡ m * 2 ^ j * down e))
unfolding fits
on_grid s zero e t = (pow_pos 53, (0, no_places (up e) (2 ^ 1074) (2 ^ 0) (down e)))
on_grid s (suc m) e t =
    let A = eqb (suc m % 2) 1 in
    let B = ltb (suc m) (2 ^ 53) in
    let C = leb (down e) (2 ^ 1074) in
    let D = ltb (suc m * up e) (2 ^ 1024 * down e) in
    let u = and_l (A && B && C) D t in
    let p = places e (leb→le _ _ (and_r (A && B) C u)) in
    (ltb→lt _ _ (and_r A B (and_l (A && B) C u)), (p.0, mul_assoc (suc m) (up e) (2 ^ 1074) ∙ ap (λ (x : ℕ). suc m * x) p.1 ∙ sym (mul_assoc (suc m) (2 ^ p.0) (down e))))

-- ---- times 64

product : (s : Bool) (m : ℕ) (e : ℤ) → T (fits binary64 (fin s m e)) → m * up e ≤ 500 * down e → HasValue (round binary64 s (m * up e * 64) (down e * 1)) s (64 * (m * up e)) (down e)
product s m e t h =
    let g = on_grid s m e t in
    let j = g.1.0 in
    let d = down_pos e in
    let p : m * 2 ^ (j + 6) ≡ m * 2 ^ j * 64 = ap (λ (x : ℕ). m * x) (pow-add 2 j 6) ∙ sym (mul_assoc m (2 ^ j) 64) in
    let q : m * up e * 64 * 2 ^ 1074 ≡ m * 2 ^ (j + 6) * down e =
    mul_right_comm (m * up e) 64 (2 ^ 1074) ∙ ap (λ (x : ℕ). x * 64) g.1.1 ∙ mul_right_comm (m * 2 ^ j) (down e) 64 ∙ ap (λ (x : ℕ). x * down e) (sym p) in
    let b : m * 2 ^ (j + 6) * down e ≤ 32000 * 2 ^ 1074 * down e =
    le_trans (le_of_eq (sym q)) (le_trans (mul-le-mul_right (2 ^ 1074) (scaled_limit h)) (le_of_eq (mul_right_comm 32000 (down e) (2 ^ 1074)))) in
    let l : m * 2 ^ (j + 6) < 2 ^ 2098 = lt_of_le_of_lt (le_of_mul-le-mul_right b d) (lit< tt) in
    let r : m * up e * 64 * 2 ^ 1074 ≡ m * 2 ^ (j + 6) * (down e * 1) = q ∙ ap (λ (x : ℕ). m * 2 ^ (j + 6) * x) (sym (mul-one (down e))) in
    let v = round_exact binary64 s (m * up e * 64) (down e * 1) m (j + 6) (subst (λ (x : ℕ). 0 < x) (sym (mul-one (down e))) d) g.0 l r in
    subst (λ (x : ℕ). HasValue (round binary64 s (m * up e * 64) (down e * 1)) s x (down e)) (mul_comm (m * up e) 64)
    (subst (λ (x : ℕ). HasValue (round binary64 s (m * up e * 64) (down e * 1)) s (m * up e * 64) x) (mul-one (down e)) v)
  where
    scaled_limit : m * up e ≤ 500 * down e → m * up e * 64 ≤ 32000 * down e
    scaled_limit k = omega arith

times_64 : (s : Bool) (m : ℕ) (e : ℤ) → T (fits binary64 (fin s m e)) → m * up e ≤ 500 * down e → HasValue (mul binary64 (fin s m e) (fin false 1 (pos 6))) s (64 * (m * up e)) (down e)
unfolding mul
times_64 true m e t h = product true m e t h
times_64 false m e t h = product false m e t h

-- ---- rounded, and cast

cast-keeps : (y : Float) (s : Bool) (h : ℕ) → h ≤ 32000 → HasValue y s h 1 → to_signed 15 y ≡ signed s h
unfolding to_signed
cast-keeps nan s h l v = absurd v
cast-keeps (inf t) s h l v = absurd v
cast-keeps (fin true n d) true h l v =
    let q : n * up d / down d ≡ h = ap (λ (k : ℕ). k / down d) (sym (mul-one (n * up d)) ∙ v.1) ∙ mul-div_cancel h (down_pos d) in
    ap (λ (k : ℕ). neg_ℤ (pos k)) {x = min (n * up d / down d) (2 ^ 15)} {y = h} (omega arith)
cast-keeps (fin false n d) false h l v =
    let q : n * up d / down d ≡ h = ap (λ (k : ℕ). k / down d) (sym (mul-one (n * up d)) ∙ v.1) ∙ mul-div_cancel h (down_pos d) in
    ap pos {x = min (n * up d / down d) (2 ^ 15 - 1)} {y = h} (omega arith)
cast-keeps (fin true n d) false h l v = absurd (true≢false v.0)
cast-keeps (fin false n d) true h l v = absurd (false≢true v.0)

cast-whole : (a c : ℕ) → 0 < c → a ≤ 32000 * c → (s : Bool) (r : ℕ) → r ≡ rounded a c → to_signed 15 (round binary64 s r 1) ≡ signed s (rounded a c)
cast-whole a c C h s r q =
    let l : r ≤ 32000 = le_trans (le_of_eq q) (rounded-le a c 32000 C h) in
    cast-keeps (round binary64 s r 1) s r l (round_whole binary64 s r (le_trans l (lit≤ tt))) ∙ ap (signed s) q

cast-rounded : (x : Float) (s : Bool) (a c : ℕ) → 0 < c → a ≤ 32000 * c → HasValue x s a c → to_signed 15 (round_with rounded rounded binary64 x) ≡ signed s (rounded a c)
unfolding round_with
cast-rounded nan s a c C h v = absurd v
cast-rounded (inf t) s a c C h v = absurd v
cast-rounded (fin true m e) true a c C h v = cast-whole a c C h true (rounded (m * up e) (down e)) (same_rounded (m * up e) (down e) a c (down_pos e) C v.1)
cast-rounded (fin false m e) false a c C h v = cast-whole a c C h false (rounded (m * up e) (down e)) (same_rounded (m * up e) (down e) a c (down_pos e) C v.1)
cast-rounded (fin true m e) false a c C h v = absurd (true≢false v.0)
cast-rounded (fin false m e) true a c C h v = absurd (false≢true v.0)

pub nearest-signed : (s : Bool) (n d : ℕ) → 0 < d → nearest (pos 64 *ℤ signed s n) d ≡ signed s (rounded (64 * n) d)
nearest-signed false n d D = refl
nearest-signed true zero d D = let z = whole_rounded 0 d 0 D (omega arith) in ap pos z ∙ ap (λ (k : ℕ). neg_ℤ (pos k)) (sym z)
nearest-signed true (suc n) d D = go (64 * suc n) (omega arith)
  where
    go : (k : ℕ) → 0 < k → nearest (neg_ℤ (pos k)) d ≡ neg_ℤ (pos (rounded k d))
    go zero h = absurd (omega arith)
    go (suc k) h = refl

-- ---- the test of the limits

le_is : (a b : ℕ) → (ltb (a * 1) b || (eqb (a * 1) b && true)) ≡ leb a b
le_is a b = go (a * 1) (mul-one a)
  where
    go : (x : ℕ) → x ≡ a → (ltb x b || (eqb x b && true)) ≡ leb a b
    go x e = grind arith

tests_limits : (v : Float) → le (float_with_sign false v) (fin false 125 (pos 2)) ≡ within_limits v
unfolding le float_with_sign
tests_limits nan = refl
tests_limits (inf s) = refl
tests_limits (fin s m e) = le_is (m * up e) (500 * down e)

pub accepts : (v : Float) → T (fits binary64 v) → le (float_with_sign false v) (fin false 125 (pos 2)) ≡ true → Ok (to_signed 15 (round_with rounded rounded binary64 (mul binary64 v (fin false 1 (pos 6))))) ≡ entry_of v
accepts v t h = go v t (sym (tests_limits v) ∙ h)
  where
    go : (v : Float) → T (fits binary64 v) → within_limits v ≡ true → Ok (to_signed 15 (round_with rounded rounded binary64 (mul binary64 v (fin false 1 (pos 6))))) ≡ entry_of v
    go nan t b = absurd (false≢true b)
    go (inf s) t b = absurd (false≢true b)
    go (fin s m e) t b =
        let l : m * up e ≤ 500 * down e = leb-true _ _ b in
        ap Ok (cast-rounded _ s (64 * (m * up e)) (down e) (down_pos e) (omega arith) (times_64 s m e t l) ∙ sym (nearest-signed s (m * up e) (down e) (down_pos e)))
        ∙ ap (λ (x : Bool). cond x (Ok (nearest (pos 64 *ℤ signed s (m * up e)) (down e))) (Err Value)) (sym b)

pub refuses : (v : Float) → le (float_with_sign false v) (fin false 125 (pos 2)) ≡ false → Err Value ≡ entry_of v
refuses v h = ap (λ (x : Bool). cond x (Ok (nearest (pos 64 *ℤ numerator v) (denominator v))) (Err Value)) (sym h ∙ tests_limits v)
