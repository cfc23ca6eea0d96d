-- `rounded` and `nearest` obey the law of rounding, and the few facts of them that the other proofs use.
use Rattle.std.proofs.Common.{◌≡◌, ℕ, zero, suc, ◌+◌, ◌*◌, ◌<◌, ◌≤◌, ℤ, pos, negsuc, ◌*ℤ◌, neg_ℤ, nat_abs, refl, ap, le_of_suc-le-suc, mod-lt, div-lt_iff_lt-mul, le_antisymm, mul-le-mul_left, div-add-mod', arith}
use native.Mathlib.Nat.{div-eq_of_lt-le, lt_of_mul-lt-mul_left}
use lib.Ieee.Nearest.{div_same}
use borrow.Author.Differences.{ints}
use Rattle.entry.specs.Rounding.{rounded, nearest, WithinHalf, HalfAway, Rounds}

-- ---- sizes

-- equal fractions are rounded alike
pub same_rounded : (a c b d : ℕ) → 0 < c → 0 < d → a * d ≡ b * c → rounded a c ≡ rounded b d
same_rounded a c b d C D e = div_same (2 * a + c) (2 * c) (2 * b + d) (2 * d) (omega arith) (omega arith) (omega arith)

-- a fraction of at most a whole number
pub rounded-le : (a c b : ℕ) → 0 < c → a ≤ b * c → rounded a c ≤ b
rounded-le a c b C h = le_of_suc-le-suc ((div-lt_iff_lt-mul {k = 2 * c} (omega arith)).1 (omega arith))

-- a whole number stays
pub whole_rounded : (a c n : ℕ) → 0 < c → a ≡ n * c → rounded a c ≡ n
whole_rounded a c n C e = div-eq_of_lt-le {k = n} (2 * c) (omega arith) (omega arith)

-- n / d lies from a half below its rounded value, included, to a half above it, not included
rounded-bounds : (n d : ℕ) → 0 < d → (2 * (d * rounded n d) ≤ 2 * n + d) × (2 * n < 2 * (d * rounded n d) + d)
rounded-bounds n d D =
    let P : 0 < 2 * d = omega arith in
    let p = div-add-mod' (2 * n + d) (2 * d) in
    let q = mod-lt (2 * n + d) P in
    (omega arith, omega arith)

-- ---- signs

times-neg : (d : ℕ) (r : ℤ) → pos d *ℤ neg_ℤ r ≡ neg_ℤ (pos d *ℤ r)
times-neg d (pos zero) = omega (arith, ints)
times-neg d (pos (suc k)) = refl
times-neg d (negsuc k) = omega (arith, ints)

-- with both signs turned a number is as near as before
turned : (z : ℤ) (d : ℕ) (r : ℤ) → WithinHalf z d r → WithinHalf (neg_ℤ z) d (neg_ℤ r)
turned z d r h = let e = times-neg d r in omega (arith, ints)

-- of two numbers equally far from zero only one is within a half, unless they are the same
one_sign : (z : ℤ) (d : ℕ) → 0 < d → (r s : ℤ) → WithinHalf z d r → WithinHalf z d s → nat_abs r ≡ nat_abs s → r ≡ s
one_sign z d D (pos a) (pos b) p q e = ap pos e
one_sign z d D (negsuc a) (negsuc b) p q e = omega (arith, ints)
one_sign z d D (pos a) (negsuc b) p q e =
    absurd (let m : d * 1 ≤ d * suc b = mul-le-mul_left d (omega arith) in let f : d * a ≡ d * suc b = ap (λ (k : ℕ). d * k) e in omega (arith, ints))
one_sign z d D (negsuc a) (pos b) p q e =
    absurd (let m : d * 1 ≤ d * suc a = mul-le-mul_left d (omega arith) in let f : d * suc a ≡ d * b = ap (λ (k : ℕ). d * k) e in omega (arith, ints))

-- ---- the law

module _ (n d : ℕ) (D : 0 < d) where
  near_pos : WithinHalf (pos n) d (pos (rounded n d))
  near_pos = let b = rounded-bounds n d D in omega (arith, ints)

  away_pos : HalfAway (pos n) d (pos (rounded n d))
  away_pos (pos k) h =
      let b = rounded-bounds n d D in
      let l : d * k < d * suc (rounded n d) = omega (arith, ints) in
      le_of_suc-le-suc (lt_of_mul-lt-mul_left d l)
  away_pos (negsuc k) h = absurd (let m : d * 1 ≤ d * suc k = mul-le-mul_left d (omega arith) in omega (arith, ints))

near : (z : ℤ) (d : ℕ) → 0 < d → WithinHalf z d (nearest z d)
near (pos n) d D = near_pos n d D
near (negsuc n) d D = turned (pos (suc n)) d (pos (rounded (suc n) d)) (near_pos (suc n) d D)

away : (z : ℤ) (d : ℕ) → 0 < d → HalfAway z d (nearest z d)
away (pos n) d D s h = away_pos n d D s h
away (negsuc n) d D s h = let l = away_pos (suc n) d D (neg_ℤ s) (turned (negsuc n) d s h) in omega (arith, ints)

pub rounds : (z : ℤ) (d : ℕ) → 0 < d → Rounds z d (nearest z d)
rounds z d D =
    record {
      near = near z d D;
      away = away z d D;
      only = λ s h k. one_sign z d D s (nearest z d) h (near z d D) (le_antisymm (away z d D s h) (k (nearest z d) (near z d D)));
    }
