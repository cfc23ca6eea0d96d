-- The syndromes of a row byte by byte, and the turn of the loop that fills their table. The sums of a house field go bit by bit.
use Rattle.std.proofs.Common.{◌≡◌, ℕ, zero, suc, ◌+◌, ◌*◌, ◌%◌, ◌^◌, ◌<◌, ◌≤◌, Bool, true, false, cond, eqb, ◌≢◌, List, [], length, replicate, get_or, set, sym, refl, ap, ◌∙◌, ap₂, inl, inr, add-zero, add-suc, one-mul, arith, pow_mono, pow_pos}
use native.Mathlib.Nat.{div-eq_of_lt}
use lib.Bits.{bit_xor, xor_zero_l, xor_zero_r, xor_assoc, xor_shifted}
use Rattle.std.proofs.lemmas.List.{get_or-set_same, get_or-set_other}
use Rattle.std.proofs.lemmas.Bool.{cases_eq}
use Rattle.bits.specs.Bits.{xor, bit_of, bit_at}
use Rattle.bits.proofs.Turning.{pow-bit_same, pow-bit_other, bit_of-xor, bit_of-zero}
use Rattle.galois.specs.House.{Fit, house}
use Rattle.galois.specs.Model.{power, sum_of, product-of}
use Rattle.galois.specs.Rows.{power_sum}
use Rattle.galois.proofs.House.{house-laws}
use Rattle.galois.proofs.Laws.{power-lt}
use Rattle.galois.proofs.Powers.{sum_is, cube_is, fifth_is}
use Rattle.field.specs.declared.syndromes.Syndromes.{Syndromes}
use Rattle.field.specs.Syndromes.{syndromes_of, with_turn, plus}
use Rattle.field.specs.Tables.{bit_sums, byte_sums, ByteSums}
use Rattle.field.proofs.Summed.{three, none, bit_of-byte}

-- ---- a byte with its highest bit set
module _ (j low : ℕ) (small : low < 2 ^ j) where
  bits : (b : ℕ) → bit_of (2 ^ j + low) b ≡ xor (bit_of (2 ^ j) b) (bit_of low b)
  bits b =
      ap (λ x. bit_of x b) (sym (ap (λ x. bit_xor x low) (sym (one-mul (2 ^ j))) ∙ xor_shifted 1 j low small ∙ ap (λ x. x + low) (one-mul (2 ^ j))))
      ∙ bit_of-xor (2 ^ j) low b

  low_clear : (b : ℕ) → j ≤ b → bit_of low b ≡ false
  low_clear b le = let up : 2 ^ j ≤ 2 ^ b = pow_mono le in ap (λ y. eqb (y % 2) 1) (div-eq_of_lt (let lt : low < 2 ^ b = omega arith in lt))

  here : bit_of (2 ^ j + low) j ≡ true
  here = bits j ∙ ap₂ (λ a b. xor (eqb a 1) b) (pow-bit_same j) (low_clear j (omega arith))

  elsewhere : (b : ℕ) → b ≢ j → bit_of (2 ^ j + low) b ≡ bit_of low b
  elsewhere b other = bits b ∙ ap (λ a. xor (eqb a 1) (bit_of low b)) (pow-bit_other b j other)

  module _ (m i q : ℕ) where
    abbrev P : ℕ → ℕ
    P k = power (house m) (i * (8 * q + k))

    abbrev sums : ℕ → ℕ → ℕ
    sums v k = bit_sums (house m) i q v k

    up_to : (k : ℕ) → k ≤ j → sums (2 ^ j + low) k ≡ sums low k
    unfolding bit_sums
    up_to zero le = refl
    up_to (suc k) le = ap₂ (λ s b. bit_xor s (cond b (P k) 0)) (up_to k (omega arith)) (elsewhere k (λ e. omega arith))

    past : (k : ℕ) → j < k → sums (2 ^ j + low) k ≡ bit_xor (sums low k) (P j)
    unfolding bit_sums
    past zero lt = absurd (omega arith)
    past (suc k) lt = elim (cases_eq k j) [
      | inl e ↦
          ap₂ (λ s b. bit_xor s (cond b (P k) 0)) (up_to k (omega arith)) (ap (bit_of (2 ^ j + low)) e ∙ here)
          ∙ ap₂ (λ s p. bit_xor s (P p)) (sym (ap (λ b. bit_xor (sums low k) (cond b (P k) 0)) (low_clear k (omega arith)) ∙ xor_zero_r (sums low k))) e
      | inr ne ↦
          ap₂ (λ s b. bit_xor s (cond b (P k) 0)) (past k (omega arith)) (elsewhere k ne ∙ low_clear k (omega arith))
          ∙ xor_zero_r (bit_xor (sums low k) (P j))
          ∙ ap (λ s. bit_xor s (P j)) (sym (ap (λ b. bit_xor (sums low k) (cond b (P k) 0)) (low_clear k (omega arith)) ∙ xor_zero_r (sums low k)))
    ]

    pub with_bit : j < 8 → sums (2 ^ j + low) 8 ≡ bit_xor (sums low 8) (P j)
    with_bit lt = past 8 lt

sums_zero : (m i q k : ℕ) → bit_sums (house m) i q 0 k ≡ 0
unfolding bit_sums
sums_zero m i q zero = refl
sums_zero m i q (suc k) = ap₂ (λ s b. bit_xor s (cond b (power (house m) (i * (8 * q + k))) 0)) (sums_zero m i q k) (bit_of-zero k)

-- ---- the table
-- what turning one position adds
turn : (m p x : ℕ) → Fit m → x ≡ power (house m) p
    → with_turn (house m) none x ≡ record { s1 = power (house m) (1 * p); s3 = power (house m) (3 * p); s5 = power (house m) (5 * p) }
turn m p x fit ex =
    let F = house m in
    let l = house-laws m fit in
    let q = product-of F x x in
    three (alone 1 x (ex ∙ ap (power F) (sym (one-mul p)))) (alone 3 (product-of F q x) (cube_is F l x q (product-of F q x) p ex refl refl))
    (alone 5 (product-of F (product-of F q x) q) (fifth_is F l x q (product-of F q x) p ex refl refl _ refl))
  where
    alone : (i z : ℕ) → z ≡ power (house m) (i * p) → sum_of (house m) 0 z ≡ power (house m) (i * p)
    alone i z ez =
        let F = house m in
        let l = house-laws m fit in
        sum_is F l 0 z (sum_of F 0 z) (0, pow_pos m) (power F (i * p), power-lt F l (i * p)) refl ez refl ∙ xor_zero_l (power F (i * p))

-- the first e entries of row q are filled
abbrev pub Filled : ℕ → ℕ → List Syndromes → ℕ → Type 0
Filled m q sums e = (v : ℕ) (d : Syndromes) → v < e → get_or sums v d ≡ byte_sums (house m) q v

pub fill_zero_byte : (m q : ℕ) → Filled m q (replicate 256 none) 1
fill_zero_byte m q zero d lt = sym (three (sums_zero m 1 q 8) (sums_zero m 3 q 8) (sums_zero m 5 q 8))
fill_zero_byte m q (suc v) d lt = absurd (omega arith)

pub fill_byte : (m q j high low x : ℕ) (new : Syndromes) (sums : List Syndromes) → Fit m → j < 8 → high ≡ 2 ^ j → low < high
    → length sums ≡ 256 → x ≡ power (house m) (8 * q + j) → new ≡ plus (get_or sums low none) (with_turn (house m) none x)
    → Filled m q sums (high + low) → Filled m q (set sums (high + low) new) (high + (low + 1))
fill_byte m q j high low x new sums fit hj eh lt len ex en f v d h =
    let top : 2 ^ j ≤ 2 ^ 7 = pow_mono (let le : j ≤ 7 = omega arith in le) in
    let room : high + low < length sums = omega arith in
    elim (cases_eq v (high + low)) [
      | inl e ↦
          ap (λ z. get_or (set sums (high + low) new) z d) e ∙ get_or-set_same sums (high + low) _ d room
          ∙ en ∙ ap₂ plus (f low none (omega arith)) (turn m (8 * q + j) x fit ex)
          ∙ sym (ap (byte_sums (house m) q) (e ∙ ap (λ h. h + low) eh)
          ∙ three (with_bit j low (omega arith) m 1 q hj) (with_bit j low (omega arith) m 3 q hj) (with_bit j low (omega arith) m 5 q hj))
      | inr ne ↦ get_or-set_other sums (high + low) v _ d ne ∙ f v d (omega arith)
    ]

-- ---- the row
sums_more : (m i q v : ℕ) (c : ℕ → Bool) → ((b : ℕ) → b < 8 → c (8 * q + b) ≡ bit_of v b) → (k : ℕ) → k ≤ 8
    → power_sum (house m) i c (8 * q + k) ≡ bit_xor (power_sum (house m) i c (8 * q)) (bit_sums (house m) i q v k)
unfolding power_sum bit_sums
sums_more m i q v c same zero le = ap (power_sum (house m) i c) (add-zero (8 * q)) ∙ sym (xor_zero_r (power_sum (house m) i c (8 * q)))
sums_more m i q v c same (suc k) le =
    ap (power_sum (house m) i c) (add-suc (8 * q) k)
    ∙ ap₂ (λ s b. bit_xor s (cond b (power (house m) (i * (8 * q + k))) 0)) (sums_more m i q v c same k (omega arith)) (same k (omega arith))
    ∙ xor_assoc (power_sum (house m) i c (8 * q)) (bit_sums (house m) i q v k) (cond (bit_of v k) (power (house m) (i * (8 * q + k))) 0)

-- one byte more
pub sum_byte : (m q v : ℕ) (s : Syndromes) (row : List ℕ) (table : List (List Syndromes)) → ByteSums m table
    → q < 32 → v < 256 → v ≡ get_or row q 0 → s ≡ syndromes_of (house m) (bit_at 8 row) (8 * q)
    → plus s (get_or (get_or table q []) v none) ≡ syndromes_of (house m) (bit_at 8 row) (8 * (q + 1))
sum_byte m q v s row table t hq hv ev es =
    let up : 8 * q + 8 ≡ 8 * (q + 1) = omega arith in
    ap₂ plus es (t q v hq hv none) ∙ three (more 1) (more 3) (more 5) ∙ ap (syndromes_of (house m) (bit_at 8 row)) up
  where
    more : (i : ℕ) → bit_xor (power_sum (house m) i (bit_at 8 row) (8 * q)) (bit_sums (house m) i q v 8) ≡ power_sum (house m) i (bit_at 8 row) (8 * q + 8)
    more i = sym (sums_more m i q v (bit_at 8 row) (λ b h. bit_of-byte row q b h ∙ ap (λ v. bit_of v b) (sym ev)) 8 (omega arith))
