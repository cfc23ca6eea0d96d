-- What turning one bit does to each bit, over the width of the numbers that they are packed in.
use Rattle.std.proofs.Common.{◌≡◌, ℕ, zero, suc, ◌+◌, ◌-◌, ◌*◌, ◌/◌, ◌%◌, ◌^◌, ◌<◌, ◌≤◌, Bool, true, false, cond, not, eqb, ◌≢◌, List, length, get_or, replicate, map, set, Ok, sym, refl, ap, ◌∙◌, ⊎_elim, arith, div-lt_iff_lt-mul, mod-eq_of_lt, one-mul}
use native.Mathlib.Nat.{div_self, div-eq_of_lt, zero-div}
use lib.Bits.{bit_xor, xor_shr, xor_mod}
use lib.ListN.{get_or-replicate, length-replicate}
use Rattle.std.proofs.lemmas.List.{get_or_past, get_or-set_same, get_or-set_other, get_or-map, length-map, map-set, drop-set-lt}
use Rattle.std.proofs.lemmas.Nat.{pow_pos, pow-add, shl-shr, pow_below, div-add-mod', div_below}
use Rattle.std.proofs.lemmas.Bool.{eq-eqb, ne_eqb, cases_eq, cases_order, cases_lt}
use Rattle.bits.specs.Bits.{xor, bit_of, bit_at, turned_at}
use Rattle.bits.specs.Calls.{Changed}

pub pow-bit_same : (j : ℕ) → 2 ^ j / 2 ^ j % 2 ≡ 1
pow-bit_same j = ap (λ n. n % 2) (div_self (pow_pos j))

pub pow-bit_other : (i j : ℕ) → i ≢ j → 2 ^ j / 2 ^ i % 2 ≡ 0
pow-bit_other i j ne =
    ⊎_elim (λ e. absurd (ne e))
    (⊎_elim
    (λ lt.
    let m : ℕ = j - i - 1 in
    let e : 2 ^ j ≡ 2 ^ m * 2 * 2 ^ i = ap (λ n. 2 ^ n) (omega arith) ∙ pow-add 2 (m + 1) i ∙ ap (λ n. n * 2 ^ i) (pow-add 2 m 1) in
    ap (λ n. n / 2 ^ i % 2) e ∙ ap (λ n. n % 2) (shl-shr (2 ^ m * 2) i) ∙ omega arith)
    (λ lt. ap (λ n. n % 2) (div-eq_of_lt (pow_below j i lt))))
    (cases_order i j)

xor-test : (a b : ℕ) → a < 2 → b < 2 → eqb (bit_xor a b) 1 ≡ xor (eqb a 1) (eqb b 1)
xor-test zero zero ha hb = refl
xor-test zero (suc zero) ha hb = refl
xor-test (suc zero) zero ha hb = refl
xor-test (suc zero) (suc zero) ha hb = refl
xor-test zero (suc (suc b)) ha hb = absurd (omega arith)
xor-test (suc zero) (suc (suc b)) ha hb = absurd (omega arith)
xor-test (suc (suc a)) b ha hb = absurd (omega arith)

-- the bits of a sum bit by bit
pub bit_of-xor : (x y i : ℕ) → bit_of (bit_xor x y) i ≡ xor (bit_of x i) (bit_of y i)
bit_of-xor x y i =
    ap (λ n. eqb n 1) (ap (λ n. n % 2) (xor_shr x y i) ∙ xor_mod (x / 2 ^ i) (y / 2 ^ i) 1)
    ∙ xor-test (x / 2 ^ i % 2) (y / 2 ^ i % 2) (omega arith) (omega arith)

xor-true : (b : Bool) → xor b true ≡ not b
xor-true true = refl
xor-true false = refl

pub xor-false : (b : Bool) → xor b false ≡ b
xor-false true = refl
xor-false false = refl

bit_of-turned : (x j i : ℕ) → bit_of (bit_xor x (2 ^ j)) i ≡ cond (eqb i j) (not (bit_of x i)) (bit_of x i)
bit_of-turned x j i =
    bit_of-xor x (2 ^ j) i ∙ ⊎_elim
    (λ (e : i ≡ j). rw (eq-eqb i j e) (ap (λ n. xor (bit_of x i) (eqb n 1)) (ap (λ k. 2 ^ j / 2 ^ k % 2) e ∙ pow-bit_same j) ∙ xor-true (bit_of x i)))
    (λ (ne : i ≡ j → ⊥). rw (ne_eqb i j ne) (ap (λ n. xor (bit_of x i) (eqb n 1)) (pow-bit_other i j ne) ∙ xor-false (bit_of x i)))
    (cases_eq i j)

pub bit_at-turned_at : (w : ℕ) (xs : List ℕ) (k i : ℕ) → k / w < length xs
    → bit_at w (turned_at w xs k) i ≡ cond (eqb i k) (not (bit_at w xs i)) (bit_at w xs i)
bit_at-turned_at w xs k i h =
    ⊎_elim
    (λ (q : i / w ≡ k / w).
    let same : get_or (turned_at w xs k) (i / w) 0 ≡ bit_xor (get_or xs (i / w) 0) (2 ^ (k % w)) = rw q (get_or-set_same xs (k / w) _ 0 h) in
    let test : eqb (i % w) (k % w) ≡ eqb i k = ⊎_elim
    (λ (r : i % w ≡ k % w). eq-eqb _ _ r ∙ sym (eq-eqb i k (sym (div-add-mod' i w) ∙ rw (q, r) (div-add-mod' k w))))
    (λ r. ne_eqb _ _ r ∙ sym (ne_eqb i k (λ e. r (ap (λ n. n % w) e))))
    (cases_eq (i % w) (k % w)) in
    ap (λ n. bit_of n (i % w)) same ∙ bit_of-turned (get_or xs (i / w) 0) (k % w) (i % w)
    ∙ ap (λ t. cond t (not (bit_at w xs i)) (bit_at w xs i)) test)
    (λ (q : i / w ≡ k / w → ⊥).
    ap (λ n. bit_of n (i % w)) (get_or-set_other xs (k / w) (i / w) _ 0 q)
    ∙ ap (λ t. cond t (not (bit_at w xs i)) (bit_at w xs i)) (sym (ne_eqb i k (λ e. q (ap (λ n. n / w) e)))))
    (cases_eq (i / w) (k / w))

-- a number of w bits with bit k turned, as it is in a word
pub word_turned : (x w k : ℕ) → x < 2 ^ w → k < w → w ≤ 32 → bit_xor x (1 * 2 ^ k % 4294967296) % 2 ^ w ≡ bit_xor x (2 ^ k)
word_turned x w k fits lt narrow =
    let one : 2 ^ k < 4294967296 = pow_below k 32 (omega arith) in
    let power : 1 * 2 ^ k % 4294967296 ≡ 2 ^ k = ap (λ n. n % 4294967296) (one-mul (2 ^ k)) ∙ mod-eq_of_lt one in
    rw power (xor_mod x (2 ^ k) w ∙ rw (mod-eq_of_lt fits, mod-eq_of_lt (pow_below k w lt)))

-- Elements that stand for numbers of w bits: setting one whose number has a bit turned turns that bit.
pub set_turns : {A : Type 0} (number : A → ℕ) (numbers : List A → List ℕ) → ((xs : List A) → numbers xs ≡ map number xs)
    → (w : ℕ) (xs : List A) (j : ℕ) (x y : A) → 0 < w → j / w < length xs → x ≡ get_or xs (j / w) x → number y ≡ bit_xor (number x) (2 ^ (j % w))
    → Changed w not (numbers xs) (numbers (set xs (j / w) y)) j (Ok (tt {0}))
set_turns number numbers each w xs j x y wide lt is turned =
    let read : get_or (map number xs) (j / w) 0 ≡ number x = get_or-map number xs (j / w) x 0 lt ∙ ap number (sym is) in
    let set_is : numbers (set xs (j / w) y) ≡ turned_at w (numbers xs) j = each (set xs (j / w) y) ∙ map-set number xs (j / w) y ∙ rw (each, turned, read) in
    let within : j / w < length (numbers xs) = rw (each, length-map) lt in
    rw set_is (
      omega (arith, (div-lt_iff_lt-mul {k = w} wide).0 within),
      λ i. bit_at-turned_at w (numbers xs) j i within,
      λ p h. drop-set-lt p (numbers xs) (j / w) _ (div_below j w p wide (omega arith)),
    )

pub zero_at : (n i : ℕ) → ◌≡◌ {A = ℕ} (get_or (replicate n 0) i 0) 0
zero_at n i = ⊎_elim (λ lt. get_or-replicate n i 0 0 lt) (λ le. get_or_past (replicate n 0) i 0 (rw length-replicate le)) (cases_lt i n)

pub bit_of-zero : (i : ℕ) → bit_of 0 i ≡ false
bit_of-zero i = ap (λ x. eqb (x % 2) 1) (zero-div (2 ^ i))

-- zeros have no bit set
pub bit_at-zeros : (w n k : ℕ) → bit_at w (replicate n 0) k ≡ false
bit_at-zeros w n k = ap (λ x. bit_of x (k % w)) (zero_at n (k / w)) ∙ bit_of-zero (k % w)
