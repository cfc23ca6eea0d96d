-- The ring laws of the house fields, by one argument for every degree.
use Rattle.std.proofs.Common.{◌≡◌, ℕ, zero, suc, ◌+◌, ◌-◌, ◌*◌, ◌/◌, ◌%◌, ◌^◌, ◌<◌, ◌≤◌, sym, refl, ap, ◌∙◌, subst, ap₂, inl, inr, mod-lt, mod-eq_of_lt, mul_assoc, mul_comm, add-mul, one-mul, pow-suc, div-add-mod', zero-mul, mul-one, add-one, one-add, arith, pow_pos, shl_lt, shr_lt}
use native.Mathlib.Nat.{div-eq_of_lt}
use Rattle.std.proofs.lemmas.Bool.{cases_eq}
use lib.Bits.{bit_xor, xor_zero_r, xor_self, xor_comm, xor_assoc, xor_shifted, xor_lt}
use lib.Pow.{pow-lt}
use Rattle.galois.specs.House.{Fit, pick, reducer, shift, product, house}
use Rattle.galois.specs.Model.{RingLaws}
use Rattle.galois.proofs.HouseLinear.{product-xor, product-product}

-- what holds at each of the five degrees
pub each : (P : ℕ → Type 0) → P 4 → P 5 → P 6 → P 7 → P 8 → (m : ℕ) → Fit m → P m
each P p4 p5 p6 p7 p8 m fit =
    let lo : 4 ≤ m = fit.0 in
    let hi : m ≤ 8 = fit.1 in
    elim (cases_eq m 4) [
      | inl e ↦ subst P (sym e) p4
      | inr n4 ↦
          elim (cases_eq m 5) [
            | inl e ↦ subst P (sym e) p5
            | inr n5 ↦
                elim (cases_eq m 6) [
                  | inl e ↦ subst P (sym e) p6
                  | inr n6 ↦
                      elim (cases_eq m 7) [
                        | inl e ↦ subst P (sym e) p7
                        | inr n7 ↦
                            let e : 8 ≡ m = omega arith in subst P e p8
                      ]
                ]
          ]
    ]

pick-lt : (b p n : ℕ) → 0 < n → p < n → pick b p < n
pick-lt zero p n h k = h
pick-lt (suc b) p n h k = k

pub shift-lt : (m x : ℕ) → shift m x < 2 ^ m
unfolding shift
shift-lt m x =
    xor_lt m ((x * 2) % 2 ^ m) (pick (x / 2 ^ (m - 1) % 2) (reducer m % 2 ^ m)) (mod-lt (x * 2) (pow_pos m))
    (pick-lt (x / 2 ^ (m - 1) % 2) (reducer m % 2 ^ m) (2 ^ m) (pow_pos m) (mod-lt (reducer m) (pow_pos m)))

pub product_lt : (m k a x : ℕ) → x < 2 ^ m → product m k a x < 2 ^ m
unfolding product
product_lt m zero a x h = pow_pos m
product_lt m (suc k) a x h =
    xor_lt m (pick (a % 2) x) (product m k (a / 2) (shift m x)) (pick-lt (a % 2) x (2 ^ m) (pow_pos m) h)
    (product_lt m k (a / 2) (shift m x) (shift-lt m x))

pub shift-power : (m j : ℕ) → suc j < m → shift m (2 ^ j) ≡ 2 ^ suc j
unfolding shift
shift-power m j h =
    let up : 2 ^ suc j < 2 ^ m = pow-lt h in
    let top : 2 ^ j < 2 ^ (m - 1) = let lt : j < m - 1 = omega arith in pow-lt lt in
    let none : 2 ^ j / 2 ^ (m - 1) ≡ 0 = div-eq_of_lt top in
    ap₂ bit_xor (ap (λ z. z % 2 ^ m) (sym (pow-suc 2 j)) ∙ mod-eq_of_lt up) (ap (λ b. pick (b % 2) (reducer m % 2 ^ m)) none)
    ∙ xor_zero_r (2 ^ suc j)

pick-times : (b x : ℕ) → b < 2 → pick b x ≡ b * x
pick-times zero x h = sym (zero-mul x)
pick-times (suc zero) x h = sym (one-mul x)
pick-times (suc (suc b)) x h = absurd (omega arith)

next : (m k c j : ℕ) → j + suc k ≤ m → product m k c (shift m (2 ^ j)) ≡ product m k c (2 ^ suc j)
unfolding product
next m zero c j h = refl
next m (suc k) c j h = ap (product m (suc k) c) (shift-power m j (omega arith))

low_lt : (a j : ℕ) → (a % 2) * 2 ^ j < 2 ^ suc j
low_lt a j = subst (λ x. (a % 2) * 2 ^ j < 2 ^ x) (one-add j) (shl_lt 1 j (let h : a % 2 < 2 = omega arith in h))

joined : (a j : ℕ) → (a / 2) * 2 ^ suc j + (a % 2) * 2 ^ j ≡ a * 2 ^ j
joined a j =
    ap (λ x. x + (a % 2) * 2 ^ j) (ap (λ x. (a / 2) * x) (pow-suc 2 j ∙ mul_comm (2 ^ j) 2) ∙ sym (mul_assoc (a / 2) 2 (2 ^ j)))
    ∙ sym (add-mul (a / 2 * 2) (a % 2) (2 ^ j))
    ∙ ap (λ x. x * 2 ^ j) (div-add-mod' a 2)

-- the factor 2 ^ j is j shifts, as long as nothing is shifted out
product-power : (m k j a : ℕ) → j + k ≤ m → a < 2 ^ k → product m k a (2 ^ j) ≡ a * 2 ^ j
unfolding product
product-power m zero j a h below = let z : a ≡ 0 = omega arith in sym (ap (λ x. x * 2 ^ j) z ∙ zero-mul (2 ^ j))
product-power m (suc k) j a h below =
    let half : a / 2 < 2 ^ k = shr_lt k 1 (subst (λ x. a < 2 ^ x) (sym (add-one k)) below) in
    let low : (a % 2) * 2 ^ j < 2 ^ suc j = low_lt a j in
    ap₂ bit_xor (pick-times (a % 2) (2 ^ j) (omega arith)) (next m k (a / 2) j h ∙ product-power m k (suc j) (a / 2) (omega arith) half)
    ∙ xor_comm ((a % 2) * 2 ^ j) ((a / 2) * 2 ^ suc j)
    ∙ xor_shifted (a / 2) (suc j) ((a % 2) * 2 ^ j) low
    ∙ joined a j

pub product-one : (m a : ℕ) → a < 2 ^ m → product m m a 1 ≡ a
product-one m a h = product-power m m 0 a (omega arith) h ∙ mul-one a

pub product-comm : (m a b : ℕ) → a < 2 ^ m → b < 2 ^ m → product m m a b ≡ product m m b a
product-comm m a b ha hb =
    ap (product m m a) (sym (product-one m b hb)) ∙ product-product m a b 1 ∙ ap (product m m b) (product-one m a ha)

pub product-assoc : (m a b c : ℕ) → a < 2 ^ m → b < 2 ^ m → c < 2 ^ m → product m m (product m m a b) c ≡ product m m a (product m m b c)
product-assoc m a b c ha hb hc =
    product-comm m (product m m a b) c (product_lt m m a b hb) hc
    ∙ product-product m c a b
    ∙ ap (product m m a) (product-comm m c b hc hb)

pub ring_laws : (m : ℕ) → RingLaws (house m)
ring_laws m = record {
  add_lt = xor_lt m;
  add_comm = λ a b _ _. xor_comm a b;
  add_assoc = λ a b c _ _ _. xor_assoc a b c;
  add_zero = λ a _. xor_zero_r a;
  add_self = λ a _. xor_self a;
  mul_lt = λ a b _ hb. product_lt m m a b hb;
  mul_comm = product-comm m;
  mul_assoc = product-assoc m;
  mul_one = product-one m;
  mul_add = λ a b c _ _ _. product-xor m m a b c;
}
