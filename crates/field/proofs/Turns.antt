-- The turns of the loops that multiply, raise to a power and look for an exponent.
use Rattle.std.proofs.Common.{◌≡◌, ℕ, zero, suc, ◌+◌, ◌-◌, ◌/◌, ◌%◌, ◌^◌, ◌<◌, ◌≤◌, fold, sym, ap, ◌∙◌, add-one, arith}
use Rattle.std.specs.List.{range_with_len}
use lib.Bits.{bit_xor, xor_assoc, xor_zero_r}
use Rattle.galois.specs.House.{Fit, house, pick, shift, product}
use Rattle.galois.specs.Model.{IsExponent, power}
use Rattle.galois.proofs.House.{house-laws}
use Rattle.galois.proofs.HousePowers.{times-two}
use Rattle.galois.proofs.Laws.{power-unit}

pub power-next : (m p : ℕ) → Fit m → shift m (power (house m) p) ≡ power (house m) (p + 1)
unfolding power
power-next m p fit = sym (times-two m fit (power (house m) p)) ∙ sym (ap (power (house m)) (add-one p))

-- the number y, times alpha as often as there are items
pub power-fold : (m k a n p y : ℕ) → Fit m → k + n ≡ p → y ≡ power (house m) k → fold (λ y _. shift m y) y (range_with_len a n) ≡ power (house m) p
power-fold m k a zero p y fit whole e = let z : k ≡ p = omega arith in e ∙ ap (power (house m)) z
power-fold m k a (suc n) p y fit whole e = power-fold m (k + 1) _ n p (shift m y) fit (omega arith) (ap (shift m) e ∙ power-next m k fit)

-- one more bit of the left factor
pub product-next : (m i sum left by : ℕ) → i < m
    → bit_xor (bit_xor sum (pick (left % 2) by)) (product m (m - (i + 1)) (left / 2) (shift m by)) ≡ bit_xor sum (product m (m - i) left by)
unfolding product
product-next m i sum left by h =
    let e : suc (m - (i + 1)) ≡ m - i = omega arith in
    xor_assoc sum (pick (left % 2) by) (product m (m - (i + 1)) (left / 2) (shift m by))
    ∙ ap (λ k. bit_xor sum (product m k left by)) e

-- what the test of the lowest bit adds
pub added : (sum left by : ℕ) → left % 2 ≡ 1 → bit_xor sum by ≡ bit_xor sum (pick (left % 2) by)
added sum left by bit = ap (λ b. bit_xor sum (pick b by)) (sym bit)

pub not_added : (sum left by : ℕ) → (left % 2 ≡ 1 → ⊥) → sum ≡ bit_xor sum (pick (left % 2) by)
not_added sum left by bit = let z : 0 ≡ left % 2 = omega arith in sym (xor_zero_r sum) ∙ ap (λ b. bit_xor sum (pick b by)) z

pub product-done : (m i sum left by : ℕ) → m ≤ i → bit_xor sum (product m (m - i) left by) ≡ sum
unfolding product
product-done m i sum left by h =
    let z : m - i ≡ 0 = omega arith in
    ap (λ k. bit_xor sum (product m k left by)) z ∙ xor_zero_r sum

pub found : (m a p : ℕ) → Fit m → p < 2 ^ m - 1 → power (house m) p ≡ a → IsExponent (house m) a p
found m a p fit lt e = record {
  at_zero = λ z. absurd (power-unit (house m) (house-laws m fit) p (omega arith) (e ∙ z));
  at_unit = λ _. (lt, e);
}

-- zero is none of the powers
pub not_found : (m a p : ℕ) → Fit m → a < 2 ^ m → p ≡ 2 ^ m - 1 → ((q : ℕ) → q < p → power (house m) q ≡ a → ⊥) → IsExponent (house m) a p
not_found m a p fit lt e none = record {
  at_zero = λ _. e;
  at_unit = λ pos. let s = (house-laws m fit).powers.some a pos lt in
      let h : s.0 < p = let k = s.1 in omega arith in absurd (none s.0 h s.2);
}
