-- A mask of m set bits reads a number modulo 2 ^ m.
use Rattle.std.proofs.Common.{◌≡◌, ℕ, ◌-◌, ◌*◌, ◌/◌, ◌%◌, ◌^◌, ◌≤◌, sym, ap, ◌∙◌, arith, lit≤}
use lib.Bits.{bit_and, bit_xor, and_mask, xor_mod, xor_zero_r}
use Rattle.galois.specs.House.{Fit, pick, reducer, shift}
use Rattle.galois.proofs.HouseRing.{each}

pub byte : (m : ℕ) → Fit m → 2 ^ m ≤ 256
byte = each (λ k. 2 ^ k ≤ 256) (lit≤ tt) (lit≤ tt) (lit≤ tt) (lit≤ tt) (lit≤ tt)

module _ (m n : ℕ) (mask : n ≡ 2 ^ m - 1) where
  pub masked : (a : ℕ) → bit_and a n ≡ a % 2 ^ m
  masked a = ap (bit_and a) mask ∙ and_mask a m

  pub masked_sum : (a b : ℕ) → bit_and (bit_xor a b) n ≡ bit_xor (a % 2 ^ m) (b % 2 ^ m)
  masked_sum a b = masked (bit_xor a b) ∙ xor_mod a b m

  -- a doubled, and reduced where x ^ m came up
  pub carried : (a r : ℕ) → r ≡ reducer m → a / 2 ^ (m - 1) % 2 ≡ 1 → bit_and (bit_xor (a * 2) r) n ≡ shift m a
  unfolding shift
  carried a r e bit =
      masked_sum (a * 2) r
      ∙ ap (bit_xor ((a * 2) % 2 ^ m)) (ap (λ z. z % 2 ^ m) e ∙ ap (λ b. pick b (reducer m % 2 ^ m)) (sym bit))

  pub uncarried : (a : ℕ) → (a / 2 ^ (m - 1) % 2 ≡ 1 → ⊥) → bit_and (a * 2) n ≡ shift m a
  unfolding shift
  uncarried a bit =
      let z : 0 ≡ a / 2 ^ (m - 1) % 2 = omega arith in
      masked (a * 2) ∙ sym (xor_zero_r ((a * 2) % 2 ^ m)) ∙ ap (λ b. bit_xor ((a * 2) % 2 ^ m) (pick b (reducer m % 2 ^ m))) z
