-- The house fields are lawful, they are the polynomials modulo the reducing one, and nothing else lawful is.
use Rattle.std.proofs.Common.{◌≡◌, ℕ, zero, suc, ◌+◌, ◌-◌, ◌*◌, ◌%◌, ◌^◌, ◌<◌, ◌≤◌, sym, refl, ap, ◌∙◌, subst, ap₂, inl, inr, one-mul, pow-suc, arith, pow_pos}
use lib.Bits.{bit_xor, xor_self, xor_shifted}
use lib.Pow.{pow-lt}
use Rattle.std.proofs.lemmas.Bool.{cases_eq, cases_order}
use Rattle.galois.specs.House.{Fit, reducer, shift, product, house, PolynomialField, Alike, HouseField}
use Rattle.galois.specs.Model.{FieldModel, FieldLaws, power, size, units}
use Rattle.galois.proofs.Laws.{mul_zero, zero_mul, power-lt, power-add}
use Rattle.galois.proofs.HouseLinear.{product-xor}
use Rattle.galois.proofs.HouseRing.{each, ring_laws, shift-power}
use Rattle.galois.proofs.HousePowers.{power-laws, times-two}

pub house-laws : (m : ℕ) → Fit m → FieldLaws (house m)
house-laws m fit = record { low = fit.0; high = fit.1; ring = ring_laws m; powers = power-laws m fit }

bits : (m : ℕ) → Fit m → (i : ℕ) → i < m → power (house m) i ≡ 2 ^ i
unfolding power
bits m fit zero h = refl
bits m fit (suc i) h = times-two m fit (power (house m) i) ∙ ap (shift m) (bits m fit i (omega arith)) ∙ shift-power m i h

root : (m : ℕ) → Fit m → power (house m) m ≡ reducer m % 2 ^ m
unfolding power product shift
root = each (λ m. power (house m) m ≡ reducer m % 2 ^ m) refl refl refl refl refl

polynomial : (m : ℕ) → Fit m → PolynomialField (house m)
polynomial m fit = record { sums = λ a b _ _. refl; bits = bits m fit; root = root m fit }

-- a map of the numbers below 2 ^ m that goes through sums bit by bit
abbrev Additive : ℕ → (ℕ → ℕ) → Type 0
Additive m f = (x y : ℕ) → x < 2 ^ m → y < 2 ^ m → f (bit_xor x y) ≡ bit_xor (f x) (f y)

-- two such maps that agree on the single bits agree
agree : (m : ℕ) (f g : ℕ → ℕ) → Additive m f → Additive m g → ((i : ℕ) → i < m → f (2 ^ i) ≡ g (2 ^ i))
    → (k : ℕ) → k ≤ m → (x : ℕ) → x < 2 ^ k → f x ≡ g x
agree m f g hf hg same zero hk x h =
    let z : x ≡ 0 = omega arith in
    ap f z ∙ hf 0 0 (pow_pos m) (pow_pos m) ∙ xor_self (f 0)
    ∙ sym (ap g z ∙ hg 0 0 (pow_pos m) (pow_pos m) ∙ xor_self (g 0))
agree m f g hf hg same (suc k) hk x h = elim (cases_order x (2 ^ k)) [
  | inl e ↦ split (agree m f g hf hg same k (omega arith)) (omega arith)
  | inr (inl lt) ↦ agree m f g hf hg same k (omega arith) x lt
  | inr (inr gt) ↦ split (agree m f g hf hg same k (omega arith)) (omega arith)
]
  where
    split : ((y : ℕ) → y < 2 ^ k → f y ≡ g y) → 2 ^ k ≤ x → f x ≡ g x
    split below le =
        let double : 2 ^ suc k ≡ 2 ^ k * 2 = pow-suc 2 k in
        let low : x - 2 ^ k < 2 ^ k = omega arith in
        let up : 2 ^ k < 2 ^ m = pow-lt (let lt : k < m = omega arith in lt) in
        let whole : 2 ^ k + (x - 2 ^ k) ≡ x = omega arith in
        let parts : bit_xor (2 ^ k) (x - 2 ^ k) ≡ x =
        ap (λ z. bit_xor z (x - 2 ^ k)) (sym (one-mul (2 ^ k))) ∙ xor_shifted 1 k (x - 2 ^ k) low
        ∙ ap (λ z. z + (x - 2 ^ k)) (one-mul (2 ^ k)) ∙ whole in
        let rest = x - 2 ^ k in
        ap f (sym parts) ∙ hf (2 ^ k) rest up (omega arith)
        ∙ ap₂ bit_xor (same k (omega arith)) (below rest low)
        ∙ sym (hg (2 ^ k) rest up (omega arith)) ∙ ap g parts

module _ (F : FieldModel) (l : FieldLaws F) (p : PolynomialField F) where
  abbrev H : FieldModel
  H = house F.m

  fit : Fit F.m
  fit = (l.low, l.high)

  laws : FieldLaws H
  laws = house-laws F.m fit

  -- up to x ^ m the powers are settled
  first : (i : ℕ) → i < F.m → power F (suc i) ≡ power H (suc i)
  first i h = elim (cases_eq (suc i) F.m) [
    | inl e ↦ ap (power F) e ∙ p.root ∙ sym (ap (power H) e ∙ root F.m fit)
    | inr ne ↦ let lt : suc i < F.m = omega arith in p.bits (suc i) lt ∙ sym (bits F.m fit (suc i) lt)
  ]

  additive : Additive F.m (F.mul F.alpha)
  additive x y hx hy =
      let a = l.powers.alpha_lt in
      ap (F.mul F.alpha) (sym (p.sums x y hx hy)) ∙ l.ring.mul_add F.alpha x y a hx hy
      ∙ p.sums (F.mul F.alpha x) (F.mul F.alpha y) (l.ring.mul_lt F.alpha x a hx) (l.ring.mul_lt F.alpha y a hy)

  times-alpha : (x : ℕ) → x < size F → F.mul F.alpha x ≡ H.mul 2 x
  unfolding power
  times-alpha x h =
      agree F.m (F.mul F.alpha) (H.mul 2) additive (λ a b _ _. product-xor F.m F.m 2 a b)
      (λ i hi. ap (F.mul F.alpha) (sym (p.bits i hi)) ∙ first i hi ∙ ap (H.mul 2) (bits F.m fit i hi))
      F.m (omega arith) x h

  powers : (q : ℕ) → power F q ≡ power H q
  unfolding power
  powers zero = refl
  powers (suc q) = ap (F.mul F.alpha) (powers q) ∙ times-alpha (power H q) (power-lt H laws q)

  -- what is not zero is a power, and powers multiply alike
  products : (a b : ℕ) → a < size F → b < size F → F.mul a b ≡ H.mul a b
  products a b ha hb = elim (cases_eq a 0) [
    | inl z ↦ ap (λ x. F.mul x b) z ∙ zero_mul F l b hb ∙ sym (ap (λ x. H.mul x b) z ∙ zero_mul H laws b hb)
    | inr na ↦ elim (cases_eq b 0) [
      | inl z ↦ ap (F.mul a) z ∙ mul_zero F l a ha ∙ sym (ap (H.mul a) z ∙ mul_zero H laws a ha)
      | inr nb ↦ of_powers (l.powers.some a (omega arith) ha) (l.powers.some b (omega arith) hb)
    ]
  ]
    where
      of_powers : (i : ℕ) × (i < units F) × (power F i ≡ a) → (j : ℕ) × (j < units F) × (power F j ≡ b) → F.mul a b ≡ H.mul a b
      of_powers s t =
          ap₂ F.mul (sym s.2) (sym t.2) ∙ sym (power-add F l s.0 t.0) ∙ powers (s.0 + t.0)
          ∙ power-add H laws s.0 t.0 ∙ ap₂ H.mul (sym (powers s.0) ∙ s.2) (sym (powers t.0) ∙ t.2)

  pub only : Alike F H
  unfolding power
  only = record {
    degree = refl;
    alpha = sym (l.ring.mul_one F.alpha l.powers.alpha_lt) ∙ p.bits 1 (let h = l.low in omega arith);
    add = p.sums;
    mul = products;
  }

pub house-field : (m : ℕ) → Fit m → HouseField m
house-field m fit = record {
  lawful = house-laws m fit;
  polynomial = polynomial m fit;
  only = λ F l p e. subst (λ k. Alike F (house k)) e (only F l p);
}
