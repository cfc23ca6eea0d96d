-- What the tables of a house field answer, and the turn of the loop that fills them.
use Rattle.std.proofs.Common.{◌≡◌, ℕ, ◌+◌, ◌-◌, ◌^◌, ◌<◌, ◌≤◌, ◌≢◌, List, length, get_or, set, sym, ap, ◌∙◌, subst, ap₂, inl, inr, arith, length-set, get_or-set_other, get_or-set_same, below_more}
use Rattle.std.proofs.lemmas.Bool.{cases_eq, cases_order}
use Rattle.galois.specs.House.{Fit, house, product}
use Rattle.galois.specs.Model.{IsExponent, IsInverse, power}
use Rattle.galois.proofs.House.{house-laws}
use Rattle.galois.proofs.Laws.{power-unit, power-add, power-lt, inverse_of}
use Rattle.galois.proofs.Consequences.{consequences}
use Rattle.field.specs.Tables.{Tables}
use Rattle.field.proofs.Reduced.{byte}
use Rattle.field.proofs.Turns.{found}

pub power-byte : (m p : ℕ) → Fit m → power (house m) p < 256
power-byte m p fit = omega (arith, power-lt (house m) (house-laws m fit) p, byte m fit)

module _ (m : ℕ) (ps es : List ℕ) (fit : Fit m) (t : Tables m ps es) where
  pub exponent-at : (x : ℕ) → x < 2 ^ m → IsExponent (house m) x (get_or es x 0)
  exponent-at x h =
      elim (cases_eq x 0) [
        | inl z ↦ record { at_zero = λ _. ap (λ y. get_or es y 0) z ∙ t.3; at_unit = λ pos. absurd (omega arith) }
        | inr ne ↦
            let pos : 0 < x = omega arith in
            let s = (house-laws m fit).powers.some x pos h in
            let e : s.0 ≡ get_or es x 0 = sym (t.2 s.0 s.1) ∙ ap (λ y. get_or es y 0) s.2 in
            subst (IsExponent (house m) x) e (found m x s.0 fit s.1 s.2)
      ]

  -- the powers stand in the table over two turns
  pub power_at : (s : ℕ) → s < (2 ^ m - 1) + (2 ^ m - 1) → get_or ps s 0 ≡ power (house m) s
  power_at s h = elim (cases_order s (2 ^ m - 1)) [
    | inl e ↦ second (omega arith)
    | inr (inl lt) ↦ t.0 s lt
    | inr (inr gt) ↦ second (omega arith)
  ]
    where
      second : 2 ^ m - 1 ≤ s → get_or ps s 0 ≡ power (house m) s
      second le =
          let whole : (s - (2 ^ m - 1)) + (2 ^ m - 1) ≡ s = omega arith in
          ap (λ k. get_or ps k 0) (sym whole) ∙ t.1 (s - (2 ^ m - 1)) (omega arith)
          ∙ sym ((consequences (house m) (house-laws m fit)).power_comes_round (s - (2 ^ m - 1))) ∙ ap (power (house m)) whole

  pub inverse_at : (x p r : ℕ) → IsExponent (house m) x p → (x ≡ 0 → ⊥) → r ≡ (2 ^ m - 1) - p → IsInverse (house m) x (get_or ps r 0)
  inverse_at x p r e nx er =
      let lt = (e.at_unit (omega arith)).0 in
      subst (IsInverse (house m) x) (sym (ap (λ k. get_or ps k 0) er ∙ power_at ((2 ^ m - 1) - p) (omega arith)))
      (inverse_of (house m) (house-laws m fit) x p e (omega arith))

  pub product_at : (x y p q : ℕ) → IsExponent (house m) x p → IsExponent (house m) y q → (x ≡ 0 → ⊥) → (y ≡ 0 → ⊥)
      → get_or ps (p + q) 0 ≡ product m m x y
  product_at x y p q ex ey nx ny =
      let u = ex.at_unit (omega arith) in
      let v = ey.at_unit (omega arith) in
      let lp = u.0 in
      let lq = v.0 in
      power_at (p + q) (omega arith) ∙ power-add (house m) (house-laws m fit) p q ∙ ap₂ (product m m) u.1 v.1

-- one more power goes into the tables
module _ (m p y : ℕ) (fit : Fit m) (lt : p < 2 ^ m - 1) (ey : y ≡ power (house m) p) where
  module _ (n : ℕ) (en : n ≡ 2 ^ m - 1) (ps : List ℕ) (room : length ps ≡ 512) where
    abbrev filled : List ℕ
    filled = set (set ps p y) (p + n) y

    pub fill_first : ((q : ℕ) → q < p → get_or ps q 0 ≡ power (house m) q) → (q : ℕ) → q < p + 1 → get_or filled q 0 ≡ power (house m) q
    fill_first before =
        let here : p < length ps = omega (arith, byte m fit) in
        below_more (λ q. get_or filled q 0 ≡ power (house m) q) p
        (λ q h. get_or-set_other (set ps p y) (p + n) q y 0 (let ne : q ≢ p + n = omega arith in ne)
        ∙ get_or-set_other ps p q y 0 (let ne : q ≢ p = omega arith in ne) ∙ before q h)
        (get_or-set_other (set ps p y) (p + n) p y 0 (let ne : p ≢ p + n = omega arith in ne) ∙ get_or-set_same ps p y 0 here ∙ ey)

    pub fill_second : ((q : ℕ) → q < p → get_or ps (q + n) 0 ≡ power (house m) q) → (q : ℕ) → q < p + 1 → get_or filled (q + n) 0 ≡ power (house m) q
    fill_second before =
        let here : p + n < length (set ps p y) = simp length-set (omega (arith, byte m fit)) in
        below_more (λ q. get_or filled (q + n) 0 ≡ power (house m) q) p
        (λ q h. get_or-set_other (set ps p y) (p + n) (q + n) y 0 (let ne : q + n ≢ p + n = omega arith in ne)
        ∙ get_or-set_other ps p (q + n) y 0 (let ne : q + n ≢ p = omega arith in ne) ∙ before q h)
        (get_or-set_same (set ps p y) (p + n) y 0 here ∙ ey)

  pub fill-exponents : (es : List ℕ) → length es ≡ 256 → ((q : ℕ) → q < p → get_or es (power (house m) q) 0 ≡ q)
      → (q : ℕ) → q < p + 1 → get_or (set es y p) (power (house m) q) 0 ≡ q
  fill-exponents es le before =
      let room : y < length es = omega (arith, power-byte m p fit) in
      below_more (λ q. get_or (set es y p) (power (house m) q) 0 ≡ q) p
      (λ q h. get_or-set_other es y (power (house m) q) p 0 (λ e. apart q h (e ∙ ey)) ∙ before q h)
      (ap (λ z. get_or (set es y p) z 0) (sym ey) ∙ get_or-set_same es y p 0 room)
    where
      apart : (q : ℕ) → q < p → power (house m) q ≡ power (house m) p → ⊥
      apart q h e = let same : q ≡ p = (house-laws m fit).powers.once q p (omega arith) lt e in omega arith

  pub fill_zero : (es : List ℕ) → get_or es 0 0 ≡ 2 ^ m - 1 → get_or (set es y p) 0 0 ≡ 2 ^ m - 1
  fill_zero es h = get_or-set_other es y 0 p 0 (λ e. power-unit (house m) (house-laws m fit) p (omega arith) (sym ey ∙ sym e)) ∙ h
