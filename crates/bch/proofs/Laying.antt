-- One more bit put down.
use Rattle.std.proofs.Common.{◌≡◌, ℕ, ◌+◌, ◌-◌, ◌<◌, ◌≤◌, Bool, false, cond, eqb, ltb, List, sym, ap, ◌∙◌, ap₂, inl, inr, arith}
use Rattle.std.proofs.lemmas.Bool.{cases_order, cases_lt, eq-eqb, ne_eqb, lt-ltb, le-ltb}
use Rattle.bits.specs.Bits.{bit_of, bit_at}
use Rattle.bch.specs.Steps.{laid}

-- the first j values of f, and one more
pub below_put : (f : ℕ → Bool) (j i : ℕ) → cond (eqb i j) (f j) (cond (ltb i j) (f i) false) ≡ cond (ltb i (j + 1)) (f i) false
below_put f j i = elim (cases_order i j) [
  | inl e ↦ ap (λ b. cond b (f j) (cond (ltb i j) (f i) false)) (eq-eqb i j e) ∙ ap f (sym e) ∙ sym (ap (λ b. cond b (f i) false) (lt-ltb i (j + 1) (omega arith)))
  | inr (inl lt) ↦
      ap₂ (λ a b. cond a (f j) (cond b (f i) false)) (ne_eqb i j (λ e. omega arith)) (lt-ltb i j lt)
      ∙ sym (ap (λ b. cond b (f i) false) (lt-ltb i (j + 1) (omega arith)))
  | inr (inr gt) ↦
      ap₂ (λ a b. cond a (f j) (cond b (f i) false)) (ne_eqb i j (λ e. omega arith)) (le-ltb i j (omega arith))
      ∙ sym (ap (λ b. cond b (f i) false) (le-ltb i (j + 1) (omega arith)))
]

-- the same past the r check cells
pub laid-put : (check r : ℕ) (given : List ℕ) (j i : ℕ)
    → cond (eqb i (r + j)) (bit_at 8 given j) (laid check r given j i) ≡ laid check r given (j + 1) i
laid-put check r given j i = elim (cases_order i (r + j)) [
  | inl e ↦
      let z : i - r ≡ j = omega arith in
      ap (λ b. cond b (bit_at 8 given j) (laid check r given j i)) (eq-eqb i (r + j) e)
      ∙ sym (ap₂ (λ a b. cond a (bit_of check i) (cond b (bit_at 8 given (i - r)) false)) (le-ltb i r (omega arith)) (lt-ltb i (r + (j + 1)) (omega arith)) ∙ ap (bit_at 8 given) z)
  | inr (inl lt) ↦
      ap₂ (λ a b. cond a (bit_at 8 given j) (cond (ltb i r) (bit_of check i) (cond b (bit_at 8 given (i - r)) false))) (ne_eqb i (r + j) (λ e. omega arith)) (lt-ltb i (r + j) lt)
      ∙ sym (ap (λ b. cond (ltb i r) (bit_of check i) (cond b (bit_at 8 given (i - r)) false)) (lt-ltb i (r + (j + 1)) (omega arith)))
  | inr (inr gt) ↦
      ap₂ (λ a b. cond a (bit_at 8 given j) (cond (ltb i r) (bit_of check i) (cond b (bit_at 8 given (i - r)) false))) (ne_eqb i (r + j) (λ e. omega arith)) (le-ltb i (r + j) (omega arith))
      ∙ sym (ap (λ b. cond (ltb i r) (bit_of check i) (cond b (bit_at 8 given (i - r)) false)) (le-ltb i (r + (j + 1)) (omega arith)))
]

-- the check cells, the data cells, and what is past them
pub laid-low : (check r : ℕ) (given : List ℕ) (k j : ℕ) → j < r → laid check r given k j ≡ bit_of check j
laid-low check r given k j h = ap (λ b. cond b (bit_of check j) (cond (ltb j (r + k)) (bit_at 8 given (j - r)) false)) (lt-ltb j r h)

pub laid-high : (check r : ℕ) (given : List ℕ) (k j : ℕ) → j < k → laid check r given k (r + j) ≡ bit_at 8 given j
laid-high check r given k j h =
    let z : (r + j) - r ≡ j = omega arith in
    ap₂ (λ a b. cond a (bit_of check (r + j)) (cond b (bit_at 8 given ((r + j) - r)) false)) (le-ltb (r + j) r (omega arith)) (lt-ltb (r + j) (r + k) (omega arith))
    ∙ ap (bit_at 8 given) z

pub laid-past : (check r : ℕ) (given : List ℕ) (k j : ℕ) → r + k ≤ j → laid check r given k j ≡ false
laid-past check r given k j h =
    ap₂ (λ a b. cond a (bit_of check j) (cond b (bit_at 8 given (j - r)) false)) (le-ltb j r (omega arith)) (le-ltb j (r + k) h)

-- the check cells alone
pub laid-none : (check r : ℕ) (given : List ℕ) (i : ℕ) → cond (ltb i r) (bit_of check i) false ≡ laid check r given 0 i
laid-none check r given i = elim (cases_lt i r) [
  | inl lt ↦ ap (λ b. cond b (bit_of check i) false) (lt-ltb i r lt) ∙ sym (laid-low check r given 0 i lt)
  | inr le ↦ ap (λ b. cond b (bit_of check i) false) (le-ltb i r le) ∙ sym (laid-past check r given 0 i (omega arith))
]
