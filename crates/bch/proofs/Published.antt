-- The product of the factors is the published generator, and the code rows are its multiples. Rows are functions of the position here.
use Rattle.std.proofs.Common.{◌≡◌, ℕ, zero, suc, ◌+◌, ◌-◌, ◌<◌, ◌≤◌, Bool, true, false, cond, eqb, ◌⊎◌, [], ◌∷◌, sym, refl, ap, ◌∙◌, ap₂, inl, inr, arith}
use Rattle.std.proofs.lemmas.Bool.{cases_eq, eq-eqb, ne_eqb}
use Rattle.bits.specs.Bits.{xor}
use Rattle.galois.specs.Model.{FieldModel, FieldLaws, units}
use Rattle.galois.specs.Polynomials.{value, generated}
use Rattle.galois.specs.Ring.{pow}
use Rattle.galois.specs.Rows.{Few, check_cells, data_cells}
use Rattle.galois.proofs.Solve.{var, O, ◌⊕◌, ◌⊗◌, solve, mul_zero}
use Rattle.galois.proofs.Polynomials.{pow-add, value-cong, value_none, value-add, value-scale, value-split, value-more, value-square, all_none}
use Rattle.galois.proofs.Generators.{roots, above, top, vanishes-at, roots_apart, starts_vanish}
use Rattle.galois.proofs.Least.{Code}
use Rattle.galois.proofs.Lift.{Element, same, ops, ring2, field2, number, alpha, turn, once}
use Rattle.bch.specs.Published.{shifted, product, IsGenerator}
use Rattle.bch.specs.Steps.{coefficient}
use Rattle.bch.proofs.Cells.{bit_k, bit_k_square, bit_k_xor, bit_k_cond, bit_k_once, row_value, power_sum-value, root_at, generated-number}
use Rattle.bch.proofs.CodeRows.{is_fine, bit_k_coefficient, from_code}

pub xor_self : (b : Bool) → xor b b ≡ false
xor_self true = refl
xor_self false = refl

pub xor-twice : (a b : Bool) → xor (xor a b) b ≡ a
xor-twice true true = refl
xor-twice true false = refl
xor-twice false true = refl
xor-twice false false = refl

pub shifted-low : (i : ℕ) (g : ℕ → Bool) (j : ℕ) → j < i → shifted i g j ≡ false
shifted-low zero g j h = absurd (omega arith)
shifted-low (suc i) g zero h = refl
shifted-low (suc i) g (suc j) h = shifted-low i g j (omega arith)

pub shifted-from : (i : ℕ) (g : ℕ → Bool) (j : ℕ) → i ≤ j → shifted i g j ≡ g (j - i)
shifted-from zero g j h = ap g (omega arith)
shifted-from (suc i) g zero h = absurd (omega arith)
shifted-from (suc i) g (suc j) h = shifted-from i g j (omega arith) ∙ ap g (omega arith)

pub shifted-cong : (i : ℕ) (g h : ℕ → Bool) → ((j : ℕ) → g j ≡ h j) → (j : ℕ) → shifted i g j ≡ shifted i h j
shifted-cong zero g h e j = e j
shifted-cong (suc i) g h e zero = refl
shifted-cong (suc i) g h e (suc j) = shifted-cong i g h e j

pub product-cong : (q p g h : ℕ → Bool) (k j : ℕ) → ((i : ℕ) → i < k → q i ≡ p i) → ((i : ℕ) → g i ≡ h i) → product q g k j ≡ product p h k j
unfolding product
product-cong q p g h zero j e f = refl
product-cong q p g h (suc k) j e f =
    ap₂ xor (product-cong q p g h k j (λ i lt. e i (omega arith)) f) (ap₂ (λ b s. cond b s false) (e k (omega arith)) (shifted-cong k g h f j))

cond-false : (b : Bool) → cond {A = Bool} b false false ≡ false
cond-false true = refl
cond-false false = refl

product-past : (q g : ℕ → Bool) (r : ℕ) → ((i : ℕ) → r < i → g i ≡ false) → (k j : ℕ) → r + k ≤ j → product q g k j ≡ false
unfolding product
product-past q g r h zero j le = refl
product-past q g r h (suc k) j le =
    ap₂ xor (product-past q g r h k j (omega arith))
    (ap (λ s. cond (q k) s false) (shifted-from k g j (omega arith) ∙ h (j - k) (omega arith)) ∙ cond-false (q k))

-- q with its value at k put in
abbrev put : ℕ → Bool → (ℕ → Bool) → ℕ → Bool
put k a q i = cond (eqb i k) a (q i)

put-here : (k : ℕ) (a : Bool) (q : ℕ → Bool) → put k a q k ≡ a
put-here k a q = ap (λ b. cond b a (q k)) (eq-eqb k k refl)

put_other : (k : ℕ) (a : Bool) (q : ℕ → Bool) (i : ℕ) → i < k → put k a q i ≡ q i
put_other k a q i h = ap (λ b. cond b a (q i)) (ne_eqb i k (λ e. omega arith))

cond-true : (b : Bool) → cond b true false ≡ b
cond-true true = refl
cond-true false = refl

-- every number is even or odd
halves : (j : ℕ) → (k : ℕ) × ((j ≡ k + k) ⊎ (j ≡ suc (k + k)))
halves zero = (0, inl refl)
halves (suc j) = up (halves j)
  where
    up : (k : ℕ) × ((j ≡ k + k) ⊎ (j ≡ suc (k + k))) → (k : ℕ) × ((suc j ≡ k + k) ⊎ (suc j ≡ suc (k + k)))
    up p = elim p.1 [ inl q ↦ (p.0, inr (ap suc q)) | inr q ↦ (suc p.0, inl (omega arith)) ]

module _ (F : FieldModel) (l : FieldLaws F) (t : ℕ) (few : Few t) where
  abbrev r : ℕ
  r = check_cells F.m t

  -- the coefficients of the product of the factors, as cells
  abbrev pub g : ℕ → Bool
  g i = eqb (coefficient F r i) 1

  abbrev at : (ℕ → Bool) → ℕ → Element F → Element F
  at c n x = row_value F l c n x

  abbrev b : ℕ → Element F
  b d = root_at F l d

  g_top : g r ≡ true
  g_top = ap (λ y. eqb y 1) (sym (generated-number F l r r) ∙ number F l (top (ring2 F l) (root_at F l) r))

  g_past : (i : ℕ) → r < i → g i ≡ false
  g_past i h = ap (λ y. eqb y 1) (sym (generated-number F l r i) ∙ number F l (above (ring2 F l) (root_at F l) r i h))

  g_root : (d : ℕ) → d < r → at g (suc r) (b d) ≡ (ops F l).o
  g_root d h =
      value-cong (ring2 F l) (λ p. bit_k F l (g p)) (generated (ops F l) (root_at F l) r) (suc r) (b d) (λ i _. bit_k_coefficient F l t few i)
      ∙ roots (ring2 F l) (root_at F l) r d h

  -- x ^ k times g vanishes where g does
  shifted-root : (k s d : ℕ) → d < r → at (shifted k g) (k + (suc r + s)) (b d) ≡ (ops F l).o
  shifted-root k s d h =
      let R = ring2 F l in
      let p = pow (ops F l) (b d) k in
      value-split R (λ i. bit_k F l (shifted k g i)) k (suc r + s) (b d)
      ∙ ap₂ (λ y z. (ops F l).add y ((ops F l).mul p z))
      (value_none R (λ i. bit_k F l (shifted k g i)) k (b d) (λ i lt. ap (bit_k F l) (shifted-low k g i lt)))
      (value-cong R (λ i. bit_k F l (shifted k g (k + i))) (λ i. bit_k F l (g i)) (suc r + s) (b d) (λ i _. ap (bit_k F l) (shifted-from k g (k + i) (omega arith) ∙ ap g (omega arith)))
      ∙ value-more R (λ i. bit_k F l (g i)) (suc r) s (b d) (λ i le. ap (bit_k F l) (g_past i (omega arith)))
      ∙ g_root d h)
      ∙ solve R (p ∷ []) (O ⊕ var 0 ⊗ O) O tt

  -- a sum with a multiple of x ^ k g
  plus-shifted : (c : ℕ → Bool) (a : Bool) (k n : ℕ) (x : Element F)
      → at (λ j. xor (c j) (cond a (shifted k g j) false)) n x ≡ (ops F l).add (at c n x) ((ops F l).mul (bit_k F l a) (at (shifted k g) n x))
  plus-shifted c a k n x =
      let R = ring2 F l in
      value-cong R (λ j. bit_k F l (xor (c j) (cond a (shifted k g j) false))) (λ j. (ops F l).add (bit_k F l (c j)) ((ops F l).mul (bit_k F l a) (bit_k F l (shifted k g j)))) n x
      (λ j _. bit_k_xor F l (c j) (cond a (shifted k g j) false) ∙ ap ((ops F l).add (bit_k F l (c j))) (bit_k_cond F l a (shifted k g j)))
      ∙ value-add R (λ j. bit_k F l (c j)) (λ j. (ops F l).mul (bit_k F l a) (bit_k F l (shifted k g j))) n x
      ∙ ap ((ops F l).add (at c n x)) (value-scale R (bit_k F l a) (λ j. bit_k F l (shifted k g j)) n x)

  abbrev Multiple : ℕ → (ℕ → Bool) → Type 0
  Multiple k c = (q : ℕ → Bool) × ((j : ℕ) → j < r + k → c j ≡ product q g k j)

  -- what vanishes at the roots is a multiple of g
  multiple : (k : ℕ) (c : ℕ → Bool) → ((d : ℕ) → d < r → at c (r + k) (b d) ≡ (ops F l).o) → Multiple k c
  unfolding product value
  multiple zero c h =
      let z : r + 0 ≡ r = omega arith in (
        (λ _. false),
        λ j lt. bit_k_once F l (c j) false
            (all_none (field2 F l) (λ p. bit_k F l (c p)) r (root_at F l) r (omega arith) (roots_apart (field2 F l) (alpha F l) (units F) (turn F l) (once F l) t r (is_fine F l t few))
            (λ d u. ap (λ n. at c n (b d)) (sym z) ∙ h d u) j (omega arith)),
      )
  multiple (suc k) c h = up (multiple k less less_root)
    where
      a : Bool
      a = c (r + k)

      less : ℕ → Bool
      less j = xor (c j) (cond (c (r + k)) (shifted k g j) false)

      less_top : less (r + k) ≡ false
      less_top =
          ap (λ y. xor (c (r + k)) (cond (c (r + k)) y false)) (shifted-from k g (r + k) (omega arith) ∙ ap g (omega arith) ∙ g_top)
          ∙ ap (xor (c (r + k))) (cond-true (c (r + k))) ∙ xor_self (c (r + k))

      less_root : (d : ℕ) → d < r → at less (r + k) (b d) ≡ (ops F l).o
      less_root d u =
          let R = ring2 F l in
          let n = r + k in
          let z : suc (r + k) ≡ r + suc k = omega arith in
          let y : r + suc k ≡ k + (suc r + 0) = omega arith in
          solve R (at less n (b d) ∷ pow (ops F l) (b d) n ∷ []) (var 0) (var 0 ⊕ O ⊗ var 1) tt
          ∙ ap (λ v. (ops F l).add (at less n (b d)) ((ops F l).mul (bit_k F l v) (pow (ops F l) (b d) n))) (sym less_top)
          ∙ ap (λ m. at less m (b d)) z
          ∙ plus-shifted c (c (r + k)) k (r + suc k) (b d)
          ∙ ap₂ (λ v w. (ops F l).add v ((ops F l).mul (bit_k F l (c (r + k))) w)) (h d u) (ap (λ m. at (shifted k g) m (b d)) y ∙ shifted-root k 0 d u)
          ∙ solve R (bit_k F l (c (r + k)) ∷ []) (O ⊕ var 0 ⊗ O) O tt

      up : Multiple k less → Multiple (suc k) c
      up w = (put k (c (r + k)) w.0, whole)
        where
          tie : (j : ℕ) → j < r + suc k → less j ≡ product w.0 g k j
          tie j lt = elim (cases_eq j (r + k)) [
            | inl e ↦ ap less e ∙ less_top ∙ sym (product-past w.0 g r g_past k j (omega arith))
            | inr ne ↦ w.1 j (omega arith)
          ]

          whole : (j : ℕ) → j < r + suc k → c j ≡ product (put k (c (r + k)) w.0) g (suc k) j
          whole j lt =
              sym (xor-twice (c j) (cond (c (r + k)) (shifted k g j) false))
              ∙ ap₂ (λ p v. xor p (cond v (shifted k g j) false))
              (tie j lt ∙ sym (product-cong (put k (c (r + k)) w.0) w.0 g g k j (put_other k (c (r + k)) w.0) (λ _. refl))) (sym (put-here k (c (r + k)) w.0))

  -- the odd powers below 2t give all from 1 to 2t
  all-roots : (c : ℕ → Bool) (n : ℕ) → ((i : ℕ) → i < t → at c n (pow (ops F l) (alpha F l) (suc (i + i))) ≡ (ops F l).o)
      → (f j : ℕ) → j ≤ f → j < t + t → at c n (pow (ops F l) (alpha F l) (suc j)) ≡ (ops F l).o
  all-roots c n h zero j le k =
      let z : suc j ≡ 1 = omega arith in ap (λ p. at c n (pow (ops F l) (alpha F l) p)) z ∙ h 0 (omega arith)
  all-roots c n h (suc f) j le k = go (halves j) (all-roots c n h f)
    where
      go : (k : ℕ) × ((j ≡ k + k) ⊎ (j ≡ suc (k + k))) → ((i : ℕ) → i ≤ f → i < t + t → at c n (pow (ops F l) (alpha F l) (suc i)) ≡ (ops F l).o)
          → at c n (pow (ops F l) (alpha F l) (suc j)) ≡ (ops F l).o
      go p ih =
          elim p.1 [
            | inl q ↦ ap (λ i. at c n (pow (ops F l) (alpha F l) (suc i))) q ∙ h p.0 (omega arith)
            | inr q ↦
                let z : suc j ≡ suc p.0 + suc p.0 = omega arith in
                let x = pow (ops F l) (alpha F l) (suc p.0) in
                ap (λ i. at c n (pow (ops F l) (alpha F l) i)) z ∙ ap (at c n) (pow-add (ring2 F l) (alpha F l) (suc p.0) (suc p.0))
                ∙ sym (value-square (ring2 F l) (λ p. bit_k F l (c p)) n x (λ i _. bit_k_square F l (c i)))
                ∙ ap ((ops F l).mul (at c n x)) (ih p.0 (omega arith) (omega arith)) ∙ mul_zero (ring2 F l) _
          ]

  pub generates : IsGenerator F t g
  generates = record {
    leading = g_top;
    degree = g_past;
    roots = λ j lo hi.
        let z : suc (j - 1) ≡ j = omega arith in
        sym (power_sum-value F l j g (suc r))
        ∙ ap (λ i. (at g (suc r) (pow (ops F l) (alpha F l) i)).0) (sym z)
        ∙ number F l
        (all-roots g (suc r) (starts_vanish (field2 F l) (alpha F l) (units F) (turn F l) (once F l) t r (is_fine F l t few) (λ p. bit_k F l (g p)) (suc r) g_root) (j - 1) (j - 1) (omega arith) (omega arith));
    lowest = λ c k le h i lt.
        bit_k_once F l (c i) false
        (all_none (field2 F l) (λ p. bit_k F l (c p)) k (root_at F l) r le (roots_apart (field2 F l) (alpha F l) (units F) (turn F l) (once F l) t r (is_fine F l t few))
        (vanishes-at (field2 F l) (alpha F l) (units F) (turn F l) (once F l) t r (is_fine F l t few) (λ p. bit_k F l (c p)) k (λ i _. bit_k_square F l (c i))
        (λ i u. same F _ _ (power_sum-value F l (suc (i + i)) c k ∙ h (suc (i + i)) (omega arith) (omega arith)))) i lt);
  }

  -- a code row is a multiple of the generator
  pub code_multiple : (c : ℕ → Bool) → Code F t c → Multiple (data_cells F.m t) c
  code_multiple c code =
      multiple (data_cells F.m t) c
      (vanishes-at (field2 F l) (alpha F l) (units F) (turn F l) (once F l) t r (is_fine F l t few) (λ p. bit_k F l (c p)) (r + data_cells F.m t) (λ i _. bit_k_square F l (c i))
      (from_code F l t few c code))
