-- The locator of one, two or three elements is the product of x + each of them, times a power of x.
use Rattle.std.proofs.Common.{◌≡◌, ℕ, zero, suc, ◌≤◌, Bool, ◌≢◌, List, [], ◌∷◌, length, sym, ap, ◌∙◌, ap₂, inl, inr, arith}
use Rattle.galois.specs.Ring.{Ops, Field2, pow}
use Rattle.galois.specs.Lists.{All, Distinct}
use Rattle.galois.specs.Sums.{S, D2}
use Rattle.galois.specs.Rows.{Few}
use Rattle.galois.proofs.Solve.{Expr, O, I, ◌⊕◌, ◌⊗◌, solve, mul_zero, zero_mul, equal_of_sum}
use Rattle.galois.proofs.Determinants.{s_e, pow_e, D2E, v0, v1, v2, v3}
use Rattle.galois.proofs.Vandermonde.{cancel}
use Rattle.galois.proofs.Classes.{s1_1, s1_2, d2_1, d2_2, d2-3}
use Rattle.galois.proofs.Differ.{Any}
use Rattle.decoding.specs.Locators.{cubic, Locates}

module _ {K : Type 0} {P : Ops K} {is0 : K → Bool} (F : Field2 P is0) {A : Type 0} (X : A → K) where
  open P use {o, e, add, mul}
  open F use {ring, no_divisors, one_is_not_zero}

  abbrev product : List A → K → K
  product [] x = e
  product (a ∷ l) x = mul (add x (X a)) (product l x)

  product-root : (l : List A) (x : K) → Any (λ a. x ≡ X a) l → product l x ≡ o
  product-root [] x h = absurd h
  product-root (a ∷ l) x h =
      elim h [
        | inl p ↦ ap (λ y. mul (add y (X a)) (product l x)) p ∙ ap (λ y. mul y (product l x)) (ring.add_self (X a)) ∙ zero_mul ring _
        | inr q ↦ ap (mul (add x (X a))) (product-root l x q) ∙ mul_zero ring _
      ]

  root_product : (l : List A) (x : K) → product l x ≡ o → Any (λ a. x ≡ X a) l
  root_product [] x h = one_is_not_zero h
  root_product (a ∷ l) x h =
      elim (no_divisors (add x (X a)) (product l x) h) [ inl p ↦ inl (equal_of_sum ring x (X a) p) | inr q ↦ inr (root_product l x q) ]

  -- a factor that is not zero goes away on both sides
  same_factor : (a x y : K) → a ≢ o → mul a x ≡ mul a y → x ≡ y
  same_factor a x y n h =
      equal_of_sum ring x y
      (cancel F (add x y) a
      (solve ring (a ∷ x ∷ y ∷ []) ((v1 ⊕ v2) ⊗ v0) (v0 ⊗ v1 ⊕ v0 ⊗ v2) tt ∙ ap (λ z. add z (mul a y)) h ∙ ring.add_self _) n)

  abbrev Of : ℕ → List A → K → K → Type 0
  Of t l r2 r3 = Locates P t (S P X 1 l) (S P X 3 l) (S P X 5 l) r2 r3

  -- the coefficients, for one, two and three elements
  one : (t : ℕ) (a : A) (r2 r3 : K) → Few t → X a ≢ o → Of t (a ∷ []) r2 r3 → (r2 ≡ o) × (r3 ≡ o)
  one zero a r2 r3 few n h = absurd (omega arith)
  one (suc zero) a r2 r3 few n h = h
  one (suc (suc zero)) a r2 r3 few n h =
      (same_factor (S P X 1 (a ∷ [])) r2 o (s1_1 F X a n) (h.0 (s1_1 F X a n) ∙ d2_1 F X a ∙ sym (mul_zero ring _)), h.1)
  one (suc (suc (suc t))) a r2 r3 few n h = h.0 (d2_1 F X a)

  abbrev E2 : List Expr
  E2 = v0 ∷ v1 ∷ []

  two : (t : ℕ) (a b : A) (r2 r3 : K) → 2 ≤ t → X a ≢ o → X b ≢ o → X a ≢ X b → Of t (a ∷ b ∷ []) r2 r3
      → (r2 ≡ mul (X a) (X b)) × (r3 ≡ o)
  two zero a b r2 r3 few na nb n h = absurd (omega arith)
  two (suc zero) a b r2 r3 few na nb n h = absurd (omega arith)
  two (suc (suc zero)) a b r2 r3 few na nb n h = (
    same_factor (S P X 1 (a ∷ b ∷ [])) r2 (mul (X a) (X b)) (s1_2 F X a b n)
        (h.0 (s1_2 F X a b n) ∙ solve ring (X a ∷ X b ∷ []) (D2E E2) (s_e 1 E2 ⊗ (v0 ⊗ v1)) tt),
    h.1,
  )
  two (suc (suc (suc t))) a b r2 r3 few na nb n h =
      let l = a ∷ b ∷ [] in
      let d = d2_2 F X a b na nb n in
      let q = h.1 d in
      let r : r2 ≡ mul (X a) (X b) =
      same_factor (D2 P (S P X 1 l) (S P X 3 l)) r2 (mul (X a) (X b)) d
      (q.0 ∙ solve ring (X a ∷ X b ∷ []) (pow_e (s_e 1 E2) 2 ⊗ s_e 3 E2 ⊕ s_e 5 E2) (D2E E2 ⊗ (v0 ⊗ v1)) tt) in (
        r,
        q.1 ∙ ap (λ y. add (D2 P (S P X 1 l) (S P X 3 l)) (mul (S P X 1 l) y)) r
            ∙ solve ring (X a ∷ X b ∷ []) (D2E E2 ⊕ s_e 1 E2 ⊗ (v0 ⊗ v1)) O tt,
      )

  abbrev E3 : List Expr
  E3 = v0 ∷ v1 ∷ v2 ∷ []

  -- the sum of the products of two
  abbrev pairs : A → A → A → K
  pairs a b c = add (add (mul (X a) (X b)) (mul (X a) (X c))) (mul (X b) (X c))

  abbrev pairs_e : Expr
  pairs_e = v0 ⊗ v1 ⊕ v0 ⊗ v2 ⊕ v1 ⊗ v2

  three : (t : ℕ) (a b c : A) (r2 r3 : K) → 3 ≤ t → X a ≢ X b → X a ≢ X c → X b ≢ X c → Of t (a ∷ b ∷ c ∷ []) r2 r3
      → (r2 ≡ pairs a b c) × (r3 ≡ mul (mul (X a) (X b)) (X c))
  three zero a b c r2 r3 few ab ac bc h = absurd (omega arith)
  three (suc zero) a b c r2 r3 few ab ac bc h = absurd (omega arith)
  three (suc (suc zero)) a b c r2 r3 few ab ac bc h = absurd (omega arith)
  three (suc (suc (suc t))) a b c r2 r3 few ab ac bc h =
      let l = a ∷ b ∷ c ∷ [] in
      let d = d2-3 F X a b c ab ac bc in
      let q = h.1 d in
      let r : r2 ≡ pairs a b c =
      same_factor (D2 P (S P X 1 l) (S P X 3 l)) r2 (pairs a b c) d
      (q.0 ∙ solve ring (X a ∷ X b ∷ X c ∷ []) (pow_e (s_e 1 E3) 2 ⊗ s_e 3 E3 ⊕ s_e 5 E3) (D2E E3 ⊗ pairs_e) tt) in (
        r,
        q.1 ∙ ap (λ y. add (D2 P (S P X 1 l) (S P X 3 l)) (mul (S P X 1 l) y)) r
            ∙ solve ring (X a ∷ X b ∷ X c ∷ []) (D2E E3 ⊕ s_e 1 E3 ⊗ pairs_e) (v0 ⊗ v1 ⊗ v2) tt,
      )

  abbrev cubic_e : Expr → Expr → Expr → Expr → Expr
  cubic_e r1 r2 r3 x = ((x ⊕ r1) ⊗ x ⊕ r2) ⊗ x ⊕ r3

  locator-product : (t : ℕ) (l : List A) (r2 r3 x : K) → Few t → 1 ≤ length l → length l ≤ t → Distinct X l → All (λ a. X a ≢ o) l
      → Of t l r2 r3 → (k : ℕ) × (cubic P (S P X 1 l) r2 r3 x ≡ mul (pow P x k) (product l x))
  locator-product t [] r2 r3 x few w w' d n h = absurd (omega arith)
  locator-product t (a ∷ []) r2 r3 x few w w' d n h =
      let q = one t a r2 r3 few n.0 h in (
        2,
        ap₂ (λ y z. cubic P (S P X 1 (a ∷ [])) y z x) q.0 q.1
            ∙ solve ring (X a ∷ x ∷ []) (cubic_e (s_e 1 (v0 ∷ [])) O O v1) (pow_e v1 2 ⊗ ((v1 ⊕ v0) ⊗ I)) tt,
      )
  locator-product t (a ∷ b ∷ []) r2 r3 x few w w' d n h =
      let q = two t a b r2 r3 w' n.0 n.1.0 d.0.0 h in (
        1,
        ap₂ (λ y z. cubic P (S P X 1 (a ∷ b ∷ [])) y z x) q.0 q.1
            ∙ solve ring (X a ∷ X b ∷ x ∷ []) (cubic_e (s_e 1 E2) (v0 ⊗ v1) O v2) (pow_e v2 1 ⊗ ((v2 ⊕ v0) ⊗ ((v2 ⊕ v1) ⊗ I))) tt,
      )
  locator-product t (a ∷ b ∷ c ∷ []) r2 r3 x few w w' d n h =
      let q = three t a b c r2 r3 w' d.0.0 d.0.1.0 d.1.0.0 h in (
        0,
        ap₂ (λ y z. cubic P (S P X 1 (a ∷ b ∷ c ∷ [])) y z x) q.0 q.1
            ∙ solve ring (X a ∷ X b ∷ X c ∷ x ∷ []) (cubic_e (s_e 1 E3) pairs_e (v0 ⊗ v1 ⊗ v2) v3)
            (pow_e v3 0 ⊗ ((v3 ⊕ v0) ⊗ ((v3 ⊕ v1) ⊗ ((v3 ⊕ v2) ⊗ I)))) tt,
      )
  locator-product t (a ∷ b ∷ c ∷ f ∷ l) r2 r3 x few w w' d n h = absurd (omega arith)

  pow-not_zero : (x : K) (k : ℕ) → x ≢ o → pow P x k ≢ o
  pow-not_zero x zero n h = one_is_not_zero h
  pow-not_zero x (suc k) n h = elim (no_divisors x (pow P x k) h) [ inl p ↦ n p | inr q ↦ pow-not_zero x k n q ]

  module _ (t : ℕ) (l : List A) (r2 r3 x : K) (few : Few t) (some : 1 ≤ length l) (most : length l ≤ t) (d : Distinct X l)
      (n : All (λ a. X a ≢ o) l) (h : Of t l r2 r3) where
    pub locator_root : x ≢ o → cubic P (S P X 1 l) r2 r3 x ≡ o → Any (λ a. x ≡ X a) l
    locator_root nx z =
        let q = locator-product t l r2 r3 x few some most d n h in
        root_product l x
        (elim (no_divisors (pow P x q.0) (product l x) (sym q.1 ∙ z)) [ inl p ↦ absurd (pow-not_zero x q.0 nx p) | inr p ↦ p ])

    pub root_locator : Any (λ a. x ≡ X a) l → cubic P (S P X 1 l) r2 r3 x ≡ o
    root_locator u =
        let q = locator-product t l r2 r3 x few some most d n h in
        q.1 ∙ ap (mul (pow P x q.0)) (product-root l x u) ∙ mul_zero ring _
