-- The class of w <= t distinct non-zero elements is w; that of t + 1 of them is not t - 1.
use Rattle.std.proofs.Common.{◌≡◌, ℕ, zero, suc, ◌<◌, ◌≤◌, Bool, true, false, cond, ◌≢◌, List, [], ◌∷◌, length, sym, refl, ap, ◌∙◌, arith}
use Rattle.galois.specs.Ring.{Ops, Field2}
use Rattle.galois.specs.Sums.{S, D2, D3, class}
use Rattle.galois.specs.Lists.{All, Distinct}
use Rattle.galois.proofs.Solve.{O, ◌⊕◌, ◌⊗◌, solve}
use Rattle.galois.proofs.Determinants.{s_e, D2E, D3E, v0, v1, v2, det1, det2, det3}
use Rattle.galois.proofs.Vandermonde.{product-not_zero, sum_not_zero}

module _ {K : Type 0} {P : Ops K} {is0 : K → Bool} (F : Field2 P is0) where
  open P use {o, e, add, mul}
  open F use {ring, zero_passes, passes_zero}

  is0_yes : (a : K) → a ≡ o → is0 a ≡ true
  is0_yes a p = ap is0 p ∙ zero_passes

  is0_no : (a : K) → a ≢ o → is0 a ≡ false
  is0_no a n = go (is0 a) refl
    where
      go : (b : Bool) → is0 a ≡ b → is0 a ≡ false
      go true q = absurd (n (passes_zero a q))
      go false q = q

  pub by : {a b : K} → a ≡ b → b ≢ o → a ≢ o
  by p n q = n (sym p ∙ q)

  module _ {A : Type 0} (X : A → K) where
    pub times : {a b : K} → a ≢ o → b ≢ o → mul a b ≢ o
    times p q = product-not_zero F _ _ p q

    pub plus : {a b : A} → X a ≢ X b → add (X a) (X b) ≢ o
    plus p = sum_not_zero F _ _ p

    -- the power sums and determinants of no, one, two, three and four elements
    pub s1_1 : (a : A) → X a ≢ o → S P X 1 (a ∷ []) ≢ o
    s1_1 a n = by (solve ring (X a ∷ []) (s_e 1 (v0 ∷ [])) v0 tt) n

    pub s1_2 : (a b : A) → X a ≢ X b → S P X 1 (a ∷ b ∷ []) ≢ o
    s1_2 a b n = by (det1 ring X a b) (plus n)

    pub d2_1 : (a : A) → D2 P (S P X 1 (a ∷ [])) (S P X 3 (a ∷ [])) ≡ o
    d2_1 a = solve ring (X a ∷ []) (D2E (v0 ∷ [])) O tt

    pub d2_2 : (a b : A) → X a ≢ o → X b ≢ o → X a ≢ X b → D2 P (S P X 1 (a ∷ b ∷ [])) (S P X 3 (a ∷ b ∷ [])) ≢ o
    d2_2 a b p q n =
        by (solve ring (X a ∷ X b ∷ []) (D2E (v0 ∷ v1 ∷ [])) (v0 ⊗ v1 ⊗ (v0 ⊕ v1)) tt) (times (times p q) (plus n))

    pub d2-3 : (a b c : A) → X a ≢ X b → X a ≢ X c → X b ≢ X c
        → D2 P (S P X 1 (a ∷ b ∷ c ∷ [])) (S P X 3 (a ∷ b ∷ c ∷ [])) ≢ o
    d2-3 a b c p q r = by (det2 ring X a b c) (times (times (plus p) (plus q)) (plus r))

    d3_1 : (a : A) → let l = a ∷ [] in D3 P (S P X 1 l) (S P X 3 l) (S P X 5 l) ≡ o
    d3_1 a = solve ring (X a ∷ []) (D3E (v0 ∷ [])) O tt

    d3_2 : (a b : A) → let l = a ∷ b ∷ [] in D3 P (S P X 1 l) (S P X 3 l) (S P X 5 l) ≡ o
    d3_2 a b = solve ring (X a ∷ X b ∷ []) (D3E (v0 ∷ v1 ∷ [])) O tt

    d3-3 : (a b c : A) → X a ≢ o → X b ≢ o → X c ≢ o → X a ≢ X b → X a ≢ X c → X b ≢ X c
        → let l = a ∷ b ∷ c ∷ [] in D3 P (S P X 1 l) (S P X 3 l) (S P X 5 l) ≢ o
    d3-3 a b c x y z p q r =
        by (solve ring (X a ∷ X b ∷ X c ∷ []) (D3E (v0 ∷ v1 ∷ v2 ∷ [])) (v0 ⊗ v1 ⊗ v2 ⊗ ((v0 ⊕ v1) ⊗ (v0 ⊕ v2) ⊗ (v1 ⊕ v2))) tt)
        (times (times (times x y) z) (times (times (plus p) (plus q)) (plus r)))

    d3-4 : (a b c d : A) → X a ≢ X b → X a ≢ X c → X a ≢ X d → X b ≢ X c → X b ≢ X d → X c ≢ X d
        → let l = a ∷ b ∷ c ∷ d ∷ [] in D3 P (S P X 1 l) (S P X 3 l) (S P X 5 l) ≢ o
    d3-4 a b c d ab ac ad bc bd cd =
        by (det3 ring X a b c d) (times (times (times (plus ab) (plus ac)) (times (plus ad) (plus bc))) (times (plus bd) (plus cd)))

    abbrev at : ℕ → List A → ℕ
    at t l = class P is0 t (S P X 1 l) (S P X 3 l) (S P X 5 l)

    pub class_is_count : (t : ℕ) (l : List A) → 1 ≤ t → t ≤ 3 → length l ≤ t → Distinct X l → All (λ a. X a ≢ o) l → at t l ≡ length l
    class_is_count zero l p q w d n = absurd (omega arith)
    class_is_count (suc zero) [] p q w d n = rw (is0_yes o refl)
    class_is_count (suc zero) (a ∷ []) p q w d n = rw (is0_no _ (s1_1 a n.0))
    class_is_count (suc zero) (a ∷ b ∷ l) p q w d n = absurd (omega arith)
    class_is_count (suc (suc zero)) [] p q w d n = rw (is0_yes o refl)
    class_is_count (suc (suc zero)) (a ∷ []) p q w d n = rw (is0_no _ (s1_1 a n.0), is0_yes _ (d2_1 a))
    class_is_count (suc (suc zero)) (a ∷ b ∷ []) p q w d n =
        rw (is0_no _ (s1_2 a b d.0.0), is0_no _ (d2_2 a b n.0 n.1.0 d.0.0))
    class_is_count (suc (suc zero)) (a ∷ b ∷ c ∷ l) p q w d n = absurd (omega arith)
    class_is_count (suc (suc (suc t))) [] p q w d n =
        rw (is0_yes _ (solve ring [] (D3E []) O tt), is0_yes o refl)
    class_is_count (suc (suc (suc t))) (a ∷ []) p q w d n =
        rw (is0_yes _ (d3_1 a), is0_no _ (s1_1 a n.0), is0_yes _ (d2_1 a))
    class_is_count (suc (suc (suc t))) (a ∷ b ∷ []) p q w d n =
        rw (is0_yes _ (d3_2 a b), is0_no _ (s1_2 a b d.0.0), is0_no _ (d2_2 a b n.0 n.1.0 d.0.0))
    class_is_count (suc (suc (suc t))) (a ∷ b ∷ c ∷ []) p q w d n =
        rw (
          is0_no _ (d3-3 a b c n.0 n.1.0 n.1.1.0 d.0.0 d.0.1.0 d.1.0.0),
          is0_no _ (d2-3 a b c d.0.0 d.0.1.0 d.1.0.0),
        )
    class_is_count (suc (suc (suc t))) (a ∷ b ∷ c ∷ e ∷ l) p q w d n = absurd (omega arith)

    three_or_four : (b : Bool) (t : ℕ) → suc (suc t) < 3 → cond {A = ℕ} b 4 3 ≢ suc (suc t)
    three_or_four true t p h = omega arith
    three_or_four false t p h = omega arith

    not_one : (b c : Bool) → cond {A = ℕ} b (cond c 0 4) 2 ≢ 1
    not_one true true h = omega arith
    not_one true false h = omega arith
    not_one false c h = omega arith

    pub one_more : (t : ℕ) (l : List A) → t < 3 → length l ≡ suc (suc t) → Distinct X l → at (suc t) l ≢ t
    one_more zero [] p w d h = omega arith
    one_more zero (a ∷ []) p w d h = omega arith
    one_more zero (a ∷ b ∷ []) p w d h =
        let z : at 1 (a ∷ b ∷ []) ≡ 1 = rw (is0_no _ (s1_2 a b d.0.0)) in omega arith
    one_more zero (a ∷ b ∷ c ∷ l) p w d h = omega arith
    one_more (suc zero) [] p w d h = omega arith
    one_more (suc zero) (a ∷ []) p w d h = omega arith
    one_more (suc zero) (a ∷ b ∷ []) p w d h = omega arith
    one_more (suc zero) (a ∷ b ∷ c ∷ []) p w d h =
        not_one (is0 _) (is0 _) (rw (is0_no _ (d2-3 a b c d.0.0 d.0.1.0 d.1.0.0)) at h)
    one_more (suc zero) (a ∷ b ∷ c ∷ e ∷ l) p w d h = omega arith
    one_more (suc (suc t)) [] p w d h = omega arith
    one_more (suc (suc t)) (a ∷ []) p w d h = omega arith
    one_more (suc (suc t)) (a ∷ b ∷ []) p w d h = omega arith
    one_more (suc (suc t)) (a ∷ b ∷ c ∷ []) p w d h = omega arith
    one_more (suc (suc t)) (a ∷ b ∷ c ∷ e ∷ []) p w d h =
        three_or_four (is0 _) t p
        (rw (is0_no _ (d3-4 a b c e d.0.0 d.0.1.0 d.0.1.1.0 d.1.0.0 d.1.0.1.0 d.1.1.0.0)) at h)
    one_more (suc (suc t)) (a ∷ b ∷ c ∷ e ∷ f ∷ l) p w d h = omega arith
