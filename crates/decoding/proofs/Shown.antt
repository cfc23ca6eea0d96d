-- What the power sums of a row show of a code row near it.
use Rattle.std.proofs.Common.{◌≡◌, ℕ, zero, suc, ◌+◌, ◌-◌, ◌<◌, ◌≤◌, Bool, true, false, cond, eqb, ◌≢◌, List, sym, refl, ap, ◌∙◌, subst, ap₂, arith}
use Rattle.std.proofs.lemmas.Bool.{eqb-true}
use Rattle.galois.specs.Model.{FieldModel, FieldLaws, units}
use Rattle.galois.specs.Sums.{S, D2, D3, class}
use Rattle.galois.specs.Rows.{power_sum, Few}
use Rattle.galois.proofs.Lift.{ops, is0, field2}
use Rattle.galois.proofs.Classes.{class_is_count, one_more}
use Rattle.galois.proofs.Distances.{apart, apart-self}
use Rattle.galois.proofs.Differ.{differ, length-differ, X, all_units, distinct}
use Rattle.galois.proofs.Least.{Code, code-sums}
use Rattle.galois.specs.Ring.{numbers}
use Rattle.decoding.specs.Classes.{class_of}
use Rattle.decoding.proofs.Within.{Within}

-- the class of a row given by its positions
abbrev pub class_at : FieldModel → ℕ → (ℕ → Bool) → ℕ
class_at F t c = class_of F t (power_sum F 1 c (units F)) (power_sum F 3 c (units F)) (power_sum F 5 c (units F))

-- the class looks at the first t of the sums alone
pub class_cong : (F : FieldModel) (t : ℕ) (s r : ℕ → ℕ) → Few t → ((i : ℕ) → i < t → s (suc (i + i)) ≡ r (suc (i + i)))
    → class_of F t (s 1) (s 3) (s 5) ≡ class_of F t (r 1) (r 3) (r 5)
class_cong F zero s r few h = absurd (omega arith)
class_cong F (suc zero) s r few h = ap (λ x. class_of F 1 x 0 0) (h 0 (omega arith))
class_cong F (suc (suc zero)) s r few h = ap₂ (λ x y. class_of F 2 x y 0) (h 0 (omega arith)) (h 1 (omega arith))
class_cong F (suc (suc (suc t))) s r few h =
    ap₂ (λ x y. class_of F 3 x y (s 5)) (h 0 (omega arith)) (h 1 (omega arith)) ∙ ap (λ x. class_of F 3 (r 1) (r 3) x) (h 2 (omega arith))

-- ---- class 0
zero1 : (a : Bool) → cond {A = ℕ} a 0 1 ≡ 0 → a ≡ true
zero1 true h = refl
zero1 false h = absurd (omega arith)

zero2 : (a b e : Bool) → cond {A = ℕ} a (cond b 0 4) (cond e 1 2) ≡ 0 → (a ≡ true) × (b ≡ true)
zero2 true true e h = (refl, refl)
zero2 true false e h = absurd (omega arith)
zero2 false b true h = absurd (omega arith)
zero2 false b false h = absurd (omega arith)

zero3 : (f a b c e : Bool) → cond {A = ℕ} f (cond a (cond b (cond c 0 4) 4) (cond e 1 2)) (cond e 4 3) ≡ 0
    → (a ≡ true) × (b ≡ true) × (c ≡ true)
zero3 true true true true e h = (refl, refl, refl)
zero3 true true true false e h = absurd (omega arith)
zero3 true true false c e h = absurd (omega arith)
zero3 true false b c true h = absurd (omega arith)
zero3 true false b c false h = absurd (omega arith)
zero3 false a b c true h = absurd (omega arith)
zero3 false a b c false h = absurd (omega arith)

-- class 0 says that the first t of the sums are zero
pub class_zero : (F : FieldModel) (t : ℕ) (s : ℕ → ℕ) → Few t → class_of F t (s 1) (s 3) (s 5) ≡ 0 → (i : ℕ) → i < t → s (suc (i + i)) ≡ 0
class_zero F zero s few h i lt = absurd (omega arith)
class_zero F (suc zero) s few h zero lt = eqb-true (s 1) 0 (zero1 (eqb (s 1) 0) h)
class_zero F (suc zero) s few h (suc i) lt = absurd (omega arith)
class_zero F (suc (suc zero)) s few h i lt = go i lt (zero2 (eqb (s 1) 0) (eqb (s 3) 0) _ h)
  where
    go : (i : ℕ) → i < 2 → (eqb (s 1) 0 ≡ true) × (eqb (s 3) 0 ≡ true) → s (suc (i + i)) ≡ 0
    go zero lt z = eqb-true (s 1) 0 z.0
    go (suc zero) lt z = eqb-true (s 3) 0 z.1
    go (suc (suc i)) lt z = absurd (omega arith)
class_zero F (suc (suc (suc t))) s few h i lt =
    go i lt
    (zero3 (eqb (D3 (numbers F) (s 1) (s 3) (s 5)) 0) (eqb (s 1) 0) (eqb (s 3) 0) (eqb (s 5) 0) (eqb (D2 (numbers F) (s 1) (s 3)) 0) h)
  where
    go : (i : ℕ) → i < suc (suc (suc t)) → (eqb (s 1) 0 ≡ true) × (eqb (s 3) 0 ≡ true) × (eqb (s 5) 0 ≡ true) → s (suc (i + i)) ≡ 0
    go zero lt z = eqb-true (s 1) 0 z.0
    go (suc zero) lt z = eqb-true (s 3) 0 z.1
    go (suc (suc zero)) lt z = eqb-true (s 5) 0 z.2
    go (suc (suc (suc i))) lt z = absurd (omega arith)

-- ---- the greatest class
bound1 : (a : Bool) → cond {A = ℕ} a 0 1 ≤ 1
bound1 true = omega arith
bound1 false = omega arith

bound2 : (a b e : Bool) → cond {A = ℕ} a (cond b 0 4) (cond e 1 2) ≤ 3 → cond {A = ℕ} a (cond b 0 4) (cond e 1 2) ≤ 2
bound2 true true e h = omega arith
bound2 true false e h = absurd (omega arith)
bound2 false b true h = omega arith
bound2 false b false h = omega arith

-- a class that is not beyond is at most t
pub class_bound : (F : FieldModel) (t s1 s3 s5 : ℕ) → Few t → class_of F t s1 s3 s5 ≤ 3 → class_of F t s1 s3 s5 ≤ t
class_bound F zero s1 s3 s5 few h = absurd (omega arith)
class_bound F (suc zero) s1 s3 s5 few h = bound1 (eqb s1 0)
class_bound F (suc (suc zero)) s1 s3 s5 few h = bound2 (eqb s1 0) (eqb s3 0) _ h
class_bound F (suc (suc (suc t))) s1 s3 s5 few h = omega arith

module _ (F : FieldModel) (l : FieldLaws F) where
  -- the class of the elements of some positions
  abbrev shown : ℕ → List ℕ → ℕ
  shown t ps = class (ops F l) (is0 F l) t (S (ops F l) (X F l) 1 ps) (S (ops F l) (X F l) 3 ps) (S (ops F l) (X F l) 5 ps)

  shown-number : (t : ℕ) (ps : List ℕ)
      → shown t ps ≡ class_of F t (S (ops F l) (X F l) 1 ps).0 (S (ops F l) (X F l) 3 ps).0 (S (ops F l) (X F l) 5 ps).0
  shown-number zero ps = refl
  shown-number (suc zero) ps = refl
  shown-number (suc (suc zero)) ps = refl
  shown-number (suc (suc (suc t))) ps = refl

  module _ (t : ℕ) (few : Few t) where
    -- the class of a row is that of its differences from a code row
    class_shown : (c d : ℕ → Bool) → Code F t d → class_at F t c ≡ shown t (differ c d (units F))
    class_shown c d code =
        sym (class_cong F t (λ i. (S (ops F l) (X F l) i (differ c d (units F))).0) (λ i. power_sum F i c (units F)) few (code-sums F l t c d code))
        ∙ sym (shown-number t (differ c d (units F)))

    pub class_is_apart : (c d : ℕ → Bool) → Within F t c d → class_at F t c ≡ apart c d (units F)
    class_is_apart c d W =
        let long = length-differ c d (units F) in
        let close = W.close in
        class_shown c d W.code
        ∙ class_is_count (field2 F l) (X F l) t (differ c d (units F)) few.0 few.1 (omega arith) (distinct F l c d (units F) (omega arith))
        (all_units F l c d)
        ∙ long

    -- one position more than t is not shown as one less than t
    pub class_past : (c d : ℕ → Bool) → Code F t d → apart c d (units F) ≡ suc t → suc (class_at F t c) ≢ t
    class_past c d code far fall =
        let long = length-differ c d (units F) in
        let z : suc (t - 1) ≡ t = omega arith in
        one_more (field2 F l) (X F l) (t - 1) (differ c d (units F)) (omega arith) (omega arith) (distinct F l c d (units F) (omega arith))
        (subst (λ k. shown k (differ c d (units F)) ≡ t - 1) (sym z) (sym (class_shown c d code) ∙ omega arith))

    pub clean-code : (c : ℕ → Bool) → class_at F t c ≡ 0 → Code F t c
    clean-code c h = class_zero F t (λ i. power_sum F i c (units F)) few h

    pub code_clean : (c : ℕ → Bool) → Code F t c → class_at F t c ≡ 0
    code_clean c code =
        let self = apart-self c (units F) in
        class_is_apart c c (record { code = code; close = omega arith }) ∙ self
