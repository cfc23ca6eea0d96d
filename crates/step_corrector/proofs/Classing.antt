-- The class by the list of cases is the class of the syndromes.
use Rattle.std.proofs.Common.{◌≡◌, ℕ, zero, suc, ◌+◌, ◌≤◌, Bool, true, false, cond, ◌&&◌, eqb, ◌≢◌, [], sym, refl, ap, ◌∙◌, ap₂, arith, mod-eq_of_lt}
use Rattle.std.proofs.lemmas.Bool.{false≢true, and_parts, and_from, eqb-true, eq-eqb, ltb-true, lt-ltb}
use Rattle.galois.specs.Model.{FieldModel, FieldLaws, elem, product-of}
use Rattle.galois.proofs.Laws.{elem-lt}
use Rattle.galois.specs.Ring.{numbers}
use Rattle.galois.specs.Rows.{Few}
use Rattle.galois.specs.Sums.{D2, D3}
use Rattle.galois.proofs.Solve.{O, ◌⊕◌, ◌⊗◌, solve}
use Rattle.galois.proofs.Determinants.{pow_e}
use Rattle.galois.proofs.Lift.{ring2, number as at-numbers}
use Rattle.decoding.specs.Classes.{class_of}
use Rattle.decoding.proofs.Zeros.{Zeros}
use Rattle.field.specs.declared.syndromes.Syndromes.{Syndromes}
use Rattle.corrector.specs.Searched.{clean}
use Rattle.corrector.proofs.Framing.{clean-zeros}
use Rattle.step_corrector.specs.declared.class.Class.{Class}
use Rattle.step_corrector.specs.declared.class.Class.TheVariants.{Clean, One, Two, Three, Beyond}
use Rattle.step_corrector.specs.Classes.{number, class_by, class_for, falls}

by_one : (a d2 d3 : Bool) → number (class_by 1 (a && true && true) a d2 d3) ≡ cond a 0 1
by_one true d2 d3 = refl
by_one false d2 d3 = refl

by_two : (a b d2 d3 : Bool) → number (class_by 2 (a && b && true) a d2 d3) ≡ cond a (cond b 0 4) (cond d2 1 2)
by_two true true d2 d3 = refl
by_two true false d2 d3 = refl
by_two false b true d3 = refl
by_two false b false d3 = refl

by_three : (a b c d2 d3 : Bool) → ((a && b && c) ≡ true → d3 ≡ true)
    → number (class_by 3 (a && b && c) a d2 d3) ≡ cond d3 (cond a (cond b (cond c 0 4) 4) (cond d2 1 2)) (cond d2 4 3)
by_three true true true d2 true h = refl
by_three true true true d2 false h = absurd (false≢true (h refl))
by_three true true false d2 true h = refl
by_three true true false true false h = refl
by_three true true false false false h = refl
by_three true false c d2 true h = refl
by_three true false c true false h = refl
by_three true false c false false h = refl
by_three false b c true true h = refl
by_three false b c false true h = refl
by_three false b c true false h = refl
by_three false b c false false h = refl

-- where all three syndromes are zero, so is D3
third_none : (F : FieldModel) → FieldLaws F → (s1 s3 s5 : ℕ) → Zeros 3 s1 s3 s5 → D3 (numbers F) s1 s3 s5 ≡ 0
third_none F l s1 s3 s5 z =
    ap₂ (λ x y. D3 (numbers F) x y s5) z.0 (z.1 (omega arith)) ∙ ap (D3 (numbers F) 0 0) (z.2 (omega arith))
    ∙ at-numbers F l (solve (ring2 F l) [] (pow_e O 6 ⊕ pow_e O 3 ⊗ O ⊕ O ⊗ O ⊕ pow_e O 2) O tt)

pub class_counts : (F : FieldModel) → FieldLaws F → (t : ℕ) (s : Syndromes) → Few t → number (class_for F t s) ≡ class_of F t s.s1 s.s3 s.s5
class_counts F l zero s few = absurd (omega arith)
class_counts F l (suc zero) s few = by_one (eqb s.s1 0) _ _
class_counts F l (suc (suc zero)) s few = by_two (eqb s.s1 0) (eqb s.s3 0) _ _
class_counts F l (suc (suc (suc zero))) s few =
    by_three (eqb s.s1 0) (eqb s.s3 0) (eqb s.s5 0) _ _
    (λ h. eq-eqb _ 0 (third_none F l s.s1 s.s3 s.s5 (clean-zeros 3 s few h)))
class_counts F l (suc (suc (suc (suc t)))) s few = absurd (omega arith)

-- a cube is the product of the square, which is an element
pub cubed : (F : FieldModel) → FieldLaws F → (x : ℕ) → F.mul (product-of F x x) (elem F x) ≡ product-of F (product-of F x x) x
cubed F l x = ap (λ y. F.mul y (elem F x)) (sym (mod-eq_of_lt (l.ring.mul_lt (elem F x) (elem F x) (elem-lt F l x) (elem-lt F l x))))

-- the determinants as they are computed
pub listed : (F : FieldModel) (t : ℕ) (s : Syndromes) (k : Class) (b : Bool) (d2 d3 : ℕ) → b ≡ clean t s → k ≡ class_by t b (eqb s.s1 0) (eqb d2 0) (eqb d3 0)
    → d2 ≡ D2 (numbers F) s.s1 s.s3 → d3 ≡ D3 (numbers F) s.s1 s.s3 s.s5 → k ≡ class_for F t s
listed F t s k b d2 d3 eb ek e2 e3 =
    ek ∙ ap (λ b. class_by t b (eqb s.s1 0) (eqb d2 0) (eqb d3 0)) eb ∙ ap₂ (λ x y. class_by t (clean t s) (eqb s.s1 0) (eqb x 0) (eqb y 0)) e2 e3

-- ---- falling by one
pub falls-true : (a b : Class) → falls a b ≡ true → (suc (number b) ≡ number a) × (number a ≤ 3)
falls-true a b h =
    let both = and_parts _ _ h in
    let e = eqb-true (number b + 1) (number a) both.0 in
    let lt = ltb-true (number a) 4 both.1 in
    (omega arith, omega arith)

pub falls-from : (a b : Class) → suc (number b) ≡ number a → number a ≤ 3 → falls a b ≡ true
falls-from a b e u = and_from _ _ (eq-eqb (number b + 1) (number a) (omega arith)) (lt-ltb (number a) 4 (omega arith))

pub not_clean : (a : Class) → (a ≡ Clean → ⊥) → number a ≢ 0
not_clean Clean h e = h refl
not_clean One h e = omega arith
not_clean Two h e = omega arith
not_clean Three h e = omega arith
not_clean Beyond h e = omega arith
