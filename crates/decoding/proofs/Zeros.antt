-- Code rows and class 0 by the three power sums, of which the code looks at the first t.
use Rattle.std.proofs.Common.{◌≡◌, ℕ, zero, suc, ◌≤◌, Bool, [], ap, ◌∙◌, ap₂, arith}
use Rattle.galois.specs.Model.{FieldModel, FieldLaws, units}
use Rattle.galois.specs.Sums.{D3}
use Rattle.galois.specs.Rows.{power_sum, Few}
use Rattle.galois.proofs.Solve.{O, ◌⊕◌, ◌⊗◌, solve}
use Rattle.galois.proofs.Determinants.{pow_e}
use Rattle.galois.proofs.Lift.{ring2, number}
use Rattle.galois.proofs.Least.{Code}
use Rattle.galois.specs.Ring.{numbers}
use Rattle.decoding.specs.Classes.{class_of}

-- the first t of the sums are zero
abbrev pub Zeros : (t s1 s3 s5 : ℕ) → Type 0
Zeros t s1 s3 s5 = (s1 ≡ 0) × (2 ≤ t → s3 ≡ 0) × (3 ≤ t → s5 ≡ 0)

module _ (F : FieldModel) (t : ℕ) (few : Few t) where
  pub code_zeros : (c : ℕ → Bool) → Code F t c → Zeros t (power_sum F 1 c (units F)) (power_sum F 3 c (units F)) (power_sum F 5 c (units F))
  code_zeros c code = (code 0 (omega arith), λ h. code 1 (omega arith), λ h. code 2 (omega arith))

  pub zeros_code : (c : ℕ → Bool) → Zeros t (power_sum F 1 c (units F)) (power_sum F 3 c (units F)) (power_sum F 5 c (units F)) → Code F t c
  zeros_code c z zero lt = z.0
  zeros_code c z (suc zero) lt = z.1 (omega arith)
  zeros_code c z (suc (suc zero)) lt = z.2 (omega arith)
  zeros_code c z (suc (suc (suc i))) lt = absurd (omega arith)

-- sums that are zero have class 0
pub zeros_class : (F : FieldModel) → FieldLaws F → (t : ℕ) → Few t → (s1 s3 s5 : ℕ) → Zeros t s1 s3 s5 → class_of F t s1 s3 s5 ≡ 0
zeros_class F l zero few s1 s3 s5 z = absurd (omega arith)
zeros_class F l (suc zero) few s1 s3 s5 z = ap (λ x. class_of F 1 x s3 s5) z.0
zeros_class F l (suc (suc zero)) few s1 s3 s5 z = ap₂ (λ x y. class_of F 2 x y s5) z.0 (z.1 (omega arith))
zeros_class F l (suc (suc (suc t))) few s1 s3 s5 z =
    ap₂ (λ x y. class_of F 3 x y s5) z.0 (z.1 (omega arith)) ∙ ap (class_of F 3 0 0) (z.2 (omega arith)) ∙ rw none
  where
    none : D3 (numbers F) 0 0 0 ≡ 0
    none = number F l (solve (ring2 F l) [] (pow_e O 6 ⊕ pow_e O 3 ⊗ O ⊕ O ⊗ O ⊕ pow_e O 2) O tt)
