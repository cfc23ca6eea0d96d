-- The determinants of power sums are products of differences.
use Rattle.std.proofs.Common.{◌≡◌, ℕ, zero, suc, List, [], ◌∷◌}
use Rattle.galois.specs.Ring.{Ops, Ring2}
use Rattle.galois.specs.Sums.{S, D2, D3}
use Rattle.galois.proofs.Solve.{Expr, var, O, I, ◌⊕◌, ◌⊗◌, solve}

abbrev pub pow_e : Expr → ℕ → Expr
pow_e x zero = I
pow_e x (suc n) = x ⊗ pow_e x n

abbrev pub s_e : ℕ → List Expr → Expr
s_e j [] = O
s_e j (a ∷ l) = pow_e a j ⊕ s_e j l

abbrev pub D2E : List Expr → Expr
D2E l = pow_e (s_e 1 l) 3 ⊕ s_e 3 l

abbrev pub D3E : List Expr → Expr
D3E l = pow_e (s_e 1 l) 6 ⊕ pow_e (s_e 1 l) 3 ⊗ s_e 3 l ⊕ s_e 1 l ⊗ s_e 5 l ⊕ pow_e (s_e 3 l) 2

abbrev pub v0 : Expr
v0 = var 0

abbrev pub v1 : Expr
v1 = var 1

abbrev pub v2 : Expr
v2 = var 2

abbrev pub v3 : Expr
v3 = var 3

module _ {K : Type 0} {P : Ops K} (R : Ring2 P) {A : Type 0} (X : A → K) where
  open P use {o, e, add, mul}

  pub det1 : (a b : A) → S P X 1 (a ∷ b ∷ []) ≡ add (X a) (X b)
  det1 a b = solve R (X a ∷ X b ∷ []) (s_e 1 (v0 ∷ v1 ∷ [])) (v0 ⊕ v1) tt

  pub det2 : (a b c : A) → let l = a ∷ b ∷ c ∷ [] in
      D2 P (S P X 1 l) (S P X 3 l) ≡ mul (mul (add (X a) (X b)) (add (X a) (X c))) (add (X b) (X c))
  det2 a b c =
      solve R (X a ∷ X b ∷ X c ∷ []) (D2E (v0 ∷ v1 ∷ v2 ∷ [])) ((v0 ⊕ v1) ⊗ (v0 ⊕ v2) ⊗ (v1 ⊕ v2)) tt

  pub det3 : (a b c d : A) → let l = a ∷ b ∷ c ∷ d ∷ [] in
      D3 P (S P X 1 l) (S P X 3 l) (S P X 5 l)
      ≡ mul (mul (mul (add (X a) (X b)) (add (X a) (X c))) (mul (add (X a) (X d)) (add (X b) (X c)))) (mul (add (X b) (X d)) (add (X c) (X d)))
  det3 a b c d =
      solve R (X a ∷ X b ∷ X c ∷ X d ∷ []) (D3E (v0 ∷ v1 ∷ v2 ∷ v3 ∷ []))
      (((v0 ⊕ v1) ⊗ (v0 ⊕ v2)) ⊗ ((v0 ⊕ v3) ⊗ (v1 ⊕ v2)) ⊗ ((v1 ⊕ v3) ⊗ (v2 ⊕ v3))) tt
