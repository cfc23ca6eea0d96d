-- Power sums over any ring, and the determinants by which the number of errors is told.
use Rattle.std.specs.Prelude.{ℕ, zero, suc, Bool, cond, List, [], ◌∷◌}
use Rattle.galois.specs.Ring.{Ops, pow}

module _ {K : Type 0} (P : Ops K) where
  open P use {o, e, add, mul}

  -- the sum of c a * (X a)^j over the list
  abbrev pub weighed : {A : Type 0} (X c : A → K) (j : ℕ) → List A → K
  weighed X c j [] = o
  weighed X c j (a ∷ l) = add (mul (c a) (pow P (X a) j)) (weighed X c j l)

  -- the power sum of the elements X a
  abbrev pub S : {A : Type 0} (X : A → K) (j : ℕ) → List A → K
  S X j [] = o
  S X j (a ∷ l) = add (pow P (X a) j) (S X j l)

  abbrev pub D2 : K → K → K
  D2 s1 s3 = add (pow P s1 3) s3

  abbrev pub D3 : K → K → K → K
  D3 s1 s3 s5 = add (add (add (pow P s1 6) (mul (pow P s1 3) s3)) (mul s1 s5)) (pow P s3 2)

  -- How many errors the power sums S_1, S_3 and S_5 show, for a code that corrects t of them: 0, 1, 2 or 3, and 4 for more than can be told
  abbrev pub class : (is0 : K → Bool) → ℕ → K → K → K → ℕ
  class is0 zero s1 s3 s5 = 0
  class is0 (suc zero) s1 s3 s5 = cond (is0 s1) 0 1
  class is0 (suc (suc zero)) s1 s3 s5 = cond (is0 s1) (cond (is0 s3) 0 4) (cond (is0 (D2 s1 s3)) 1 2)
  class is0 (suc (suc (suc t))) s1 s3 s5 =
      cond (is0 (D3 s1 s3 s5)) (cond (is0 s1) (cond (is0 s3) (cond (is0 s5) 0 4) 4) (cond (is0 (D2 s1 s3)) 1 2))
      (cond (is0 (D2 s1 s3)) 4 3)

  -- the value of a polynomial by its coefficients, the lowest first
  abbrev pub eval : List K → K → K
  eval [] x = o
  eval (c ∷ g) x = add c (mul x (eval g x))
