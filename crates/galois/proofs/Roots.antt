-- A polynomial with no more coefficients than it has distinct roots is zero.
use Rattle.std.proofs.Common.{◌≡◌, suc, ◌≤◌, Bool, ◌≢◌, List, [], ◌∷◌, length, sym, refl, ap, ◌∙◌, ap₂, arith}
use Rattle.galois.specs.Ring.{Ops, Field2}
use Rattle.galois.specs.Lists.{All, Distinct}
use Rattle.galois.specs.Sums.{eval}
use Rattle.galois.proofs.Solve.{var, O, ◌⊕◌, ◌⊗◌, solve, mul_zero}
use Rattle.galois.proofs.Vandermonde.{all_map2, cancel, sum_not_zero}

module _ {K : Type 0} {P : Ops K} {is0 : K → Bool} (F : Field2 P is0) where
  open P use {o, e, add, mul}
  open F use {ring}
  open F.ring use {add_zero}

  -- what is left of c ∷ g on division by x + r
  abbrev quotient : K → List K → List K
  quotient r [] = []
  quotient r (d ∷ h) = eval P (d ∷ h) r ∷ quotient r h

  length-quotient : (r : K) (g : List K) → length (quotient r g) ≡ length g
  length-quotient r [] = refl
  length-quotient r (d ∷ h) = ap suc (length-quotient r h)

  division : (r x : K) (g : List K)
      → mul (eval P (quotient r g) x) (add x r) ≡ add (mul x (eval P g x)) (mul r (eval P g r))
  division r x [] = solve ring (x ∷ r ∷ []) (O ⊗ (var 0 ⊕ var 1)) (var 0 ⊗ O ⊕ var 1 ⊗ O) tt
  division r x (d ∷ h) =
      let q = eval P (quotient r h) x in
      let hx = eval P h x in
      let hr = eval P h r in
      solve ring (x ∷ r ∷ d ∷ hr ∷ q ∷ []) ((var 2 ⊕ var 1 ⊗ var 3 ⊕ var 0 ⊗ var 4) ⊗ (var 0 ⊕ var 1))
      ((var 2 ⊕ var 1 ⊗ var 3) ⊗ (var 0 ⊕ var 1) ⊕ var 0 ⊗ (var 4 ⊗ (var 0 ⊕ var 1))) tt
      ∙ ap (λ m. add (mul (add d (mul r hr)) (add x r)) (mul x m)) (division r x h)
      ∙ solve ring (x ∷ r ∷ d ∷ hr ∷ hx ∷ [])
      ((var 2 ⊕ var 1 ⊗ var 3) ⊗ (var 0 ⊕ var 1) ⊕ var 0 ⊗ (var 0 ⊗ var 4 ⊕ var 1 ⊗ var 3))
      (var 0 ⊗ (var 2 ⊕ var 0 ⊗ var 4) ⊕ var 1 ⊗ (var 2 ⊕ var 1 ⊗ var 3)) tt

  eval_zero : (x : K) (g : List K) → All (λ c. c ≡ o) g → eval P g x ≡ o
  eval_zero x [] h = refl
  eval_zero x (c ∷ g) h = ap₂ add h.0 (ap (mul x) (eval_zero x g h.1) ∙ mul_zero ring x) ∙ add_zero o

  -- c + x * g(x) where g is zero
  lowest : (x c : K) (g : List K) → All (λ c. c ≡ o) g → eval P (c ∷ g) x ≡ o → c ≡ o
  lowest x c g h p = sym (add_zero c) ∙ ap (add c) (sym (ap (mul x) (eval_zero x g h) ∙ mul_zero ring x)) ∙ p

  quotient_zero : (r : K) (g : List K) → All (λ c. c ≡ o) (quotient r g) → All (λ c. c ≡ o) g
  quotient_zero r [] h = tt
  quotient_zero r (d ∷ g) h = let z = quotient_zero r g h.1 in (lowest r d g z h.0, z)

  pub too_many_roots : (l g : List K) → length g ≤ length l → Distinct (λ x. x) l → All (λ x. eval P g x ≡ o) l → All (λ c. c ≡ o) g
  too_many_roots [] [] w d h = tt
  too_many_roots [] (c ∷ g) w d h = absurd (omega arith)
  too_many_roots (r ∷ l) [] w d h = tt
  too_many_roots (r ∷ l) (c ∷ g) w d h =
      let z = quotient_zero r g (too_many_roots l (quotient r g) (omega (arith, length-quotient r g)) d.1 (all_map2 root l d.0 h.1)) in
      (lowest r c g z h.0, z)
    where
      root : (x : K) → r ≢ x → eval P (c ∷ g) x ≡ o → eval P (quotient r g) x ≡ o
      root x n p =
          cancel F (eval P (quotient r g) x) (add x r)
          (division r x g
          ∙ solve ring (x ∷ r ∷ c ∷ eval P g x ∷ eval P g r ∷ []) (var 0 ⊗ var 3 ⊕ var 1 ⊗ var 4)
          (var 2 ⊕ var 0 ⊗ var 3 ⊕ (var 2 ⊕ var 1 ⊗ var 4)) tt
          ∙ ap₂ add p h.0 ∙ add_zero o) (sum_not_zero F x r (λ q. n (sym q)))
