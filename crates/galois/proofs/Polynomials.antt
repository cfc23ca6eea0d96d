-- Values of polynomials, and how many roots they have.
use Rattle.std.proofs.Common.{◌≡◌, ℕ, zero, suc, ◌+◌, ◌*◌, ◌<◌, ◌≤◌, Bool, ◌≢◌, ◌⊎◌, [], ◌∷◌, sym, refl, ap, ◌∙◌, ap₂, inl, inr, add-zero as plus-zero, add-suc, suc-add as suc-plus, mul-zero as times_zero, zero-add as zero-plus, mul-suc, arith}
use Rattle.galois.specs.Ring.{Ops, Ring2, Field2, pow}
use Rattle.galois.specs.Lists.{All, Distinct, tabulate}
use Rattle.galois.proofs.Tabulated.{length-tabulate}
use Rattle.galois.specs.Sums.{eval}
use Rattle.galois.proofs.Solve.{var, O, I, ◌⊕◌, ◌⊗◌, solve, mul_zero, one_mul, equal_of_sum}
use Rattle.galois.proofs.Roots.{too_many_roots}
use Rattle.galois.specs.Polynomials.{value}

module _ {K : Type 0} {P : Ops K} (R : Ring2 P) where
  open P use {o, e, add, mul}
  open R use {add_zero, add_self, mul_assoc}

  pub pow-add : (x : K) (i j : ℕ) → pow P x (i + j) ≡ mul (pow P x i) (pow P x j)
  pow-add x zero j = ap (pow P x) (zero-plus j) ∙ sym (one_mul R _)
  pow-add x (suc i) j = ap (pow P x) (suc-plus i j) ∙ ap (mul x) (pow-add x i j) ∙ sym (mul_assoc _ _ _)

  pub pow-mul : (x : K) (i j : ℕ) → pow P x (i * j) ≡ pow P (pow P x i) j
  pow-mul x i zero = ap (pow P x) (times_zero i)
  pow-mul x i (suc j) =
      let z : i * suc j ≡ i + i * j = omega (arith, mul-suc i j) in
      ap (pow P x) z ∙ pow-add x i (i * j) ∙ ap (mul (pow P x i)) (pow-mul x i j)

  pub pow-one : (k : ℕ) → pow P e k ≡ e
  pow-one zero = refl
  pow-one (suc k) = one_mul R _ ∙ pow-one k

  pub pow-square : (x : K) (k : ℕ) → pow P (mul x x) k ≡ mul (pow P x k) (pow P x k)
  pow-square x zero = sym (one_mul R e)
  pow-square x (suc k) =
      ap (mul (mul x x)) (pow-square x k)
      ∙ solve R (x ∷ pow P x k ∷ []) (var 0 ⊗ var 0 ⊗ (var 1 ⊗ var 1)) (var 0 ⊗ var 1 ⊗ (var 0 ⊗ var 1)) tt

  pub value-cong : (c d : ℕ → K) (k : ℕ) (x : K) → ((i : ℕ) → i < k → c i ≡ d i) → value P c k x ≡ value P d k x
  unfolding value
  value-cong c d zero x h = refl
  value-cong c d (suc k) x h =
      ap₂ add (value-cong c d k x (λ i l. h i (omega arith))) (ap (λ y. mul y (pow P x k)) (h k (omega arith)))

  pub value_none : (c : ℕ → K) (k : ℕ) (x : K) → ((i : ℕ) → i < k → c i ≡ o) → value P c k x ≡ o
  unfolding value
  value_none c zero x h = refl
  value_none c (suc k) x h =
      ap₂ add (value_none c k x (λ i l. h i (omega arith))) (ap (λ y. mul y (pow P x k)) (h k (omega arith)))
      ∙ solve R (pow P x k ∷ []) (O ⊕ O ⊗ var 0) O tt

  pub value-add : (c d : ℕ → K) (k : ℕ) (x : K) → value P (λ i. add (c i) (d i)) k x ≡ add (value P c k x) (value P d k x)
  unfolding value
  value-add c d zero x = sym (add_zero o)
  value-add c d (suc k) x =
      ap (λ y. add y (mul (add (c k) (d k)) (pow P x k))) (value-add c d k x)
      ∙ solve R (value P c k x ∷ value P d k x ∷ c k ∷ d k ∷ pow P x k ∷ []) (var 0 ⊕ var 1 ⊕ (var 2 ⊕ var 3) ⊗ var 4)
      (var 0 ⊕ var 2 ⊗ var 4 ⊕ (var 1 ⊕ var 3 ⊗ var 4)) tt

  pub value-scale : (a : K) (c : ℕ → K) (k : ℕ) (x : K) → value P (λ i. mul a (c i)) k x ≡ mul a (value P c k x)
  unfolding value
  value-scale a c zero x = sym (mul_zero R a)
  value-scale a c (suc k) x =
      ap (λ y. add y (mul (mul a (c k)) (pow P x k))) (value-scale a c k x)
      ∙ solve R (a ∷ value P c k x ∷ c k ∷ pow P x k ∷ []) (var 0 ⊗ var 1 ⊕ var 0 ⊗ var 2 ⊗ var 3) (var 0 ⊗ (var 1 ⊕ var 2 ⊗ var 3)) tt

  pub value-first : (c : ℕ → K) (k : ℕ) (x : K) → value P c (suc k) x ≡ add (c 0) (mul x (value P (λ i. c (suc i)) k x))
  unfolding value
  value-first c zero x = solve R (c 0 ∷ x ∷ []) (O ⊕ var 0 ⊗ I) (var 0 ⊕ var 1 ⊗ O) tt
  value-first c (suc k) x =
      ap (λ y. add y (mul (c (suc k)) (mul x (pow P x k)))) (value-first c k x)
      ∙ solve R (c 0 ∷ x ∷ value P (λ i. c (suc i)) k x ∷ c (suc k) ∷ pow P x k ∷ []) (var 0 ⊕ var 1 ⊗ var 2 ⊕ var 3 ⊗ (var 1 ⊗ var 4))
      (var 0 ⊕ var 1 ⊗ (var 2 ⊕ var 3 ⊗ var 4)) tt

  -- the lowest r coefficients apart from the rest
  pub value-split : (c : ℕ → K) (r k : ℕ) (x : K) → value P c (r + k) x ≡ add (value P c r x) (mul (pow P x r) (value P (λ i. c (r + i)) k x))
  unfolding value
  value-split c r zero x =
      ap (λ n. value P c n x) (plus-zero r) ∙ solve R (value P c r x ∷ pow P x r ∷ []) (var 0) (var 0 ⊕ var 1 ⊗ O) tt
  value-split c r (suc k) x =
      ap (λ n. value P c n x) (add-suc r k)
      ∙ ap₂ (λ y z. add y (mul (c (r + k)) z)) (value-split c r k x) (pow-add x r k)
      ∙ solve R (value P c r x ∷ pow P x r ∷ value P (λ i. c (r + i)) k x ∷ c (r + k) ∷ pow P x k ∷ [])
      (var 0 ⊕ var 1 ⊗ var 2 ⊕ var 3 ⊗ (var 1 ⊗ var 4)) (var 0 ⊕ var 1 ⊗ (var 2 ⊕ var 3 ⊗ var 4)) tt

  -- coefficients past the first r that are none do not count
  pub value-more : (c : ℕ → K) (r k : ℕ) (x : K) → ((i : ℕ) → r ≤ i → c i ≡ o) → value P c (r + k) x ≡ value P c r x
  value-more c r k x h =
      value-split c r k x
      ∙ ap (λ y. add (value P c r x) (mul (pow P x r) y)) (value_none (λ i. c (r + i)) k x (λ i _. h (r + i) (omega arith)))
      ∙ solve R (value P c r x ∷ pow P x r ∷ []) (var 0 ⊕ var 1 ⊗ O) (var 0) tt

  -- Frobenius
  pub value-squares : (c : ℕ → K) (k : ℕ) (x : K)
      → mul (value P c k x) (value P c k x) ≡ value P (λ i. mul (c i) (c i)) k (mul x x)
  unfolding value
  value-squares c zero x = mul_zero R o
  value-squares c (suc k) x =
      solve R (value P c k x ∷ c k ∷ pow P x k ∷ []) ((var 0 ⊕ var 1 ⊗ var 2) ⊗ (var 0 ⊕ var 1 ⊗ var 2))
      (var 0 ⊗ var 0 ⊕ var 1 ⊗ var 1 ⊗ (var 2 ⊗ var 2)) tt
      ∙ ap₂ (λ y z. add y (mul (mul (c k) (c k)) z)) (value-squares c k x) (sym (pow-square x k))

  pub value-square : (c : ℕ → K) (k : ℕ) (x : K) → ((i : ℕ) → i < k → mul (c i) (c i) ≡ c i)
      → mul (value P c k x) (value P c k x) ≡ value P c k (mul x x)
  value-square c k x h = value-squares c k x ∙ value-cong (λ i. mul (c i) (c i)) c k (mul x x) h

  eval-tabulate : (c : ℕ → K) (k : ℕ) (x : K) → eval P (tabulate c k) x ≡ value P c k x
  unfolding value tabulate
  eval-tabulate c zero x = refl
  eval-tabulate c (suc k) x = ap (λ y. add (c 0) (mul x y)) (eval-tabulate (λ i. c (suc i)) k x) ∙ sym (value-first c k x)

  all-tabulate : (Q : K → Type 0) (c : ℕ → K) (k : ℕ) → ((i : ℕ) → i < k → Q (c i)) → All Q (tabulate c k)
  unfolding tabulate
  all-tabulate Q c zero h = tt
  all-tabulate Q c (suc k) h = (h 0 (omega arith), all-tabulate Q (λ i. c (suc i)) k (λ i l. h (suc i) (omega arith)))

  tabulate-all : (Q : K → Type 0) (c : ℕ → K) (k : ℕ) → All Q (tabulate c k) → (i : ℕ) → i < k → Q (c i)
  unfolding tabulate
  tabulate-all Q c zero h i l = absurd (omega arith)
  tabulate-all Q c (suc k) h zero l = h.0
  tabulate-all Q c (suc k) h (suc i) l = tabulate-all Q (λ i. c (suc i)) k h.1 i (omega arith)

  distinct-tabulate : (c : ℕ → K) (k : ℕ) → ((i j : ℕ) → i < j → j < k → c i ≢ c j) → Distinct (λ x. x) (tabulate c k)
  unfolding tabulate
  distinct-tabulate c zero h = tt
  distinct-tabulate c (suc k) h = (
    all-tabulate (λ y. c 0 ≢ y) (λ i. c (suc i)) k (λ i l. h 0 (suc i) (omega arith) (omega arith)),
    distinct-tabulate (λ i. c (suc i)) k (λ i j l m. h (suc i) (suc j) (omega arith) (omega arith)),
  )

module _ {K : Type 0} {P : Ops K} {is0 : K → Bool} (F : Field2 P is0) where
  open P use {o, e, add, mul}
  open F use {ring, no_divisors}

  -- k coefficients whose polynomial has k or more roots are none
  pub all_none : (c : ℕ → K) (k : ℕ) (b : ℕ → K) (r : ℕ) → k ≤ r → ((i j : ℕ) → i < j → j < r → b i ≢ b j)
      → ((i : ℕ) → i < r → value P c k (b i) ≡ o) → (i : ℕ) → i < k → c i ≡ o
  all_none c k b r le apart h =
      tabulate-all ring (λ y. y ≡ o) c k
      (too_many_roots F (tabulate b r) (tabulate c k) (omega (arith, length-tabulate c k, length-tabulate b r)) (distinct-tabulate ring b r apart)
      (all-tabulate ring (λ x. eval P (tabulate c k) x ≡ o) b r (λ i l. eval-tabulate ring c k (b i) ∙ h i l)))

  -- what is its own square is 0 or 1
  pub bit_of_lem : (c : K) → mul c c ≡ c → (c ≡ o) ⊎ (c ≡ e)
  bit_of_lem c h =
      elim (no_divisors c (add c e) (solve ring (c ∷ []) (var 0 ⊗ (var 0 ⊕ I)) (var 0 ⊗ var 0 ⊕ var 0) tt ∙ ap (λ y. add y c) h ∙ ring.add_self c)) [
        | inl p ↦ inl p
        | inr q ↦ inr (equal_of_sum ring c e q)
      ]
