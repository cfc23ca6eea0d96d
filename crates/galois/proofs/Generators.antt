-- The generator and the code over any field of characteristic 2 with an element of order n.
use Rattle.std.proofs.Common.{◌≡◌, ℕ, zero, suc, ◌+◌, ◌*◌, ◌/◌, ◌%◌, ◌<◌, ◌≤◌, Bool, true, false, cond, eqb, ◌≢◌, ◌⊎◌, [], ◌∷◌, sym, refl, ap, ◌∙◌, ap₂, inl, inr, arith}
use Rattle.std.proofs.lemmas.Bool.{cases_eq, cases_lt, cases_order}
use Rattle.std.proofs.lemmas.Nat.{div-add-mod'}
use Rattle.galois.specs.Ring.{Ops, Ring2, Field2, pow}
use Rattle.galois.proofs.Solve.{var, O, I, ◌⊕◌, ◌⊗◌, solve, mul_zero, one_mul, zero_mul, equal_of_sum}
use Rattle.galois.specs.Polynomials.{value, before, factor, generated}
use Rattle.galois.specs.Cosets.{At, walk, exponent}
use Rattle.galois.proofs.Polynomials.{pow-add, pow-mul, pow-one, value_none, value-add, value-scale, value-first, value-split, value-squares, value-square, all_none, bit_of_lem}
use Rattle.galois.proofs.Cosets.{Fine, first-odd}

module _ {K : Type 0} {P : Ops K} (R : Ring2 P) where
  open P use {o, e, add, mul}

  pub above : (b : ℕ → K) (d i : ℕ) → d < i → generated P b d i ≡ o
  unfolding generated
  above b zero zero h = absurd (omega arith)
  above b zero (suc i) h = refl
  above b (suc d) zero h = absurd (omega arith)
  above b (suc d) (suc i) h =
      ap₂ (λ y z. add y (mul (b d) z)) (above b d i (omega arith)) (above b d (suc i) (omega arith))
      ∙ solve R (b d ∷ []) (O ⊕ var 0 ⊗ O) O tt

  pub top : (b : ℕ → K) (d : ℕ) → generated P b d d ≡ e
  unfolding generated
  top b zero = refl
  top b (suc d) =
      ap₂ (λ y z. add y (mul (b d) z)) (top b d) (above b d (suc d) (omega arith))
      ∙ solve R (b d ∷ []) (I ⊕ var 0 ⊗ O) I tt

  times : (a : K) (g : ℕ → K) (d : ℕ) (x : K) → g (suc d) ≡ o
      → value P (factor P a g) (suc (suc d)) x ≡ mul (add x a) (value P g (suc d) x)
  unfolding value
  times a g d x h =
      value-add R (before P g) (λ i. mul a (g i)) (suc (suc d)) x
      ∙ ap₂ add (value-first R (before P g) (suc d) x) (value-scale R a g (suc (suc d)) x)
      ∙ ap (λ y. add (add o (mul x (value P g (suc d) x))) (mul a (add (value P g (suc d) x) (mul y (pow P x (suc d)))))) h
      ∙ solve R (x ∷ a ∷ value P g (suc d) x ∷ pow P x (suc d) ∷ []) (O ⊕ var 0 ⊗ var 2 ⊕ var 1 ⊗ (var 2 ⊕ O ⊗ var 3)) ((var 0 ⊕ var 1) ⊗ var 2) tt

  pub roots : (b : ℕ → K) (d i : ℕ) → i < d → value P (generated P b d) (suc d) (b i) ≡ o
  unfolding generated
  roots b zero i h = absurd (omega arith)
  roots b (suc d) i h =
      times (b d) (generated P b d) d (b i) (above b d (suc d) (omega arith))
      ∙ elim (cases_eq i d) [
        | inl q ↦ ap (λ k. mul (add (b k) (b d)) (value P (generated P b d) (suc d) (b i))) q ∙ ap (λ y. mul y (value P (generated P b d) (suc d) (b i))) (R.add_self (b d)) ∙ zero_mul R _
        | inr ne ↦ ap (mul (add (b i) (b d))) (roots b d i (omega arith)) ∙ mul_zero R _
      ]

module _ {K : Type 0} {P : Ops K} {is0 : K → Bool} (F : Field2 P is0) (alpha : K) (n : ℕ)
    (turn : pow P alpha n ≡ P.e) (once : (p q : ℕ) → p < n → q < n → pow P alpha p ≡ pow P alpha q → p ≡ q) where
  open P use {o, e, add, mul}
  open F use {ring, no_divisors}

  pub pow-turn : (j : ℕ) → pow P alpha (j % n) ≡ pow P alpha j
  pow-turn j =
      let z : j ≡ n * (j / n) + j % n = omega (arith, div-add-mod' j n) in
      sym (ap (pow P alpha) z ∙ pow-add ring alpha (n * (j / n)) (j % n)
      ∙ ap (λ y. mul y (pow P alpha (j % n))) (pow-mul ring alpha n (j / n) ∙ ap (λ y. pow P y (j / n)) turn ∙ pow-one ring (j / n))
      ∙ one_mul ring _)

  pub pow-double : (j : ℕ) → pow P alpha ((j + j) % n) ≡ mul (pow P alpha j) (pow P alpha j)
  pow-double j = pow-turn (j + j) ∙ pow-add ring alpha j j

  abbrev pub root : ℕ → K
  root d = pow P alpha (exponent n d)

  module _ (t r : ℕ) (fine : Fine n t r) where
    pub roots_apart : (i j : ℕ) → i < j → j < r → root i ≢ root j
    roots_apart i j l h q = fine.apart i j l h (once (exponent n i) (exponent n j) (fine.below i (omega arith)) (fine.below j h) q)

    abbrev g : ℕ → K
    g = generated P root r

    -- the squares of the coefficients have the same roots
    square_root : (i : ℕ) → i < r → value P (λ k. mul (g k) (g k)) (suc r) (root i) ≡ o
    square_root i h =
        let w = fine.halved i h in
        let q : root i ≡ mul (root w.0) (root w.0) = ap (pow P alpha) (sym w.2) ∙ pow-double (exponent n w.0) in
        ap (value P (λ k. mul (g k) (g k)) (suc r)) q
        ∙ sym (value-squares ring g (suc r) (root w.0))
        ∙ ap (λ y. mul y (value P g (suc r) (root w.0))) (roots ring root r w.0 w.1) ∙ zero_mul ring _

    abbrev gap : ℕ → K
    gap i = add (g i) (mul (g i) (g i))

    gap-value : (i : ℕ) → i < r → value P gap r (root i) ≡ o
    unfolding value
    gap-value i h =
        let z : gap r ≡ o = ap (λ y. add y (mul y y)) (top ring root r) ∙ solve ring [] (I ⊕ I ⊗ I) O tt in
        solve ring (value P gap r (root i) ∷ pow P (root i) r ∷ []) (var 0) (var 0 ⊕ O ⊗ var 1) tt
        ∙ ap (λ y. add (value P gap r (root i)) (mul y (pow P (root i) r))) (sym z)
        ∙ value-add ring g (λ k. mul (g k) (g k)) (suc r) (root i)
        ∙ ap₂ add (roots ring root r i h) (square_root i h) ∙ ring.add_self o

    -- each coefficient is its own square
    pub generator_square : (i : ℕ) → mul (g i) (g i) ≡ g i
    generator_square i =
        elim (cases_order i r) [
          | inl q ↦ ap (λ k. mul (g k) (g k)) q ∙ ap (λ y. mul y y) (top ring root r) ∙ one_mul ring e ∙ sym (top ring root r) ∙ ap g (sym q)
          | inr (inl lt) ↦ sym (equal_of_sum ring (g i) (mul (g i) (g i)) (all_none F gap r root r (omega arith) roots_apart gap-value i lt))
          | inr (inr gt) ↦ ap (λ y. mul y y) (above ring root r i gt) ∙ mul_zero ring o ∙ sym (above ring root r i gt)
        ]

    pub generator_bit : (i : ℕ) → (g i ≡ o) ⊎ (g i ≡ e)
    generator_bit i = bit_of_lem F (g i) (generator_square i)

    -- at a root the highest power is what the lower coefficients say
    pub generator-low : (i : ℕ) → i < r → value P g r (root i) ≡ pow P (root i) r
    unfolding value
    generator-low i h =
        equal_of_sum ring (value P g r (root i)) (pow P (root i) r)
        (ap (add (value P g r (root i))) (sym (ap (λ y. mul y (pow P (root i) r)) (top ring root r) ∙ one_mul ring _)) ∙ roots ring root r i h)

    -- ---- the code: bits c 0 .. c (k - 1) that vanish at the odd powers below 2 t
    abbrev Vanishes : (ℕ → K) → ℕ → Type 0
    Vanishes c k = (i : ℕ) → i < t → value P c k (pow P alpha (suc (i + i))) ≡ o

    pub vanishes-at : (c : ℕ → K) (k : ℕ) → ((i : ℕ) → i < k → mul (c i) (c i) ≡ c i) → Vanishes c k
        → (d : ℕ) → d < r → value P c k (root d) ≡ o
    unfolding walk
    vanishes-at c k bits h zero l = h 0 (let w = fine.within 0 l in omega arith)
    vanishes-at c k bits h (suc d) l =
        go (eqb (((walk n d).here + (walk n d).here) % n) (walk n d).first) (vanishes-at c k bits h d (omega arith)) (first-odd n (suc d)) (fine.within (suc d) l)
      where
        up : At
        up = record { first = (walk n d).first + 2; here = (walk n d).first + 2 }

        down : At
        down = record { first = (walk n d).first; here = ((walk n d).here + (walk n d).here) % n }

        go : (b : Bool) → value P c k (root d) ≡ o → (s : ℕ) × ((cond b up down).first ≡ suc (s + s)) → (cond b up down).first < t + t
            → value P c k (pow P alpha (cond b up down).here) ≡ o
        go true ih w lt = ap (λ j. value P c k (pow P alpha j)) w.1 ∙ h w.0 (let q = w.1 in omega arith)
        go false ih w lt =
            ap (value P c k) (pow-double (walk n d).here) ∙ sym (value-square ring c k (root d) bits)
            ∙ ap (λ y. mul y (value P c k (root d))) ih ∙ zero_mul ring _

    pub starts_vanish : (c : ℕ → K) (k : ℕ) → ((d : ℕ) → d < r → value P c k (root d) ≡ o) → Vanishes c k
    starts_vanish c k h i l =
        let w = fine.starts i l in ap (λ j. value P c k (pow P alpha j)) (sym w.2) ∙ h w.0 w.1

    -- rows of r + k bits that agree past the first r agree everywhere
    pub only_one : (c d : ℕ → K) (k : ℕ) → ((i : ℕ) → i < r + k → mul (c i) (c i) ≡ c i) → ((i : ℕ) → i < r + k → mul (d i) (d i) ≡ d i)
        → ((i : ℕ) → r ≤ i → i < r + k → c i ≡ d i) → Vanishes c (r + k) → Vanishes d (r + k)
        → (i : ℕ) → i < r + k → c i ≡ d i
    only_one c d k bc bd same hc hd i l =
        equal_of_sum ring (c i) (d i) (elim (cases_lt i r) [ inl lt ↦ all_none F (λ i. add (c i) (d i)) r root r (omega arith) roots_apart zero_at i lt | inr ge ↦ ap (λ y. add y (d i)) (same i ge l) ∙ ring.add_self (d i) ])
      where
        zero_at : (j : ℕ) → j < r → value P (λ i. add (c i) (d i)) r (root j) ≡ o
        zero_at j h =
            solve ring (value P (λ i. add (c i) (d i)) r (root j) ∷ pow P (root j) r ∷ []) (var 0) (var 0 ⊕ var 1 ⊗ O) tt
            ∙ ap (λ y. add (value P (λ i. add (c i) (d i)) r (root j)) (mul (pow P (root j) r) y))
            (sym (value_none ring (λ i. add (c (r + i)) (d (r + i))) k (root j) (λ i u. ap (λ y. add y (d (r + i))) (same (r + i) (omega arith) (omega arith)) ∙ ring.add_self _)))
            ∙ sym (value-split ring (λ i. add (c i) (d i)) r k (root j))
            ∙ value-add ring c d (r + k) (root j)
            ∙ ap₂ add (vanishes-at c (r + k) bc hc j h) (vanishes-at d (r + k) bd hd j h) ∙ ring.add_self o
