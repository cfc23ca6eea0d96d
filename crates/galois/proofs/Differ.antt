-- The positions at which two rows differ, as a list: how many they are, which elements they stand for, and their power sums.
use Rattle.std.proofs.Common.{◌≡◌, ℕ, zero, suc, ◌+◌, ◌*◌, ◌<◌, ◌≤◌, Bool, true, false, cond, not, ◌≢◌, ◌⊎◌, List, [], ◌∷◌, length, sym, refl, ap, ◌∙◌, subst, ap₂, inl, inr, suc-mul, add_comm, zero-mul, arith}
use Rattle.std.proofs.lemmas.Bool.{cases_eq, true≢false, false≢true}
use Rattle.galois.specs.Model.{FieldModel, FieldLaws, units, power}
use Rattle.galois.specs.Ring.{pow}
use Rattle.galois.specs.Lists.{All, Distinct}
use Rattle.galois.specs.Sums.{S}
use Rattle.bits.specs.Bits.{xor}
use Rattle.galois.specs.Rows.{power_sum, unlike}
use Rattle.galois.proofs.Solve.{var, O, ◌⊕◌, solve}
use Rattle.galois.proofs.Laws.{power-lt, power-add, power-unit}
use Rattle.galois.proofs.Lift.{Element, same, ops, ring2, alpha, once, number, pow-power}
use Rattle.galois.proofs.PowerSums.{power_sum-lt, power_sum-cong}
use Rattle.galois.proofs.Distances.{apart, Turns}

-- the positions below n at which two rows differ, the highest first
unfoldable pub differ : (c d : ℕ → Bool) → ℕ → List ℕ
differ c d zero = []
differ c d (suc n) = cond (xor (c n) (d n)) (n ∷ differ c d n) (differ c d n)

pub length-differ : (c d : ℕ → Bool) (n : ℕ) → length (differ c d n) ≡ apart c d n
unfolding differ
length-differ c d zero = refl
length-differ c d (suc n) = step (c n) (d n) ∙ ap (λ k. unlike (c n) (d n) + k) (length-differ c d n)
  where
    step : (x y : Bool) → length (cond (xor x y) (n ∷ differ c d n) (differ c d n)) ≡ unlike x y + length (differ c d n)
    step true true = omega arith
    step true false = omega arith
    step false true = omega arith
    step false false = omega arith

-- what holds of each position at which they differ holds of all in the list
pub all_differ : (P : ℕ → Type 0) (c d : ℕ → Bool) (n : ℕ) → ((p : ℕ) → p < n → c p ≢ d p → P p) → All P (differ c d n)
unfolding differ
all_differ P c d zero h = tt
all_differ P c d (suc n) h = step (c n) (d n) (h n (omega arith)) (all_differ P c d n (λ p lt. h p (omega arith)))
  where
    step : (x y : Bool) → (x ≢ y → P n) → All P (differ c d n) → All P (cond (xor x y) (n ∷ differ c d n) (differ c d n))
    step true true here rest = rest
    step true false here rest = (here true≢false, rest)
    step false true here rest = (here false≢true, rest)
    step false false here rest = rest

-- some element of a list
abbrev pub Any : {A : Type 0} (P : A → Type 0) → List A → Type 0
Any P [] = ⊥
Any P (a ∷ l) = P a ⊎ Any P l

-- what follows for each element follows where some has it
pub any_elim : {A : Type 0} (P : A → Type 0) (C : Type 0) (l : List A) → All (λ a. P a → C) l → Any P l → C
any_elim P C [] all any = absurd any
any_elim P C (a ∷ l) all any = elim any [ inl p ↦ all.0 p | inr q ↦ any_elim P C l all.1 q ]

-- each position at which they differ is in the list
pub any_differ : (P : ℕ → Type 0) (c d : ℕ → Bool) (n p : ℕ) → p < n → c p ≢ d p → P p → Any P (differ c d n)
unfolding differ
any_differ P c d zero p lt other h = absurd (omega arith)
any_differ P c d (suc n) p lt other h =
    elim (cases_eq n p) [
      | inl e ↦ first (c n) (d n) (subst (λ i. c i ≢ d i) (sym e) other) (subst P (sym e) h)
      | inr e ↦ later (c n) (d n) (any_differ P c d n p (omega arith) other h)
    ]
  where
    first : (x y : Bool) → x ≢ y → P n → Any P (cond (xor x y) (n ∷ differ c d n) (differ c d n))
    first true true ne here = absurd (ne refl)
    first true false ne here = inl here
    first false true ne here = inl here
    first false false ne here = absurd (ne refl)

    later : (x y : Bool) → Any P (differ c d n) → Any P (cond (xor x y) (n ∷ differ c d n) (differ c d n))
    later true true rest = rest
    later true false rest = inr rest
    later false true rest = inr rest
    later false false rest = rest

module _ (F : FieldModel) (l : FieldLaws F) where
  -- the element that a position stands for
  abbrev pub X : ℕ → Element F
  X p = pow (ops F l) (alpha F l) p

  pub X_not_zero : (p : ℕ) → p < units F → X p ≢ (ops F l).o
  X_not_zero p lt e = power-unit F l p (omega arith) (sym (pow-power F l p) ∙ number F l e)

  pub X-pow : (p i : ℕ) → (pow (ops F l) (X p) i).0 ≡ power F (i * p)
  unfolding power
  X-pow p zero = ap (power F) (sym (zero-mul p))
  X-pow p (suc i) =
      ap₂ F.mul (pow-power F l p) (X-pow p i) ∙ sym (power-add F l p (i * p)) ∙ ap (power F) (add_comm p (i * p) ∙ sym (suc-mul i p))

  pub all_units : (c d : ℕ → Bool) → All (λ p. X p ≢ (ops F l).o) (differ c d (units F))
  all_units c d = all_differ (λ p. X p ≢ (ops F l).o) c d (units F) (λ p lt _. X_not_zero p lt)

  pub distinct : (c d : ℕ → Bool) (n : ℕ) → n ≤ units F → Distinct X (differ c d n)
  unfolding differ
  distinct c d zero h = tt
  distinct c d (suc n) h =
      step (c n) (d n) (distinct c d n (omega arith))
      (all_differ (λ p. X n ≢ X p) c d n (λ p lt _ e. let z = once F l n p (omega arith) (omega arith) e in omega arith))
    where
      step : (x y : Bool) → Distinct X (differ c d n) → All (λ p. X n ≢ X p) (differ c d n)
          → Distinct X (cond (xor x y) (n ∷ differ c d n) (differ c d n))
      step true true rest other = rest
      step true false rest other = (other, rest)
      step false true rest other = (other, rest)
      step false false rest other = rest

  -- a power sum as an element
  abbrev pub sum_of : ℕ → (ℕ → Bool) → ℕ → Element F
  sum_of i c n = (power_sum F i c n, power_sum-lt F l i c n)

  -- what a cell adds to it
  abbrev term : ℕ → ℕ → Bool → Element F
  term i n b = cond b (pow (ops F l) (X n) i) (ops F l).o

  sum_more : (i : ℕ) (c : ℕ → Bool) (n : ℕ) → sum_of i c (suc n) ≡ (ops F l).add (sum_of i c n) (term i n (c n))
  unfolding power_sum
  sum_more i c n = same F _ _ (ap (F.add (power_sum F i c n)) (cell (c n)))
    where
      cell : (b : Bool) → cond b (power F (i * n)) 0 ≡ (term i n b).0
      cell true = sym (X-pow n i)
      cell false = refl

  -- the power sums over the positions at which two rows differ are the sums of theirs
  pub differ-sums : (c d : ℕ → Bool) (i n : ℕ) → S (ops F l) X i (differ c d n) ≡ (ops F l).add (sum_of i c n) (sum_of i d n)
  unfolding differ power_sum
  differ-sums c d i zero = same F _ _ (sym (l.ring.add_zero 0 (power_sum-lt F l i c 0)))
  differ-sums c d i (suc n) =
      step (c n) (d n) (sum_of i c n) (sum_of i d n) (differ-sums c d i n)
      ∙ sym (ap₂ (ops F l).add (sum_more i c n) (sum_more i d n))
    where
      step : (a b : Bool) (u v : Element F) → S (ops F l) X i (differ c d n) ≡ (ops F l).add u v
          → S (ops F l) X i (cond (xor a b) (n ∷ differ c d n) (differ c d n))
          ≡ (ops F l).add ((ops F l).add u (term i n a)) ((ops F l).add v (term i n b))
      step true true u v h = h ∙ solve (ring2 F l) (u ∷ v ∷ pow (ops F l) (X n) i ∷ []) (var 0 ⊕ var 1) (var 0 ⊕ var 2 ⊕ (var 1 ⊕ var 2)) tt
      step true false u v h =
          ap ((ops F l).add (pow (ops F l) (X n) i)) h ∙ solve (ring2 F l) (u ∷ v ∷ pow (ops F l) (X n) i ∷ []) (var 2 ⊕ (var 0 ⊕ var 1)) (var 0 ⊕ var 2 ⊕ (var 1 ⊕ O)) tt
      step false true u v h =
          ap ((ops F l).add (pow (ops F l) (X n) i)) h ∙ solve (ring2 F l) (u ∷ v ∷ pow (ops F l) (X n) i ∷ []) (var 2 ⊕ (var 0 ⊕ var 1)) (var 0 ⊕ O ⊕ (var 1 ⊕ var 2)) tt
      step false false u v h = h ∙ solve (ring2 F l) (u ∷ v ∷ []) (var 0 ⊕ var 1) (var 0 ⊕ O ⊕ (var 1 ⊕ O)) tt

  -- a turn adds the power of its position
  pub turn-sum : (c x : ℕ → Bool) (i p n : ℕ) → p < n → Turns c x p → power_sum F i x n ≡ F.add (power_sum F i c n) (power F (i * p))
  unfolding power_sum
  turn-sum c x i p zero lt h = absurd (omega arith)
  turn-sum c x i p (suc n) lt h =
      elim (cases_eq n p) [
        | inl e ↦
            ap₂ (λ s b. F.add s (cond b (power F (i * n)) 0)) (power_sum-cong F i x c n (λ j u. h.there j (omega arith)))
            (subst (λ q. x q ≡ not (c q)) (sym e) h.here)
            ∙ flip (c n) ∙ ap (λ q. F.add (power_sum F i c (suc n)) (power F (i * q))) e
        | inr e ↦
            ap₂ (λ s b. F.add s (cond b (power F (i * n)) 0)) (turn-sum c x i p n (omega arith) h) (h.there n e) ∙ swap (c n)
      ]
    where
      at : ℕ → Element F
      at q = (power F (i * q), power-lt F l (i * q))

      flip : (b : Bool) → F.add (power_sum F i c n) (cond (not b) (power F (i * n)) 0)
          ≡ F.add (F.add (power_sum F i c n) (cond b (power F (i * n)) 0)) (power F (i * n))
      flip true = number F l (solve (ring2 F l) (sum_of i c n ∷ at n ∷ []) (var 0 ⊕ O) (var 0 ⊕ var 1 ⊕ var 1) tt)
      flip false = number F l (solve (ring2 F l) (sum_of i c n ∷ at n ∷ []) (var 0 ⊕ var 1) (var 0 ⊕ O ⊕ var 1) tt)

      swap : (b : Bool) → F.add (F.add (power_sum F i c n) (power F (i * p))) (cond b (power F (i * n)) 0)
          ≡ F.add (F.add (power_sum F i c n) (cond b (power F (i * n)) 0)) (power F (i * p))
      swap true = number F l (solve (ring2 F l) (sum_of i c n ∷ at n ∷ at p ∷ []) (var 0 ⊕ var 2 ⊕ var 1) (var 0 ⊕ var 1 ⊕ var 2) tt)
      swap false = number F l (solve (ring2 F l) (sum_of i c n ∷ at p ∷ []) (var 0 ⊕ var 1 ⊕ O) (var 0 ⊕ O ⊕ var 1) tt)
