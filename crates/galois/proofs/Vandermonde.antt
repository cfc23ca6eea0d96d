-- A sum of c a * (X a)^j over distinct non-zero X a that is 0 at as many powers as there are terms has every c a zero.
use Rattle.std.proofs.Common.{◌≡◌, ℕ, zero, suc, ◌+◌, ◌<◌, ◌≤◌, Bool, ◌≢◌, ◌⊎◌, List, [], ◌∷◌, length, sym, refl, ap, ◌∙◌, ap₂, inl, inr, ⊎_elim, suc-add as suc-plus, zero-add as zero-plus, arith}
use Rattle.galois.specs.Ring.{Ops, Field2, pow}
use Rattle.galois.specs.Sums.{S, weighed}
use Rattle.galois.specs.Lists.{All, Distinct}
use Rattle.galois.proofs.Solve.{var, O, I, ◌⊕◌, ◌⊗◌, solve, mul_zero, one_mul, equal_of_sum}

module _ {A : Type 0} where
  pub all_map : {P Q : A → Type 0} → ((a : A) → P a → Q a) → (l : List A) → All P l → All Q l
  all_map f [] h = tt
  all_map f (a ∷ l) h = (f a h.0, all_map f l h.1)

  pub all_map2 : {P Q U : A → Type 0} → ((a : A) → P a → Q a → U a) → (l : List A) → All P l → All Q l → All U l
  all_map2 f [] h k = tt
  all_map2 f (a ∷ l) h k = (f a h.0 k.0, all_map2 f l h.1 k.1)

module _ {K : Type 0} {P : Ops K} {is0 : K → Bool} (F : Field2 P is0) where
  open P use {o, e, add, mul}
  open F use {ring, no_divisors, one_is_not_zero}
  open F.ring use {add_zero}

  -- a factor that is not 0 goes away
  pub cancel : (a b : K) → mul a b ≡ o → b ≢ o → a ≡ o
  cancel a b h n = ⊎_elim (λ p. p) (λ q. absurd (n q)) (no_divisors a b h)

  pub product-not_zero : (a b : K) → a ≢ o → b ≢ o → mul a b ≢ o
  product-not_zero a b p q h = p (cancel a b h q)

  -- the sum of two that differ is not 0
  pub sum_not_zero : (a b : K) → a ≢ b → add a b ≢ o
  sum_not_zero a b n h = n (equal_of_sum ring a b h)

  module _ {A : Type 0} (X : A → K) where
    shift-step : (c y x q s t : K)
        → add (mul (mul c (add y x)) q) (add s (mul x t)) ≡ add (add (mul c (mul y q)) s) (mul x (add (mul c q) t))
    shift-step c y x q s t =
        solve ring (c ∷ y ∷ x ∷ q ∷ s ∷ t ∷ []) (var 0 ⊗ (var 1 ⊕ var 2) ⊗ var 3 ⊕ (var 4 ⊕ var 2 ⊗ var 5))
        (var 0 ⊗ (var 1 ⊗ var 3) ⊕ var 4 ⊕ var 2 ⊗ (var 0 ⊗ var 3 ⊕ var 5)) tt

    -- the sums with each weight multiplied by X a + x
    shift : (c : A → K) (x : K) (j : ℕ) (l : List A)
        → weighed P X (λ a. mul (c a) (add (X a) x)) j l ≡ add (weighed P X c (suc j) l) (mul x (weighed P X c j l))
    shift c x j [] = sym (ap (add o) (mul_zero ring x) ∙ add_zero o)
    shift c x j (a ∷ l) = ap (add _) (shift c x j l) ∙ shift-step (c a) (X a) x (pow P (X a) j) _ _

    drop_step : (c x q s t : K) → add (add (mul c (mul x q)) s) (mul x (add (mul c q) t)) ≡ add s (mul x t)
    drop_step c x q s t =
        solve ring (c ∷ x ∷ q ∷ s ∷ t ∷ []) (var 0 ⊗ (var 1 ⊗ var 2) ⊕ var 3 ⊕ var 1 ⊗ (var 0 ⊗ var 2 ⊕ var 4))
        (var 3 ⊕ var 1 ⊗ var 4) tt

    weighed_zero : (c : A → K) (j : ℕ) (l : List A) → All (λ a. c a ≡ o) l → weighed P X c j l ≡ o
    weighed_zero c j [] h = refl
    weighed_zero c j (a ∷ l) h =
        ap₂ add (ap (λ x. mul x (pow P (X a) j)) h.0) (weighed_zero c j l h.1)
        ∙ solve ring (pow P (X a) j ∷ []) (O ⊗ var 0 ⊕ O) O tt

    pub vandermonde : (l : List A) (c : A → K) → Distinct X l → All (λ a. X a ≢ o) l
        → ((j : ℕ) → j < length l → weighed P X c (suc j) l ≡ o) → All (λ a. c a ≡ o) l
    vandermonde [] c d n h = tt
    vandermonde (a ∷ l) c d n h =
        let ih = vandermonde l (λ b. mul (c b) (add (X b) (X a))) d.1 n.1 sums in
        (first (rest ih), rest ih)
      where
        sums : (j : ℕ) → j < length l → weighed P X (λ b. mul (c b) (add (X b) (X a))) (suc j) l ≡ o
        sums j k =
            shift c (X a) (suc j) l
            ∙ sym (drop_step (c a) (X a) (pow P (X a) (suc j)) _ _)
            ∙ ap₂ (λ p q. add p (mul (X a) q)) (h (suc j) (omega arith)) (h j (omega arith))
            ∙ solve ring (X a ∷ []) (O ⊕ var 0 ⊗ O) O tt

        rest : All (λ b. mul (c b) (add (X b) (X a)) ≡ o) l → All (λ b. c b ≡ o) l
        rest ih =
            all_map2 (λ b p q. cancel (c b) (add (X b) (X a)) p (sum_not_zero (X b) (X a) (λ s. q (sym s)))) l ih d.0

        first : All (λ b. c b ≡ o) l → c a ≡ o
        first r =
            cancel (c a) (X a)
            (solve ring (c a ∷ X a ∷ []) (var 0 ⊗ var 1) (var 0 ⊗ (var 1 ⊗ I) ⊕ O) tt
            ∙ ap (add (mul (c a) (mul (X a) e))) (sym (weighed_zero c 1 l r)) ∙ h 0 (omega arith)) n.0

    weighed_one : (j : ℕ) (l : List A) → weighed P X (λ _. e) j l ≡ S P X j l
    weighed_one j [] = refl
    weighed_one j (a ∷ l) = ap₂ add (one_mul ring _) (weighed_one j l)

    -- distinct non-zero elements whose power sums S_1 .. S_w are 0, w being how many they are, are none
    pub no-elements : (l : List A) → Distinct X l → All (λ a. X a ≢ o) l
        → ((j : ℕ) → j < length l → S P X (suc j) l ≡ o) → l ≡ []
    no-elements [] d n h = refl
    no-elements (a ∷ l) d n h =
        absurd (one_is_not_zero (vandermonde (a ∷ l) (λ _. e) d n (λ j k. weighed_one (suc j) (a ∷ l) ∙ h j k)).0)

    pow-plus : (x : K) (i j : ℕ) → pow P x (i + j) ≡ mul (pow P x i) (pow P x j)
    pow-plus x zero j = ap (pow P x) (zero-plus j) ∙ sym (one_mul ring _)
    pow-plus x (suc i) j = ap (pow P x) (suc-plus i j) ∙ ap (mul x) (pow-plus x i j) ∙ sym (ring.mul_assoc _ _ _)

    -- Frobenius
    pub twice : (j : ℕ) (l : List A) → S P X (j + j) l ≡ mul (S P X j l) (S P X j l)
    twice j [] = sym (mul_zero ring o)
    twice j (a ∷ l) =
        ap₂ add (pow-plus (X a) j j) (twice j l)
        ∙ solve ring (pow P (X a) j ∷ S P X j l ∷ []) (var 0 ⊗ var 0 ⊕ var 1 ⊗ var 1) ((var 0 ⊕ var 1) ⊗ (var 0 ⊕ var 1)) tt

    halves : (j : ℕ) → (k : ℕ) × ((j ≡ k + k) ⊎ (j ≡ suc (k + k)))
    halves zero = (0, inl refl)
    halves (suc j) = up (halves j)
      where
        up : (k : ℕ) × ((j ≡ k + k) ⊎ (j ≡ suc (k + k))) → (k : ℕ) × ((suc j ≡ k + k) ⊎ (suc j ≡ suc (k + k)))
        up p = elim p.1 [ inl q ↦ (p.0, inr (ap suc q)) | inr q ↦ (suc p.0, inl (omega arith)) ]

    -- the odd power sums below 2t give all of S_1 .. S_2t
    pub all_sums : (t : ℕ) (l : List A) → ((i : ℕ) → i < t → S P X (suc (i + i)) l ≡ o)
        → (f j : ℕ) → j ≤ f → j < t + t → S P X (suc j) l ≡ o
    all_sums t l h zero j b k = let z : suc j ≡ 1 = omega arith in ap (λ n. S P X n l) z ∙ h 0 (omega arith)
    all_sums t l h (suc f) j b k = go (halves j) (all_sums t l h f)
      where
        go : (k : ℕ) × ((j ≡ k + k) ⊎ (j ≡ suc (k + k))) → ((i : ℕ) → i ≤ f → i < t + t → S P X (suc i) l ≡ o) → S P X (suc j) l ≡ o
        go p ih =
            elim p.1 [
              | inl q ↦ ap (λ n. S P X (suc n) l) q ∙ h p.0 (omega arith)
              | inr q ↦
                  let z : suc j ≡ suc p.0 + suc p.0 = omega arith in
                  ap (λ n. S P X n l) z ∙ twice (suc p.0) l
                  ∙ ap (mul (S P X (suc p.0) l)) (ih p.0 (omega arith) (omega arith)) ∙ mul_zero ring _
            ]

    -- at most 2t distinct non-zero elements whose odd power sums below 2t are 0 are none
    pub least-distance : (t : ℕ) (l : List A) → length l ≤ t + t → Distinct X l → All (λ a. X a ≢ o) l
        → ((i : ℕ) → i < t → S P X (suc (i + i)) l ≡ o) → l ≡ []
    least-distance t l w d n h = no-elements l d n (λ j k. all_sums t l h j j (omega arith) (omega arith))
