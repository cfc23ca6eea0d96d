-- Lists and functions of the index: each is the other's, as far as the list goes.
use Rattle.std.proofs.Common.{◌≡◌, ℕ, zero, suc, ◌+◌, ◌<◌, List, [], ◌∷◌, length, get_or, drop, sym, refl, ap, ◌∙◌, ap₂, suc-add, zero-add, arith}
use Rattle.galois.specs.Lists.{tabulate}

module _ {A : Type 0} where
  pub length-tabulate : (f : ℕ → A) (n : ℕ) → length (tabulate f n) ≡ n
  unfolding tabulate
  length-tabulate f zero = refl
  length-tabulate f (suc n) = ap suc (length-tabulate (λ j. f (suc j)) n)

  pub get_or-tabulate : (f : ℕ → A) (n : ℕ) (d : A) (j : ℕ) → j < n → get_or (tabulate f n) j d ≡ f j
  unfolding tabulate
  get_or-tabulate f zero d j h = absurd (omega arith)
  get_or-tabulate f (suc n) d zero h = refl
  get_or-tabulate f (suc n) d (suc j) h = get_or-tabulate (λ i. f (suc i)) n d j (omega arith)

  pub tabulate-cong : (f g : ℕ → A) (n : ℕ) → ((j : ℕ) → j < n → f j ≡ g j) → tabulate f n ≡ tabulate g n
  unfolding tabulate
  tabulate-cong f g zero h = refl
  tabulate-cong f g (suc n) h = ap₂ ◌∷◌ (h 0 (omega arith)) (tabulate-cong (λ j. f (suc j)) (λ j. g (suc j)) n (λ j lt. h (suc j) (omega arith)))

  pub tabulate-get_or : (xs : List A) (d : A) → tabulate (λ j. get_or xs j d) (length xs) ≡ xs
  unfolding tabulate
  tabulate-get_or [] d = refl
  tabulate-get_or (x ∷ xs) d = ap (λ (ys : List A). x ∷ ys) (tabulate-get_or xs d)

  pub same_list : (xs ys : List A) (d : A) → length xs ≡ length ys → ((j : ℕ) → j < length xs → get_or xs j d ≡ get_or ys j d) → xs ≡ ys
  same_list xs ys d e h =
      sym (tabulate-get_or xs d) ∙ tabulate-cong (λ j. get_or xs j d) (λ j. get_or ys j d) (length xs) h
      ∙ ap (tabulate (λ j. get_or ys j d)) e ∙ tabulate-get_or ys d

  pub drop-tabulate : (f : ℕ → A) (r k : ℕ) → drop r (tabulate f (r + k)) ≡ tabulate (λ j. f (r + j)) k
  unfolding tabulate
  drop-tabulate f zero k = ap (tabulate f) (zero-add k) ∙ tabulate-cong f (λ j. f (0 + j)) k (λ j _. ap f (sym (zero-add j)))
  drop-tabulate f (suc r) k =
      ap (λ n. drop (suc r) (tabulate f n)) (suc-add r k) ∙ drop-tabulate (λ j. f (suc j)) r k
      ∙ tabulate-cong (λ j. f (suc (r + j))) (λ j. f (suc r + j)) k (λ j _. ap f (sym (suc-add r j)))
