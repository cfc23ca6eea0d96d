-- At how many of their first n positions two rows differ, rows being functions of the position, and that `distance` of lists is that.
use Rattle.std.proofs.Common.{◌≡◌, ℕ, zero, suc, ◌+◌, ◌<◌, ◌≤◌, Bool, true, false, not, ◌≢◌, ◌⊎◌, List, [], ◌∷◌, length, sym, refl, ap, ◌∙◌, subst, ap₂, inl, inr, arith}
use Rattle.std.proofs.lemmas.Bool.{cases_eq, true≢false, false≢true}
use Rattle.galois.specs.Rows.{cell_of, unlike, distance}

abbrev pub apart : (c d : ℕ → Bool) → ℕ → ℕ
apart c d zero = 0
apart c d (suc n) = unlike (c n) (d n) + apart c d n

-- ---- two cells
pub same_or_other : (x y : Bool) → (x ≡ y) ⊎ (x ≢ y)
same_or_other true true = inl refl
same_or_other true false = inr true≢false
same_or_other false true = inr false≢true
same_or_other false false = inl refl

-- of two cells that differ, one is the other turned
pub other_is_not : (x y : Bool) → x ≢ y → x ≡ not y
other_is_not true true n = absurd (n refl)
other_is_not true false n = refl
other_is_not false true n = refl
other_is_not false false n = absurd (n refl)

pub not_differs : (x : Bool) → not x ≢ x
not_differs true e = false≢true e
not_differs false e = true≢false e

pub unlike-same : (x y : Bool) → x ≡ y → unlike x y ≡ 0
unlike-same true true e = refl
unlike-same true false e = absurd (true≢false e)
unlike-same false true e = absurd (false≢true e)
unlike-same false false e = refl

pub unlike-other : (x y : Bool) → x ≢ y → unlike x y ≡ 1
unlike-other true true n = absurd (n refl)
unlike-other true false n = refl
unlike-other false true n = refl
unlike-other false false n = absurd (n refl)

unlike-most : (x y : Bool) → unlike x y ≤ 1
unlike-most true true = omega arith
unlike-most true false = omega arith
unlike-most false true = omega arith
unlike-most false false = omega arith

unlike-sym : (x y : Bool) → unlike x y ≡ unlike y x
unlike-sym true true = refl
unlike-sym true false = refl
unlike-sym false true = refl
unlike-sym false false = refl

unlike-triangle : (x y z : Bool) → unlike y z ≤ unlike x y + unlike x z
unlike-triangle true true true = omega arith
unlike-triangle true true false = omega arith
unlike-triangle true false true = omega arith
unlike-triangle true false false = omega arith
unlike-triangle false true true = omega arith
unlike-triangle false true false = omega arith
unlike-triangle false false true = omega arith
unlike-triangle false false false = omega arith

-- ---- two rows
pub apart-cong : (c d e : ℕ → Bool) (n : ℕ) → ((j : ℕ) → j < n → c j ≡ d j) → apart c e n ≡ apart d e n
apart-cong c d e zero h = refl
apart-cong c d e (suc n) h =
    ap₂ (λ x k. unlike x (e n) + k) (h n (omega arith)) (apart-cong c d e n (λ j lt. h j (omega arith)))

pub apart-sym : (c d : ℕ → Bool) (n : ℕ) → apart c d n ≡ apart d c n
apart-sym c d zero = refl
apart-sym c d (suc n) = ap₂ ◌+◌ (unlike-sym (c n) (d n)) (apart-sym c d n)

pub apart_none : (c d : ℕ → Bool) (n : ℕ) → ((j : ℕ) → j < n → c j ≡ d j) → apart c d n ≡ 0
apart_none c d zero h = refl
apart_none c d (suc n) h =
    ap₂ ◌+◌ (unlike-same (c n) (d n) (h n (omega arith))) (apart_none c d n (λ j lt. h j (omega arith)))

pub apart-self : (c : ℕ → Bool) (n : ℕ) → apart c c n ≡ 0
apart-self c n = apart_none c c n (λ j lt. refl)

-- rows at no distance are equal
pub apart-zero : (c d : ℕ → Bool) (n : ℕ) → apart c d n ≡ 0 → (j : ℕ) → j < n → c j ≡ d j
apart-zero c d zero e j lt = absurd (omega arith)
apart-zero c d (suc n) e j lt =
    elim (same_or_other (c n) (d n)) [
      | inl same ↦ elim (cases_eq j n) [
        | inl z ↦ subst (λ i. c i ≡ d i) (sym z) same
        | inr z ↦ apart-zero c d n (omega arith) j (omega arith)
      ]
      | inr other ↦ let u = unlike-other (c n) (d n) other in absurd (omega arith)
    ]

pub apart-triangle : (c d e : ℕ → Bool) (n : ℕ) → apart d e n ≤ apart c d n + apart c e n
apart-triangle c d e zero = omega arith
apart-triangle c d e (suc n) = let ih = apart-triangle c d e n in let u = unlike-triangle (c n) (d n) (e n) in omega arith

-- a row that has at each position a cell of one of two rows is no farther from the one than the other is
pub apart-between : (c x d : ℕ → Bool) (n : ℕ) → ((j : ℕ) → j < n → (x j ≡ d j) ⊎ (x j ≡ c j)) → apart x d n ≤ apart c d n
apart-between c x d zero h = omega arith
apart-between c x d (suc n) h =
    let ih = apart-between c x d n (λ j lt. h j (omega arith)) in
    elim (h n (omega arith)) [
      | inl e ↦ let u = unlike-same (x n) (d n) e in omega arith
      | inr e ↦ let u : unlike (x n) (d n) ≡ unlike (c n) (d n) = ap (λ b. unlike b (d n)) e in omega arith
    ]

-- ---- one position turned
pub record Turns (c x : ℕ → Bool) (p : ℕ) : Type 0 where
  pub here : x p ≡ not (c p)
  pub there : (j : ℕ) → j ≢ p → x j ≡ c j

pub turns_back : (c x : ℕ → Bool) (p : ℕ) → Turns c x p → Turns x c p
turns_back c x p h = record { here = twice (c p) ∙ ap not (sym h.here); there = λ j n. sym (h.there j n) }
  where
    twice : (b : Bool) → b ≡ not (not b)
    twice true = refl
    twice false = refl

-- the turn of a position that differs takes one away
pub turn_nearer : (c x d : ℕ → Bool) (p n : ℕ) → Turns c x p → p < n → c p ≢ d p → suc (apart x d n) ≡ apart c d n
turn_nearer c x d p zero h lt other = absurd (omega arith)
turn_nearer c x d p (suc n) h lt other =
    elim (cases_eq n p) [
      | inl e ↦
          let u : unlike (c n) (d n) ≡ 1 = unlike-other (c n) (d n) (subst (λ i. c i ≢ d i) (sym e) other) in
          let v : unlike (x n) (d n) ≡ 0 =
          unlike-same (x n) (d n) (subst (λ i. x i ≡ d i) (sym e) (h.here ∙ sym (other_is_not (d p) (c p) (λ q. other (sym q))))) in
          let rest = apart-cong x c d n (λ j l. h.there j (omega arith)) in
          omega arith
      | inr e ↦
          let ih = turn_nearer c x d p n h (omega arith) other in
          let u : unlike (x n) (d n) ≡ unlike (c n) (d n) = ap (λ b. unlike b (d n)) (h.there n e) in
          omega arith
    ]

-- and any other turn adds one
pub turn_farther : (c x d : ℕ → Bool) (p n : ℕ) → Turns c x p → p < n → c p ≡ d p → apart x d n ≡ suc (apart c d n)
turn_farther c x d p n h lt same =
    sym (turn_nearer x c d p n (turns_back c x p h) lt (λ e. not_differs (c p) (sym h.here ∙ e ∙ sym same)))

-- ---- lists
-- the first position taken by itself
apart-first : (c d : ℕ → Bool) (n : ℕ) → apart c d (suc n) ≡ unlike (c 0) (d 0) + apart (λ j. c (suc j)) (λ j. d (suc j)) n
apart-first c d zero = refl
apart-first c d (suc n) = let ih = apart-first c d n in omega arith

pub distance-apart : (xs ys : List Bool) → length xs ≡ length ys → distance xs ys ≡ apart (cell_of xs) (cell_of ys) (length xs)
distance-apart [] [] e = refl
distance-apart [] (y ∷ ys) e = absurd (omega arith)
distance-apart (x ∷ xs) [] e = absurd (omega arith)
distance-apart (x ∷ xs) (y ∷ ys) e =
    ap (λ k. unlike x y + k) (distance-apart xs ys (omega arith)) ∙ sym (apart-first (cell_of (x ∷ xs)) (cell_of (y ∷ ys)) (length xs))

-- the same for two rows of n cells
pub distance-of_rows : (n : ℕ) (xs ys : List Bool) → length xs ≡ n → length ys ≡ n → distance xs ys ≡ apart (cell_of xs) (cell_of ys) n
distance-of_rows n xs ys hx hy = distance-apart xs ys (hx ∙ sym hy) ∙ ap (apart (cell_of xs) (cell_of ys)) hx

pub distance-triangle : (row xs ys : List Bool) → distance xs ys ≤ distance row xs + distance row ys
distance-triangle [] [] [] = omega arith
distance-triangle [] [] (y ∷ ys) = let ih = distance-triangle [] [] ys in omega arith
distance-triangle [] (x ∷ xs) [] = let ih = distance-triangle [] xs [] in omega arith
distance-triangle [] (x ∷ xs) (y ∷ ys) = let ih = distance-triangle [] xs ys in let u = unlike-most x y in omega arith
distance-triangle (a ∷ row) [] [] = omega arith
distance-triangle (a ∷ row) [] (y ∷ ys) = let ih = distance-triangle row [] ys in omega arith
distance-triangle (a ∷ row) (x ∷ xs) [] = let ih = distance-triangle row xs [] in omega arith
distance-triangle (a ∷ row) (x ∷ xs) (y ∷ ys) = let ih = distance-triangle row xs ys in let u = unlike-triangle a x y in omega arith
