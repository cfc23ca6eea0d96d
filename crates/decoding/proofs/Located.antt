-- The roots of the locator are the positions at which a row differs from the code row near it.
use Rattle.std.proofs.Common.{◌≡◌, ℕ, zero, suc, ◌+◌, ◌<◌, ◌≤◌, Bool, ◌≢◌, List, length, sym, refl, ap, ◌∙◌, subst, ap₂, arith}
use Rattle.galois.specs.Model.{FieldModel, FieldLaws, size, units, power}
use Rattle.galois.specs.Sums.{S}
use Rattle.galois.specs.Rows.{power_sum, cell_of, Few}
use Rattle.galois.proofs.Lift.{Element, same, ops, field2, number, once, pow-power}
use Rattle.galois.proofs.Distances.{apart, distance-of_rows}
use Rattle.galois.proofs.Differ.{differ, length-differ, all_differ, any_differ, any_elim, X, X_not_zero, all_units, distinct}
use Rattle.galois.proofs.Least.{code-sums}
use Rattle.galois.specs.Ring.{numbers}
use Rattle.decoding.specs.Locators.{cubic, Locates, LocatorRoots}
use Rattle.decoding.proofs.Within.{Within, cells_within}
use Rattle.decoding.proofs.Products.{locator_root, root_locator}

module _ (F : FieldModel) (l : FieldLaws F) where
  -- the locator looks at the first t of the sums alone
  locates-cong : (t : ℕ) (s r : ℕ → ℕ) (a b : ℕ) → Few t → ((i : ℕ) → i < t → s (suc (i + i)) ≡ r (suc (i + i)))
      → Locates (numbers F) t (s 1) (s 3) (s 5) a b → Locates (numbers F) t (r 1) (r 3) (r 5) a b
  locates-cong zero s r a b few h w = absurd (omega arith)
  locates-cong (suc zero) s r a b few h w = w
  locates-cong (suc (suc zero)) s r a b few h w =
      subst (λ x. Locates (numbers F) 2 (r 1) x 0 a b) (h 1 (omega arith)) (subst (λ x. Locates (numbers F) 2 x (s 3) 0 a b) (h 0 (omega arith)) w)
  locates-cong (suc (suc (suc t))) s r a b few h w =
      subst (λ x. Locates (numbers F) 3 (r 1) (r 3) x a b) (h 2 (omega arith))
      (subst (λ x. Locates (numbers F) 3 (r 1) x (s 5) a b) (h 1 (omega arith))
      (subst (λ x. Locates (numbers F) 3 x (s 3) (s 5) a b) (h 0 (omega arith)) w))

  -- from numbers to elements
  locates_up : (t : ℕ) (x y z a b : Element F) → Locates (numbers F) t x.0 y.0 z.0 a.0 b.0 → Locates (ops F l) t x y z a b
  locates_up zero x y z a b h = tt
  locates_up (suc zero) x y z a b h = (same F a _ h.0, same F b _ h.1)
  locates_up (suc (suc zero)) x y z a b h = (λ n. same F _ _ (h.0 (λ q. n (same F x _ q))), same F b _ h.1)
  locates_up (suc (suc (suc t))) x y z a b h = (
    λ q. let w = h.0 (number F l q) in (same F a _ w.0, same F b _ w.1),
    λ n. let w = h.1 (λ q. n (same F _ _ q)) in (same F _ _ w.0, same F b _ w.1),
  )

  module _ (t : ℕ) (few : Few t) (c d : ℕ → Bool) (W : Within F t c d) (some : 1 ≤ apart c d (units F)) (r2 r3 : ℕ) (lt2 : r2 < size F)
      (lt3 : r3 < size F)
      (h : Locates (numbers F) t (power_sum F 1 c (units F)) (power_sum F 3 c (units F)) (power_sum F 5 c (units F)) r2 r3) where
    abbrev ps : List ℕ
    ps = differ c d (units F)

    abbrev sum : ℕ → Element F
    sum i = S (ops F l) (X F l) i ps

    sums : (i : ℕ) → i < t → (sum (suc (i + i))).0 ≡ power_sum F (suc (i + i)) c (units F)
    sums = code-sums F l t c d W.code

    lifted : Locates (ops F l) t (sum 1) (sum 3) (sum 5) (r2, lt2) (r3, lt3)
    lifted =
        locates_up t (sum 1) (sum 3) (sum 5) (r2, lt2) (r3, lt3)
        (locates-cong t (λ i. power_sum F i c (units F)) (λ i. (sum i).0) r2 r3 few (λ i u. sym (sums i u)) h)

    at_least : 1 ≤ length ps
    at_least = let long = length-differ c d (units F) in omega arith

    at_most : length ps ≤ t
    at_most = let long = length-differ c d (units F) in let close = W.close in omega arith

    -- the value of the locator, at numbers and at elements
    value-is : (p : ℕ) → (cubic (ops F l) (sum 1) (r2, lt2) (r3, lt3) (X F l p)).0 ≡ cubic (numbers F) (power_sum F 1 c (units F)) r2 r3 (power F p)
    value-is p = ap₂ (λ x y. cubic (numbers F) x r2 r3 y) (sums 0 few.0) (pow-power F l p)

    pub root_differs : (p : ℕ) → p < units F → cubic (numbers F) (power_sum F 1 c (units F)) r2 r3 (power F p) ≡ 0 → c p ≢ d p
    root_differs p lt z =
        any_elim (λ a. X F l p ≡ X F l a) (c p ≢ d p) ps
        (all_differ (λ a. X F l p ≡ X F l a → c p ≢ d p) c d (units F)
        (λ a u other e. subst (λ q. c q ≢ d q) (sym (once F l p a lt u e)) other))
        (locator_root (field2 F l) (X F l) t ps (r2, lt2) (r3, lt3) (X F l p) few at_least at_most (distinct F l c d (units F) (omega arith))
        (all_units F l c d) lifted (X_not_zero F l p lt) (same F _ _ (value-is p ∙ z)))

    pub differs_root : (p : ℕ) → p < units F → c p ≢ d p → cubic (numbers F) (power_sum F 1 c (units F)) r2 r3 (power F p) ≡ 0
    differs_root p lt other =
        sym (value-is p)
        ∙ number F l
        (root_locator (field2 F l) (X F l) t ps (r2, lt2) (r3, lt3) (X F l p) few at_least at_most (distinct F l c d (units F) (omega arith))
        (all_units F l c d) lifted (any_differ (λ a. X F l p ≡ X F l a) c d (units F) p lt other refl))

pub locator_roots : (F : FieldModel) → FieldLaws F → (t : ℕ) → Few t → LocatorRoots F t
locator_roots F l t few row c long N some r2 r3 lt2 lt3 h p lt =
    let W = cells_within F t row c long N in
    let far = distance-of_rows (units F) row c long N.code.cells in
    let all : Locates (numbers F) t (power_sum F 1 (cell_of row) (units F)) (power_sum F 3 (cell_of row) (units F)) (power_sum F 5 (cell_of row) (units F)) r2 r3 =
    subst (λ n. Locates (numbers F) t (power_sum F 1 (cell_of row) n) (power_sum F 3 (cell_of row) n) (power_sum F 5 (cell_of row) n) r2 r3) long h in
    let value : cubic (numbers F) (power_sum F 1 (cell_of row) (length row)) r2 r3 (power F p) ≡ cubic (numbers F) (power_sum F 1 (cell_of row) (units F)) r2 r3 (power F p) =
    ap (λ n. cubic (numbers F) (power_sum F 1 (cell_of row) n) r2 r3 (power F p)) long in (
      λ z. root_differs F l t few (cell_of row) (cell_of c) W (omega arith) r2 r3 lt2 lt3 all p lt (sym value ∙ z),
      λ other. value ∙ differs_root F l t few (cell_of row) (cell_of c) W (omega arith) r2 r3 lt2 lt3 all p lt other,
    )
