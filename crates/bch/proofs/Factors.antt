-- The turns of the loops that make the generator: the walk over the cosets, its powers, and one factor more.
use Rattle.std.proofs.Common.{◌≡◌, ℕ, zero, suc, ◌+◌, ◌*◌, ◌%◌, ◌<◌, true, false, cond, eqb, ◌≢◌, List, ◌∷◌, length, get_or, set, replicate, sym, refl, ap, ◌∙◌, subst, ap₂, mod-eq_of_lt, add-one, arith, get_or-set_other, get_or-set_same, below_more}
use lib.ListN.{get_or-replicate}
use Rattle.galois.specs.Ring.{numbers}
use Rattle.std.proofs.lemmas.Bool.{eq-eqb, ne_eqb}
use Rattle.galois.specs.Cosets.{At, walk}
use Rattle.galois.specs.Model.{FieldModel, FieldLaws, size, units, power, sum_of, product-of}
use Rattle.galois.specs.Polynomials.{before, factor, generated}
use Rattle.galois.specs.Rows.{Few, check_cells}
use Rattle.galois.proofs.Generators.{pow-double}
use Rattle.galois.proofs.Laws.{power-lt, power-add}
use Rattle.galois.proofs.Lift.{ops, field2, number, alpha, turn, once, pow-power}
use Rattle.bch.specs.Steps.{coefficient}
use Rattle.bch.proofs.Cells.{root_at, generated-number}
use Rattle.bch.proofs.CodeRows.{is_fine}
use Rattle.bch.proofs.Counts.{units_lt}

module _ (F : FieldModel) (l : FieldLaws F) where
  -- the square of alpha ^ h, and alpha ^ 2 times alpha ^ h
  pub power-twice : (h b r n : ℕ) → n ≡ units F → b ≡ power F h → r ≡ product-of F b b → r ≡ power F ((2 * h) % n)
  power-twice h b r n en eb er =
      let small : b < size F = subst (λ z. z < size F) (sym eb) (power-lt F l h) in
      let z : h + h ≡ 2 * h = omega arith in
      er ∙ ap (λ y. F.mul y y) (mod-eq_of_lt small ∙ eb ∙ sym (pow-power F l h))
      ∙ number F l (sym (pow-double (field2 F l) (alpha F l) (units F) (turn F l) (once F l) h))
      ∙ pow-power F l ((h + h) % units F) ∙ ap₂ (λ y k. power F (y % k)) z (sym en)

  pub power-two-more : (h b s r : ℕ) → b ≡ power F h → s ≡ product-of F F.alpha F.alpha → r ≡ product-of F s b → r ≡ power F (h + 2)
  unfolding power
  power-two-more h b s r eb es er =
      let small : b < size F = subst (λ z. z < size F) (sym eb) (power-lt F l h) in
      let a = l.powers.alpha_lt in
      let two : s ≡ power F 2 = es ∙ ap₂ F.mul (mod-eq_of_lt a) (mod-eq_of_lt a ∙ sym (l.ring.mul_one F.alpha a)) in
      let less : s < size F = subst (λ z. z < size F) (sym two) (power-lt F l 2) in
      let z : 2 + h ≡ h + 2 = omega arith in
      er ∙ ap₂ F.mul (mod-eq_of_lt less ∙ two) (mod-eq_of_lt small ∙ eb) ∙ sym (power-add F l 2 h) ∙ ap (power F) z

  pub power-once : (r : ℕ) → r ≡ F.alpha → r ≡ power F 1
  unfolding power
  power-once r e = e ∙ sym (l.ring.mul_one F.alpha l.powers.alpha_lt)

  pub factor-next : (a : ℕ) (g product : List ℕ) (i below s p : ℕ) → i < 25 → ((j : ℕ) → j < 25 → get_or g j 0 < size F) → a < size F
      → length product ≡ 25 → below ≡ before (numbers F) (λ j. get_or g j 0) i → below < size F
      → p ≡ product-of F a (get_or g i 0) → s ≡ sum_of F below p
      → ((k : ℕ) → k < i → get_or product k 0 ≡ factor (numbers F) a (λ j. get_or g j 0) k)
      → (k : ℕ) → k < i + 1 → get_or (set product i s) k 0 ≡ factor (numbers F) a (λ j. get_or g j 0) k
  factor-next a g product i below s p hi hg ha len eb hb ep es h =
      below_more (λ k. get_or (set product i s) k 0 ≡ factor (numbers F) a (λ j. get_or g j 0) k) i
      (λ k lt. let ne : k ≢ i = omega arith in rw get_or-set_other (h k lt))
      (let lt : i < length product = omega arith in
      let ep' : p ≡ F.mul a (get_or g i 0) = ep ∙ ap₂ F.mul (mod-eq_of_lt ha) (mod-eq_of_lt (hg i hi)) in
      let hp : p < size F = subst (λ z. z < size F) (sym ep') (l.ring.mul_lt a (get_or g i 0) ha (hg i hi)) in
      rw get_or-set_same (es ∙ ap₂ F.add (mod-eq_of_lt hb ∙ eb) (mod-eq_of_lt hp ∙ ep')))

  pub coefficient-lt : (d i : ℕ) → coefficient F d i < size F
  coefficient-lt d i =
      subst (λ z. z < size F) (generated-number F l d i) (generated (ops F l) (root_at F l) d i).1

-- a turn of the walk over the exponents
pub walk-wraps : (n d : ℕ) → (2 * (walk n d).here) % n ≡ (walk n d).first
    → ((walk n d).first + 2 ≡ (walk n (d + 1)).first) × ((walk n d).first + 2 ≡ (walk n (d + 1)).here)
unfolding walk
walk-wraps n d e =
    let z : 2 * (walk n d).here ≡ (walk n d).here + (walk n d).here = omega arith in
    let b : eqb (((walk n d).here + (walk n d).here) % n) (walk n d).first ≡ true = eq-eqb _ _ (ap (λ y. y % n) (sym z) ∙ e) in
    let up : At = record { first = (walk n d).first + 2; here = (walk n d).first + 2 } in
    let down : At = record { first = (walk n d).first; here = ((walk n d).here + (walk n d).here) % n } in
    let w : walk n (d + 1) ≡ up = ap (walk n) (add-one d) ∙ ap (λ v. cond v up down) b in
    (ap (λ (a : At). a.first) (sym w), ap (λ (a : At). a.here) (sym w))

pub walk-goes : (n d : ℕ) → ((2 * (walk n d).here) % n ≡ (walk n d).first → ⊥)
    → ((walk n d).first ≡ (walk n (d + 1)).first) × ((2 * (walk n d).here) % n ≡ (walk n (d + 1)).here)
unfolding walk
walk-goes n d ne =
    let z : 2 * (walk n d).here ≡ (walk n d).here + (walk n d).here = omega arith in
    let b : eqb (((walk n d).here + (walk n d).here) % n) (walk n d).first ≡ false = ne_eqb _ _ (λ e. ne (ap (λ y. y % n) z ∙ e)) in
    let up : At = record { first = (walk n d).first + 2; here = (walk n d).first + 2 } in
    let down : At = record { first = (walk n d).first; here = ((walk n d).here + (walk n d).here) % n } in
    let w : walk n (d + 1) ≡ down = ap (walk n) (add-one d) ∙ ap (λ v. cond v up down) b in
    (ap (λ (a : At). a.first) (sym w), ap (λ y. y % n) z ∙ ap (λ (a : At). a.here) (sym w))

-- the facts of the code's figures
module _ (F : FieldModel) (l : FieldLaws F) where
  pub here_byte : (t d r here : ℕ) (few : Few t) → r ≡ check_cells F.m t → d < r → here ≡ (walk (units F) d).here → here < 256
  here_byte t d r here few er lt e =
      let h : here < units F = subst (λ z. z < units F) (sym e) ((is_fine F l t few).below d (subst (λ z. d < z) er lt)) in
      let u = units_lt F l in omega arith

  pub first-lt : (t d r first : ℕ) (few : Few t) → r ≡ check_cells F.m t → d < r → first ≡ (walk (units F) d).first → first < 6
  first-lt t d r first few er lt e =
      let h = (is_fine F l t few).within d (subst (λ z. d < z) er lt) in
      let k = few.1 in omega arith

  pub no-factors : (i : ℕ) → i < 25 → get_or (1 ∷ replicate 24 0) i 0 ≡ coefficient F 0 i
  unfolding generated
  no-factors zero h = refl
  no-factors (suc i) h = get_or-replicate 24 i 0 0 (omega arith)

  pub more-factors : (d p : ℕ) (from to : List ℕ) → p ≡ power F (walk (units F) d).here
      → ((i : ℕ) → i < 25 → get_or from i 0 ≡ coefficient F d i)
      → ((i : ℕ) → i < 25 → get_or to i 0 ≡ factor (numbers F) p (λ j. get_or from j 0) i)
      → (i : ℕ) → i < 25 → get_or to i 0 ≡ coefficient F (d + 1) i
  unfolding generated
  more-factors d p from to ep hf ht zero h =
      ht zero h ∙ ap₂ (λ y z. F.add 0 (F.mul y z)) ep (hf zero h) ∙ ap (λ n. coefficient F n 0) (sym (add-one d))
  more-factors d p from to ep hf ht (suc i) h =
      ht (suc i) h ∙ ap₂ F.add (hf i (omega arith)) (ap₂ F.mul ep (hf (suc i) h)) ∙ ap (λ n. coefficient F n (suc i)) (sym (add-one d))
