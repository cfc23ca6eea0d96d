-- What holds in every lawful field, at numbers.
use Rattle.std.proofs.Common.{◌≡◌, ℕ, ◌-◌, ◌<◌, [], ◌∷◌, sym, refl, ap, ◌∙◌, inl, inr, ⊎_elim, arith}
use Rattle.std.proofs.lemmas.Bool.{cases_eq}
use Rattle.galois.specs.Model.{FieldModel, FieldLaws, IsInverse, IsExponent, size, units, power}
use Rattle.galois.specs.Consequences.{Consequences}
use Rattle.galois.proofs.Solve.{var, ◌⊕◌, ◌⊗◌, solve}
use Rattle.galois.proofs.Laws.{power-lt, power-add, inverse_of, inverse_zero}
use Rattle.galois.proofs.Lift.{Element, same, ring2, number, no_divisors}

module _ (F : FieldModel) (l : FieldLaws F) where
  exponent : (a : ℕ) → a < size F → (p : ℕ) × IsExponent F a p
  exponent a h = elim (cases_eq a 0) [
    | inl z ↦ (units F, record { at_zero = λ _. refl; at_unit = λ pos. absurd (omega arith) })
    | inr nz ↦ let pos : 0 < a = omega arith in let s = l.powers.some a pos h in
        (s.0, record { at_zero = λ z. absurd (nz z); at_unit = λ _. (s.1, s.2) })
  ]

  inverse : (a : ℕ) → a < size F → (r : ℕ) × IsInverse F a r
  inverse a h = elim (cases_eq a 0) [
    | inl z ↦ (0, inverse_zero F l a z)
    | inr nz ↦ let e = exponent a h in (power F (units F - e.0), inverse_of F l a e.0 e.1 (omega arith))
  ]

  -- r = r * (a * s) = (a * r) * s = s
  one_inverse : (a r s : ℕ) → a < size F → IsInverse F a r → IsInverse F a s → r ≡ s
  one_inverse a r s h i j = elim (cases_eq a 0) [ inl z ↦ i.at_zero z ∙ sym (j.at_zero z) | inr nz ↦ units-agree (omega arith) ]
    where
      units-agree : 0 < a → r ≡ s
      units-agree pos =
          let x : Element F = (a, h) in
          let y : Element F = (r, i.below) in
          let z : Element F = (s, j.below) in
          sym (l.ring.mul_one r i.below) ∙ ap (F.mul r) (sym (j.at_unit pos))
          ∙ number F l (solve (ring2 F l) (x ∷ y ∷ z ∷ []) (var 1 ⊗ (var 0 ⊗ var 2)) (var 2 ⊗ (var 0 ⊗ var 1)) tt)
          ∙ ap (F.mul s) (i.at_unit pos) ∙ l.ring.mul_one s j.below

  one_exponent : (a p q : ℕ) → IsExponent F a p → IsExponent F a q → p ≡ q
  one_exponent a p q i j = elim (cases_eq a 0) [
    | inl z ↦ i.at_zero z ∙ sym (j.at_zero z)
    | inr nz ↦ let pos : 0 < a = omega arith in
        l.powers.once p q (i.at_unit pos).0 (j.at_unit pos).0 ((i.at_unit pos).1 ∙ sym (j.at_unit pos).1)
  ]

  pub consequences : Consequences F
  consequences = record {
    no_divisors = λ a b ha hb e.
        ⊎_elim (λ p. inl (number F l p)) (λ p. inr (number F l p)) (no_divisors F l (a, ha) (b, hb) (same F _ _ e));
    square_of_sum = λ a b ha hb.
        let x : Element F = (a, ha) in let y : Element F = (b, hb) in
        number F l (solve (ring2 F l) (x ∷ y ∷ []) ((var 0 ⊕ var 1) ⊗ (var 0 ⊕ var 1)) (var 0 ⊗ var 0 ⊕ var 1 ⊗ var 1) tt);
    power_of_sum = power-add F l;
    power_comes_round = λ p. power-add F l p (units F) ∙ ap (F.mul (power F p)) l.powers.turn ∙ l.ring.mul_one (power F p) (power-lt F l p);
    has_inverse = inverse;
    one_inverse = one_inverse;
    has_exponent = exponent;
    one_exponent = one_exponent;
  }
