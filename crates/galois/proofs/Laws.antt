-- What the laws give at once, at numbers: bounds, powers and inverses.
use Rattle.std.proofs.Common.{◌≡◌, ℕ, zero, suc, ◌+◌, ◌-◌, ◌^◌, ◌<◌, ◌≤◌, sym, refl, ap, ◌∙◌, mod-lt, suc-add, zero-add, arith, pow_pos, pow_mono}
use Rattle.galois.specs.Model.{FieldModel, FieldLaws, IsInverse, IsExponent, power, size, units, elem}

module _ (F : FieldModel) (laws : FieldLaws F) where
  pub elem-lt : (a : ℕ) → elem F a < size F
  elem-lt a = mod-lt a (pow_pos F.m)

  pub one_lt : 1 < size F
  one_lt = let low = laws.low in let h : 2 ^ 4 ≤ size F = pow_mono low in omega arith

  zero_lt : 0 < size F
  zero_lt = pow_pos F.m

  pub mul_zero : (a : ℕ) → a < size F → F.mul a 0 ≡ 0
  mul_zero a h =
      let r = laws.ring in
      let z = r.mul_lt a 0 h zero_lt in
      let twice : F.mul a 0 ≡ F.add (F.mul a 0) (F.mul a 0) =
      ap (F.mul a) (sym (r.add_zero 0 zero_lt)) ∙ r.mul_add a 0 0 h zero_lt zero_lt in
      twice ∙ r.add_self (F.mul a 0) z

  pub zero_mul : (a : ℕ) → a < size F → F.mul 0 a ≡ 0
  zero_mul a h = laws.ring.mul_comm 0 a zero_lt h ∙ mul_zero a h

  pub power-lt : (p : ℕ) → power F p < size F
  unfolding power
  power-lt zero = one_lt
  power-lt (suc p) = laws.ring.mul_lt F.alpha (power F p) laws.powers.alpha_lt (power-lt p)

  pub one_mul : (a : ℕ) → a < size F → F.mul 1 a ≡ a
  one_mul a h = laws.ring.mul_comm 1 a one_lt h ∙ laws.ring.mul_one a h

  pub power-add : (p q : ℕ) → power F (p + q) ≡ F.mul (power F p) (power F q)
  unfolding power
  power-add zero q = ap (power F) (zero-add q) ∙ sym (one_mul (power F q) (power-lt q))
  power-add (suc p) q =
      ap (power F) (suc-add p q) ∙ ap (F.mul F.alpha) (power-add p q)
      ∙ sym (laws.ring.mul_assoc F.alpha (power F p) (power F q) laws.powers.alpha_lt (power-lt p) (power-lt q))

  -- the power that makes one of it
  pub power-back : (p : ℕ) → p ≤ units F → F.mul (power F p) (power F (units F - p)) ≡ 1
  power-back p h =
      let e : p + (units F - p) ≡ units F = omega arith in
      sym (power-add p (units F - p)) ∙ ap (power F) e ∙ laws.powers.turn

  pub power-unit : (p : ℕ) → p ≤ units F → power F p ≡ 0 → ⊥
  power-unit p h e =
      let back : power F (units F - p) < size F = power-lt (units F - p) in
      let z : ◌≡◌ {A = ℕ} 0 1 =
      sym (zero_mul (power F (units F - p)) back)
      ∙ ap (λ x. F.mul x (power F (units F - p))) (sym e) ∙ power-back p h in
      omega arith

  pub inverse_of : (a e : ℕ) → IsExponent F a e → 0 < a → IsInverse F a (power F (units F - e))
  inverse_of a e x pos =
      let at = x.at_unit pos in
      record {
        at_zero = λ z. absurd (omega arith);
        below = power-lt (units F - e);
        at_unit = λ _. ap (λ y. F.mul y (power F (units F - e))) (sym at.1) ∙ power-back e (let h = at.0 in omega arith);
      }

  pub inverse_zero : (a : ℕ) → a ≡ 0 → IsInverse F a 0
  inverse_zero a z = record { at_zero = λ _. refl; below = zero_lt; at_unit = λ pos. absurd (omega arith) }
