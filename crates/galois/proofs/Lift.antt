-- The elements of a lawful field as a field of characteristic 2 in the sense of Ring, with alpha and its powers there.
use Rattle.std.proofs.Common.{◌≡◌, ℕ, zero, suc, ◌-◌, ◌<◌, ◌≤◌, Bool, T, eqb, ◌⊎◌, [], ◌∷◌, sym, refl, ap, ◌∙◌, subst, inl, inr, arith, eqb→eq, pow_pos}
use mathlib.Core.HLevel.{Σ_prop_path}
use native.Mathlib.Bridge.{le_prop}
use Rattle.std.proofs.lemmas.Bool.{cases_eq}
use Rattle.galois.specs.Model.{FieldModel, FieldLaws, size, units, power}
use Rattle.galois.specs.Ring.{Ops, Ring2, Field2, pow}
use Rattle.galois.proofs.Solve.{var, ◌⊗◌, solve, mul_zero, one_mul}
use Rattle.galois.proofs.Laws.{one_lt, power-lt, power-back}

module _ (F : FieldModel) where
  -- an element: a number with the proof that it is below 2 ^ m
  abbrev pub Element : Type 0
  Element = (x : ℕ) × (x < size F)

  pub same : (x y : Element) → x.0 ≡ y.0 → x ≡ y
  same x y p = Σ_prop_path (λ (k : ℕ). le_prop {n = suc k} {m = size F}) {u = x} {v = y} p

module _ (F : FieldModel) (l : FieldLaws F) where
  abbrev pub ops : Ops (Element F)
  ops = record {
    o = (0, pow_pos F.m);
    e = (1, one_lt F l);
    add = λ x y. (F.add x.0 y.0, l.ring.add_lt x.0 y.0 x.1 y.1);
    mul = λ x y. (F.mul x.0 y.0, l.ring.mul_lt x.0 y.0 x.1 y.1);
  }

  pub ring2 : Ring2 ops
  ring2 = record {
    add_comm = λ a b. same F _ _ (l.ring.add_comm a.0 b.0 a.1 b.1);
    add_assoc = λ a b c. same F _ _ (l.ring.add_assoc a.0 b.0 c.0 a.1 b.1 c.1);
    add_zero = λ a. same F _ _ (l.ring.add_zero a.0 a.1);
    add_self = λ a. same F _ _ (l.ring.add_self a.0 a.1);
    mul_comm = λ a b. same F _ _ (l.ring.mul_comm a.0 b.0 a.1 b.1);
    mul_assoc = λ a b c. same F _ _ (l.ring.mul_assoc a.0 b.0 c.0 a.1 b.1 c.1);
    mul_one = λ a. same F _ _ (l.ring.mul_one a.0 a.1);
    distrib = λ a b c. same F _ _ (l.ring.mul_add a.0 b.0 c.0 a.1 b.1 c.1);
  }

  -- an equation of elements, at their numbers
  pub number : {x y : Element F} → x ≡ y → x.0 ≡ y.0
  number p = ap (λ (x : Element F). x.0) p

  abbrev pub is0 : Element F → Bool
  is0 x = eqb x.0 0

  pub no_divisors : (a b : Element F) → ops.mul a b ≡ ops.o → (a ≡ ops.o) ⊎ (b ≡ ops.o)
  no_divisors a b h = elim (cases_eq a.0 0) [ inl z ↦ inl (same F a ops.o z) | inr nz ↦ inr (other nz) ]
    where
      other : (a.0 ≡ 0 → ⊥) → b ≡ ops.o
      other nz =
          let pos : 0 < a.0 = omega arith in
          let s = l.powers.some a.0 pos a.1 in
          let lt : s.0 ≤ units F = let h = s.1 in omega arith in
          let i : Element F = (power F (units F - s.0), power-lt F l (units F - s.0)) in
          let p : ops.mul a i ≡ ops.e = same F (ops.mul a i) ops.e (ap (λ z. F.mul z i.0) (sym s.2) ∙ power-back F l s.0 lt) in
          sym (one_mul ring2 b) ∙ ap (λ x. ops.mul x b) (sym p)
          ∙ solve ring2 (a ∷ i ∷ b ∷ []) (var 0 ⊗ var 1 ⊗ var 2) (var 1 ⊗ (var 0 ⊗ var 2)) tt
          ∙ ap (ops.mul i) h ∙ mul_zero ring2 i

  pub field2 : Field2 ops is0
  field2 = record {
    ring = ring2;
    no_divisors = no_divisors;
    one_is_not_zero = λ p. let z : ◌≡◌ {A = ℕ} 1 0 = number p in omega arith;
    zero_passes = refl;
    passes_zero = λ a h. same F a ops.o (eqb→eq a.0 0 (subst T (sym h) tt));
  }

  abbrev pub alpha : Element F
  alpha = (F.alpha, l.powers.alpha_lt)

  pub pow-power : (p : ℕ) → (pow ops alpha p).0 ≡ power F p
  unfolding power
  pow-power zero = refl
  pow-power (suc p) = ap (F.mul F.alpha) (pow-power p)

  pub turn : pow ops alpha (units F) ≡ ops.e
  turn = same F (pow ops alpha (units F)) ops.e (pow-power (units F) ∙ l.powers.turn)

  pub once : (p q : ℕ) → p < units F → q < units F → pow ops alpha p ≡ pow ops alpha q → p ≡ q
  once p q hp hq e = l.powers.once p q hp hq (sym (pow-power p) ∙ number e ∙ pow-power q)
