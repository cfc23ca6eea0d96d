-- The powers of x in the house fields run through every element but zero, once: by one computed test for each degree.
use Rattle.std.proofs.Common.{◌≡◌, ℕ, zero, suc, ◌+◌, ◌-◌, ◌^◌, ◌<◌, ◌≤◌, Bool, true, false, cond, not, T, eqb, ltb, sym, refl, ap, ◌∙◌, subst, inl, inr, suc-add, zero-add, arith, lit<, ltb→lt, T_not}
use lib.Bits.{bit_xor, xor_zero_r}
use Rattle.std.proofs.lemmas.Bool.{cases_eq, cases_order, eq-eqb, eqb-true}
use Rattle.galois.specs.House.{Fit, shift, product, house}
use Rattle.galois.specs.Model.{PowerLaws, power}
use Rattle.galois.proofs.HouseRing.{each}

-- k shifts
pub run : ℕ → ℕ → ℕ → ℕ
run m zero y = y
run m (suc k) y = shift m (run m k y)

run-add : (m a b y : ℕ) → run m (a + b) y ≡ run m a (run m b y)
unfolding run
run-add m zero b y = ap (λ k. run m k y) (zero-add b)
run-add m (suc a) b y = ap (λ k. run m k y) (suc-add a b) ∙ ap (shift m) (run-add m a b y)

product-none : (m k x : ℕ) → product m k 0 x ≡ 0
unfolding product
product-none m zero x = refl
product-none m (suc k) x = product-none m k (shift m x)

product-two : (m k x : ℕ) → product m (suc (suc k)) 2 x ≡ shift m x
unfolding product
product-two m k x = ap (bit_xor (shift m x)) (product-none m k (shift m (shift m x))) ∙ xor_zero_r (shift m x)

pub times-two : (m : ℕ) → Fit m → (x : ℕ) → product m m 2 x ≡ shift m x
times-two m fit x =
    let lo : 4 ≤ m = fit.0 in
    let e : suc (suc (m - 2)) ≡ m = omega arith in
    subst (λ k. product m k 2 x ≡ shift m x) e (product-two m (m - 2) x)

pub power-run : (m : ℕ) → Fit m → (p : ℕ) → power (house m) p ≡ run m p 1
unfolding power run
power-run m fit zero = refl
power-run m fit (suc p) = times-two m fit (power (house m) p) ∙ ap (shift m) (power-run m fit p)

-- ---- the tests

both : Bool → Bool → Bool
both true b = b
both false b = false

both_left : (a b : Bool) → T (both a b) → T a
unfolding both
both_left true b t = tt
both_left false b t = t

both_right : (a b : Bool) → T (both a b) → T b
unfolding both
both_right true b t = t
both_right false b t = absurd t

-- the first of the k exponents from p on whose power is x; y is the power at p
seek : ℕ → ℕ → ℕ → ℕ → ℕ → ℕ
seek m zero p y x = p
seek m (suc k) p y x = let r = seek m k (suc p) (shift m y) x in cond (eqb y x) p r

-- each of the numbers 1 .. k is a power
reached : ℕ → ℕ → ℕ → Bool
reached m n zero = true
reached m n (suc k) = let r = reached m n k in both (ltb (seek m n 0 1 (suc k)) n) r

-- none of k powers from y on is 1
away : ℕ → ℕ → ℕ → Bool
away m zero y = true
away m (suc k) y = let r = away m k (shift m y) in both (not (eqb y 1)) r

record Tested (m : ℕ) : Type 0 where
  turned : run m (2 ^ m - 1) 1 ≡ 1
  all : T (reached m (2 ^ m - 1) (2 ^ m - 1))
  new : T (away m (2 ^ m - 2) (shift m 1))

tested4 : Tested 4
unfolding run shift reached seek away both
tested4 = record { turned = refl; all = tt; new = tt }

tested5 : Tested 5
unfolding run shift reached seek away both
tested5 = record { turned = refl; all = tt; new = tt }

tested6 : Tested 6
unfolding run shift reached seek away both
tested6 = record { turned = refl; all = tt; new = tt }

tested7 : Tested 7
unfolding run shift reached seek away both
tested7 = record { turned = refl; all = tt; new = tt }

tested8 : Tested 8
unfolding run shift reached seek away both
tested8 = record { turned = refl; all = tt; new = tt }

tested : (m : ℕ) → Fit m → Tested m
tested = each Tested tested4 tested5 tested6 tested7 tested8

seek_power : (m k p y x : ℕ) → y ≡ run m p 1 → seek m k p y x < p + k → run m (seek m k p y x) 1 ≡ x
unfolding seek run
seek_power m zero p y x ey h = absurd (omega arith)
seek_power m (suc k) p y x ey h =
    go (eqb y x) refl h (seek_power m k (suc p) (shift m y) x (ap (shift m) ey))
  where
    r : ℕ
    r = seek m k (suc p) (shift m y) x

    go : (b : Bool) → eqb y x ≡ b → cond b p r < p + suc k → (r < suc p + k → run m r 1 ≡ x) → run m (cond b p r) 1 ≡ x
    go true e h' ih = sym ey ∙ eqb-true y x e
    go false e h' ih = ih (omega arith)

reached_at : (m n k : ℕ) → T (reached m n k) → (x : ℕ) → 0 < x → x ≤ k → seek m n 0 1 x < n
unfolding reached
reached_at m n zero t x pos h = absurd (omega arith)
reached_at m n (suc k) t x pos h =
    elim (cases_eq x (suc k)) [
      | inl e ↦ subst (λ z. seek m n 0 1 z < n) (sym e) (ltb→lt (seek m n 0 1 (suc k)) n (both_left (ltb (seek m n 0 1 (suc k)) n) (reached m n k) t))
      | inr ne ↦ reached_at m n k (both_right (ltb (seek m n 0 1 (suc k)) n) (reached m n k) t) x pos (omega arith)
    ]

away_at : (m k p : ℕ) → T (away m k (run m p 1)) → (d : ℕ) → p ≤ d → d < p + k → run m d 1 ≡ 1 → ⊥
unfolding away run
away_at m zero p t d lo hi e = omega arith
away_at m (suc k) p t d lo hi e =
    let y = run m p 1 in
    elim (cases_eq d p) [
      | inl same ↦ T_not (eqb y 1) (both_left (not (eqb y 1)) (away m k (shift m y)) t)
          (subst T (sym (eq-eqb y 1 (ap (λ z. run m z 1) (sym same) ∙ e))) tt)
      | inr ne ↦ away_at m k (suc p) (both_right (not (eqb y 1)) (away m k (shift m y)) t) d (omega arith) (omega arith) e
    ]

clash : (m : ℕ) → Tested m → (p q : ℕ) → p < q → q < 2 ^ m - 1 → run m p 1 ≡ run m q 1 → ⊥
unfolding run
clash m t p q lt hq e =
    let n : ℕ = 2 ^ m - 1 in
    let moved : (q - p) + n ≡ (n - p) + q = omega arith in
    let whole : (n - p) + p ≡ n = omega arith in
    let back : run m (q - p) 1 ≡ 1 =
    ap (run m (q - p)) (sym t.turned) ∙ sym (run-add m (q - p) n 1) ∙ ap (λ z. run m z 1) moved
    ∙ run-add m (n - p) q 1 ∙ ap (run m (n - p)) (sym e) ∙ sym (run-add m (n - p) p 1) ∙ ap (λ z. run m z 1) whole ∙ t.turned in
    away_at m (2 ^ m - 2) 1 t.new (q - p) (omega arith) (omega arith) back

power-laws_at : (m : ℕ) → Fit m → Tested m → PowerLaws (house m)
power-laws_at m fit t = record {
  alpha_lt = each (λ k. 2 < 2 ^ k) (lit< tt) (lit< tt) (lit< tt) (lit< tt) (lit< tt) m fit;
  turn = power-run m fit (2 ^ m - 1) ∙ t.turned;
  some = λ a pos lt.
      let s : ℕ = seek m (2 ^ m - 1) 0 1 a in
      let h : s < 2 ^ m - 1 = reached_at m (2 ^ m - 1) (2 ^ m - 1) t.all a pos (omega arith) in
      (s, h, power-run m fit s ∙ seek_power m (2 ^ m - 1) 0 1 a (start m) (omega arith));
  once = λ p q hp hq e.
      let e' : run m p 1 ≡ run m q 1 = sym (power-run m fit p) ∙ e ∙ power-run m fit q in
      elim (cases_order p q) [
        | inl same ↦ same
        | inr (inl lt) ↦ absurd (clash m t p q lt hq e')
        | inr (inr lt) ↦ absurd (clash m t q p lt hp (sym e'))
      ];
}
  where
    start : (k : ℕ) → 1 ≡ run k 0 1
    start k = unfold run in refl

pub power-laws : (m : ℕ) → Fit m → PowerLaws (house m)
power-laws m fit = power-laws_at m fit (tested m fit)
