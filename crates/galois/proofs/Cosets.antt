-- What holds of the exponents of the roots, by one computed test for each degree and t.
use Rattle.std.proofs.Common.{◌≡◌, ℕ, zero, suc, ◌+◌, ◌-◌, ◌%◌, ◌^◌, ◌<◌, ◌≤◌, Bool, true, false, cond, not, T, eqb, ltb, leb, ◌≢◌, sym, refl, subst, inl, inr, arith, eqb→eq, ltb→lt, leb→le, T_not}
use Rattle.std.proofs.lemmas.Bool.{cases_eq, eq-eqb}
use Rattle.galois.specs.Cosets.{At, walk, exponent}
use Rattle.galois.specs.House.{Fit}
use Rattle.galois.specs.Rows.{Few, check_cells}
use Rattle.galois.proofs.HouseRing.{each}

pub record Fine (n t r : ℕ) : Type 0 where
  pub some : 0 < r
  pub few : r ≤ 24
  pub short : r < n
  pub below : (d : ℕ) → d < r → exponent n d < n
  pub apart : (d f : ℕ) → d < f → f < r → exponent n d ≢ exponent n f
  pub halved : (f : ℕ) → f < r → (d : ℕ) × (d < r) × ((exponent n d + exponent n d) % n ≡ exponent n f)
  pub within : (d : ℕ) → d < r → (walk n d).first < t + t
  pub starts : (i : ℕ) → i < t → (d : ℕ) × (d < r) × (exponent n d ≡ suc (i + i))

both : Bool → Bool → Bool
both true b = b
both false b = false

both_T : (a b : Bool) → T (both a b) → T a × T b
unfolding both
both_T true b h = (tt, h)
both_T false b h = absurd h

either : Bool → Bool → Bool
either true b = true
either false b = b

every : (ℕ → Bool) → ℕ → Bool
every f zero = true
every f (suc k) = both (f k) (every f k)

every-at : (f : ℕ → Bool) (k : ℕ) → T (every f k) → (i : ℕ) → i < k → T (f i)
unfolding every
every-at f zero h i l = absurd (omega arith)
every-at f (suc k) h i l =
    let u = both_T (f k) (every f k) h in
    elim (cases_eq i k) [ inl e ↦ subst (λ (z : ℕ). T (f z)) (sym e) u.0 | inr ne ↦ every-at f k u.1 i (omega arith) ]

has : (ℕ → Bool) → ℕ → Bool
has f zero = false
has f (suc k) = either (f k) (has f k)

has_at : (f : ℕ → Bool) (k : ℕ) → T (has f k) → (i : ℕ) × (i < k) × T (f i)
unfolding has either
has_at f zero h = absurd h
has_at f (suc k) h = go (f k) refl h (has_at f k)
  where
    go : (b : Bool) → f k ≡ b → T (either b (has f k)) → (T (has f k) → (i : ℕ) × (i < k) × T (f i)) → (i : ℕ) × (i < suc k) × T (f i)
    go true q u ih = (k, omega arith, subst T (sym q) tt)
    go false q u ih = let w = ih u in (w.0, (let h = w.1 in omega arith), w.2)

test : ℕ → ℕ → ℕ → Bool
test n t r =
    both (ltb 0 r) (both (leb r 24) (both (ltb r n)
    (both (every (λ d. ltb (exponent n d) n) r)
    (both (every (λ f. every (λ d. not (eqb (exponent n d) (exponent n f))) f) r)
    (both (every (λ f. has (λ d. eqb ((exponent n d + exponent n d) % n) (exponent n f)) r) r)
    (both (every (λ d. ltb (walk n d).first (t + t)) r)
    (every (λ i. has (λ d. eqb (exponent n d) (suc (i + i))) r) t)))))))

tested : (n t r : ℕ) → T (test n t r) → Fine n t r
unfolding test
tested n t r h =
    let a = both_T _ _ h in
    let b = both_T _ _ a.1 in
    let c = both_T _ _ b.1 in
    let d = both_T _ _ c.1 in
    let e = both_T _ _ d.1 in
    let f = both_T _ _ e.1 in
    let g = both_T _ _ f.1 in
    record {
      some = ltb→lt 0 r a.0;
      few = leb→le r 24 b.0;
      short = ltb→lt r n c.0;
      below = λ i l. ltb→lt _ _ (every-at (λ d. ltb (exponent n d) n) r d.0 i l);
      apart = λ i j l k q. T_not _ (every-at (λ d. not (eqb (exponent n d) (exponent n j))) j (every-at (λ f. every (λ d. not (eqb (exponent n d) (exponent n f))) f) r e.0 j k) i l) (subst T (sym (eq-eqb (exponent n i) (exponent n j) q)) tt);
      halved = λ j k.
          let w = has_at (λ d. eqb ((exponent n d + exponent n d) % n) (exponent n j)) r (every-at (λ f. has (λ d. eqb ((exponent n d + exponent n d) % n) (exponent n f)) r) r f.0 j k) in
          (w.0, w.1, eqb→eq _ _ w.2);
      within = λ i l. ltb→lt _ _ (every-at (λ d. ltb (walk n d).first (t + t)) r g.0 i l);
      starts = λ i l.
          let w = has_at (λ d. eqb (exponent n d) (suc (i + i))) r (every-at (λ i. has (λ d. eqb (exponent n d) (suc (i + i))) r) t g.1 i l) in
          (w.0, w.1, eqb→eq _ _ w.2);
    }

-- what holds at each of the three
pub each_few : (Q : ℕ → Type 0) → Q 1 → Q 2 → Q 3 → (t : ℕ) → Few t → Q t
each_few Q a b c t few =
    let lo : 1 ≤ t = few.0 in
    let hi : t ≤ 3 = few.1 in
    elim (cases_eq t 1) [
      | inl p ↦ subst Q (sym p) a
      | inr n1 ↦
          elim (cases_eq t 2) [ inl p ↦ subst Q (sym p) b | inr n2 ↦ let e : 3 ≡ t = omega arith in subst Q e c ]
    ]

abbrev Passes : ℕ → ℕ → Type 0
Passes m t = T (test (2 ^ m - 1) t (check_cells m t))

all_tested : (m t : ℕ) → Fit m → Few t → Passes m t
unfolding test every has both either walk
all_tested m t fit few =
    each (λ m. Passes m t)
    (each_few (Passes 4) tt tt tt t few)
    (each_few (Passes 5) tt tt tt t few)
    (each_few (Passes 6) tt tt tt t few)
    (each_few (Passes 7) tt tt tt t few)
    (each_few (Passes 8) tt tt tt t few) m fit

pub fine : (m t : ℕ) → Fit m → Few t → Fine (2 ^ m - 1) t (check_cells m t)
fine m t fit few = tested (2 ^ m - 1) t (check_cells m t) (all_tested m t fit few)

-- the first of the doubles is odd
pub first-odd : (n d : ℕ) → (s : ℕ) × ((walk n d).first ≡ suc (s + s))
unfolding walk
first-odd n zero = (0, refl)
first-odd n (suc d) =
    let w = first-odd n d in go (eqb (((walk n d).here + (walk n d).here) % n) (walk n d).first) w
  where
    up : At
    up = record { first = (walk n d).first + 2; here = (walk n d).first + 2 }

    down : At
    down = record { first = (walk n d).first; here = ((walk n d).here + (walk n d).here) % n }

    go : (b : Bool) → (s : ℕ) × ((walk n d).first ≡ suc (s + s)) → (s : ℕ) × ((cond b up down).first ≡ suc (s + s))
    go true w = (suc w.0, (let h = w.1 in omega arith))
    go false w = w
