-- A run of at most d * s places meets at most s cells of a row whose cells lie d places apart.
use Rattle.std.proofs.Common.{◌≡◌, ℕ, zero, suc, ◌+◌, ◌*◌, ◌<◌, ◌≤◌, Bool, true, false, cond, refl, ap, ⊎_elim, suc-mul, mul_comm, arith}
use Rattle.std.proofs.lemmas.Bool.{and_parts, leb-true, cases_Bool}
use Rattle.std.proofs.lemmas.Bool.Decides.{nat_tests}
use Rattle.memory.specs.Mem.{in_run}
use Rattle.tally.specs.Rows.{hits}

pub hits-same : (f g : ℕ → Bool) (n : ℕ) → ((j : ℕ) → j < n → f j ≡ g j) → hits f n ≡ hits g n
hits-same f g zero h = refl
hits-same f g (suc n) h = rw (h 0 (omega arith)) (ap (λ x. cond (g 0) 1 0 + x) (hits-same (λ j. f (suc j)) (λ j. g (suc j)) n (λ j l. h (suc j) (omega arith))))

at_most : (h : Bool) → cond h 1 0 ≤ 1
at_most true = omega arith
at_most false = omega arith

past-run : (from len p : ℕ) → from + len ≤ p → cond (in_run from len p) 1 0 ≤ 0
past-run from len p h = grind (arith, nat_tests)

module _ (d from len : ℕ) where
  -- none is met past the end of the run
  few : (p : ℕ → ℕ) (n m : ℕ) → ((j : ℕ) → p (suc j) ≡ p j + d) → from + len ≤ p 0 + m * d → hits (λ j. in_run from len (p j)) n ≤ m
  few p zero m next past = omega arith
  few p (suc n) zero next past =
      omega (arith, past-run from len (p 0) (omega arith), few (λ j. p (suc j)) n zero (λ j. next (suc j)) (omega (arith, next 0)))
  few p (suc n) (suc m) next past =
      omega (arith, at_most (in_run from len (p 0)), few (λ j. p (suc j)) n m (λ j. next (suc j)) (omega (arith, next 0, suc-mul m d)))

  meets : (s : ℕ) (p : ℕ → ℕ) (n : ℕ) → ((j : ℕ) → p (suc j) ≡ p j + d) → len ≤ d * s → hits (λ j. in_run from len (p j)) n ≤ s
  meets s p zero next short = omega arith
  meets s p (suc n) next short =
      ⊎_elim
      (λ is. few p (suc n) s next (omega (arith, leb-true from (p 0) (and_parts _ _ is).0, mul_comm d s)))
      (λ is. rw is (omega (arith, meets s (λ j. p (suc j)) n (λ j. next (suc j)) short)))
      (cases_Bool (in_run from len (p 0)))

  pub spread : (s first : ℕ) (p : ℕ → ℕ) (n : ℕ) → ((j : ℕ) → j < n → p j ≡ first + j * d) → len ≤ d * s → hits (λ j. in_run from len (p j)) n ≤ s
  spread s first p n at short =
      rw (hits-same (λ j. in_run from len (p j)) (λ j. in_run from len (first + j * d)) n (λ j l. ap (in_run from len) (at j l)))
      (meets s (λ j. first + j * d) n (λ j. omega (arith, suc-mul j d)) short)
