-- The exponents of the generator's roots: the cyclotomic coset of 1 (1 and its doubles modulo n), then that of 3, then that of 5.
use Rattle.std.specs.Prelude.{ℕ, zero, suc, ◌+◌, ◌%◌, cond, ◌==◌}

-- the first of the doubles, and the one reached
pub record At : Type 0 where
  pub first : ℕ
  pub here : ℕ

abbrev pub next : ℕ → At → At
next n s =
    cond ((s.here + s.here) % n == s.first) (record { first = s.first + 2; here = s.first + 2 })
    (record { first = s.first; here = (s.here + s.here) % n })

unfoldable pub walk : ℕ → ℕ → At
walk n zero = record { first = 1; here = 1 }
walk n (suc d) = next n (walk n d)

abbrev pub exponent : ℕ → ℕ → ℕ
exponent n d = (walk n d).here
