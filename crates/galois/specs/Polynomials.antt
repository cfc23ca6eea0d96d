-- Polynomials over a ring, by their coefficients: a function of the index, and how many there are.
use Rattle.std.specs.Prelude.{ℕ, zero, suc}
use Rattle.galois.specs.Ring.{Ops, pow}

module _ {K : Type 0} (P : Ops K) where
  open P use {o, e, add, mul}

  -- the value at x of the polynomial whose coefficients are c 0 .. c (k - 1)
  unfoldable pub value : (ℕ → K) → ℕ → K → K
  value c zero x = o
  value c (suc k) x = add (value c k x) (mul (c k) (pow P x k))

  -- the coefficient before, none before the first
  abbrev pub before : (ℕ → K) → ℕ → K
  before g zero = o
  before g (suc i) = g i

  -- g times (x + a)
  abbrev pub factor : K → (ℕ → K) → ℕ → K
  factor a g i = add (before g i) (mul a (g i))

  abbrev pub unit : ℕ → K
  unit zero = e
  unit (suc i) = o

  -- the product of x + b 0 .. x + b (d - 1)
  unfoldable pub generated : (ℕ → K) → ℕ → ℕ → K
  generated b zero = unit
  generated b (suc d) = factor (b d) (generated b d)
