-- What turning one packed cell does to every cell, for numbers of any width w.
use Rattle.std.proofs.Common.{◌≡◌, ℕ, ◌+◌, ◌-◌, ◌≤◌, Bool, true, false, cond, not, eqb, List, Ok, refl, ap, ◌∙◌, arith}
use lib.Arith.{digits_div, digits_mod}
use Rattle.std.proofs.lemmas.Bool.Decides.{nat_tests}
use Rattle.memory.specs.Mem.{turned, in_run}
use Rattle.bits.specs.Bits.{bit_at}
use Rattle.bits.specs.Calls.{Changed}
use Rattle.memory.specs.Packing.{PackedBits, Turned}

pub packed_bits : (w : ℕ) (xs : List ℕ) → PackedBits w xs (bit_at w xs)
packed_bits w xs q j h = rw (digits_div q h, digits_mod q h)

as_turned : (t b : Bool) → cond t (not b) b ≡ turned t b
as_turned true b = refl
as_turned false b = refl

run_step : (a k i : ℕ) (b : Bool) → a ≤ k → turned (eqb i k) (turned (in_run a (k - a) i) b) ≡ turned (in_run a (k + 1 - a) i) b
run_step a k i b h = grind (arith, nat_tests)

-- A run goes on by one cell.
pub run_more : {U : Type 0} (w : ℕ) (xs ys zs : List ℕ) (a k : ℕ) (u : U) → a ≤ k → Turned w xs ys a (k - a) → Changed w not ys zs k (Ok u)
    → Turned w xs zs a (k + 1 - a)
run_more w xs ys zs a k u le t c = record {
  bits = λ i. c.1 i ∙ as_turned (eqb i k) (bit_at w ys i) ∙ ap (turned (eqb i k)) (t.bits i) ∙ run_step a k i (bit_at w xs i) le;
  rest = λ p lt. c.2 p (omega arith) ∙ t.rest p (omega arith);
}
