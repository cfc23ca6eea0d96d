-- What the private functions hand to each other on the way to the calls; no public contract cites it.
use Rattle.std.specs.Prelude.{ℕ, zero, suc, ◌+◌, ◌-◌, ◌*◌, ◌%◌, ◌^◌, Bool, false, cond, List, bit_xor, nat_lt}
use Rattle.bits.specs.Bits.{xor, bit_of, bit_at}
use Rattle.galois.specs.Cosets.{exponent}
use Rattle.galois.specs.Model.{FieldModel, units, power}
use Rattle.galois.specs.Polynomials.{generated}
use Rattle.galois.specs.Ring.{numbers}
use Rattle.galois.specs.Rows.{check_cells, data_cells}

-- coefficient i of the product of x + alpha ^ j over the first d exponents j of the cosets
abbrev pub coefficient : FieldModel → ℕ → ℕ → ℕ
coefficient F d i = generated (numbers F) (λ j. power F (exponent (units F) j)) d i

-- one turn of the shift register: x times the register plus the bit d at the top, reduced by g of degree r
abbrev pub turned : ℕ → ℕ → ℕ → Bool → ℕ
turned g r x d = bit_xor ((x * 2) % 2 ^ r) (cond (xor (bit_of x (r - 1)) d) (g % 2 ^ r) 0)

-- the register after the q bits from s on, the highest first
unfoldable pub register : ℕ → ℕ → (ℕ → Bool) → ℕ → ℕ → ℕ
register g r c s zero = 0
register g r c s (suc q) = turned g r (register g r c (suc s) q) (c s)

-- position j of a row with the r check cells below the k data cells
abbrev pub laid : ℕ → ℕ → List ℕ → ℕ → ℕ → Bool
laid check r given k j = cond (nat_lt j r) (bit_of check j) (cond (nat_lt j (r + k)) (bit_at 8 given (j - r)) false)

-- the register after all data cells, and the row laid down with it
abbrev pub data_register : FieldModel → ℕ → ℕ → List ℕ → ℕ
data_register F t g given = register g (check_cells F.m t) (bit_at 8 given) 0 (data_cells F.m t)

abbrev pub row_laid : FieldModel → ℕ → ℕ → List ℕ → ℕ → Bool
row_laid F t check given j = laid check (check_cells F.m t) given (data_cells F.m t) j

-- the check cells and the data cells together
abbrev pub all_cells : FieldModel → ℕ → ℕ
all_cells F t = check_cells F.m t + data_cells F.m t
