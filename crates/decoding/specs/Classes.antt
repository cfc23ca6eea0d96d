-- How many errors the power sums of a row show, and that they show the distance of the row from the code.
use Rattle.std.specs.Prelude.{◌≡◌, ℕ, ◌+◌, ◌-◌, Bool, ◌≢◌, List, length, nat_eq}
use Rattle.galois.specs.Model.{FieldModel, units}
use Rattle.galois.specs.Ring.{numbers}
use Rattle.galois.specs.Sums.{class}
use Rattle.galois.specs.Rows.{syndrome, CodeRow, distance, Near}

-- the class of the power sums S_1, S_3 and S_5, for a code that corrects t errors: how many they show, 0 to 3, and 4 for more than can be told
abbrev pub class_of : FieldModel → ℕ → ℕ → ℕ → ℕ → ℕ
class_of F t s1 s3 s5 = class (numbers F) (λ s. nat_eq s 0) t s1 s3 s5

-- the class of a row
abbrev pub class_row : FieldModel → ℕ → List Bool → ℕ
class_row F t row = class_of F t (syndrome F 1 row) (syndrome F 3 row) (syndrome F 5 row)

-- what the class of a row of n cells tells
pub record ClassIsDistance (F : FieldModel) (t : ℕ) : Type 0 where
  -- the distance from a code row within t positions
  pub near : (row c : List Bool) → length row ≡ units F → Near F t row c → class_row F t row ≡ distance row c
  -- one position more than t is not taken for one less: where the class is t, a wrong turn does not lower it by one
  pub past : (row c : List Bool) → length row ≡ units F → CodeRow F t c → distance row c ≡ t + 1 → class_row F t row ≢ t - 1
  -- only code rows have class 0
  pub clean : (row : List Bool) → length row ≡ units F → class_row F t row ≡ 0 → CodeRow F t row
