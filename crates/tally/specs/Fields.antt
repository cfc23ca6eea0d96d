-- The codes of the fields as settings of the tally.
use Rattle.std.specs.Prelude.{◌≡◌, ℕ, zero, suc, ◌+◌, ◌*◌, ◌≤◌, Bool, true, false, ◌&&◌, List, length, replicate, ◌==◌}
use Rattle.std.proofs.Math.Option.{Option, none, some}
use Rattle.memory.specs.Mem.{Layout}
use Rattle.galois.specs.Model.{FieldModel, FieldLaws, units}
use Rattle.galois.specs.Rows.{Few, syndrome, CodeRow, data_cells, data_of, distance, Systematic}
use Rattle.tally.specs.Rows.{every, first}
use Rattle.tally.specs.Tally.{Setting}
use Rattle.tally.specs.Damage.{Lawful}

-- whether S_1, S_3 .. S_(2t - 1) of a row are zero
unfoldable pub is_code : FieldModel → ℕ → List Bool → Bool
is_code F zero row = true
is_code F (suc i) row = is_code F i row && syndrome F (suc (i + i)) row == 0

-- a row that was found, or the zero row
abbrev pub or_zeros : ℕ → Option (List Bool) → List Bool
or_zeros n none = replicate n false
or_zeros n (some row) = row

-- the code row whose data are d
unfoldable pub code_row_of : FieldModel → ℕ → List Bool → List Bool
code_row_of F t d = or_zeros (units F) (first (λ row. is_code F t row && distance (data_of F t row) d == 0) (every (units F)))

-- R rows of the code of a field that corrects t errors, with reach s, in the cells of a memory
abbrev pub field_setting : FieldModel → (t s R : ℕ) → Layout → Setting
field_setting F t s R layout = record {
  n = units F;
  k = data_cells F.m t;
  t = t;
  s = s;
  R = R;
  layout = layout;
  code = is_code F t;
  encode = code_row_of F t;
}

-- What makes such a setting right
pub record FieldCode (F : FieldModel) (t : ℕ) : Type 0 where
  -- the test passes exactly the code rows
  pub tested : (row : List Bool) → length row ≡ units F → is_code F t row ≡ true → CodeRow F t row
  pub passed : (row : List Bool) → CodeRow F t row → is_code F t row ≡ true
  -- every k data cells have their systematic code row, and it is the one that is written
  pub encoded : (d : List Bool) → length d ≡ data_cells F.m t → Systematic F t d (code_row_of F t d)
  -- so the laws of the tally hold of it, for every reach up to t and as many rows as the memory has room for
  pub lawful : (s R : ℕ) (layout : Layout) → s ≤ t → R * units F ≤ layout.cells → Lawful (field_setting F t s R layout)

abbrev pub FieldCodes : Type 0
FieldCodes = (F : FieldModel) → FieldLaws F → (t : ℕ) → Few t → FieldCode F t
