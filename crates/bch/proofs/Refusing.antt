-- The answers of the calls that take two buffers, put together from what the code has done.
use Rattle.std.proofs.Common.{◌≡◌, ℕ, ◌+◌, false, cond, ltb, List, length, drop, Ok, sym, ap, ◌∙◌}
use Rattle.std.proofs.lemmas.Bool.{lt-ltb, le-ltb}
use Rattle.bits.specs.Bits.{bit_at, Sized, Buffer}
use Rattle.galois.specs.Lists.{tabulate}
use Rattle.galois.specs.Model.{FieldModel, FieldLaws, units}
use Rattle.galois.specs.Rows.{Few, check_cells, data_cells}
use Rattle.galois.proofs.Tabulated.{tabulate-cong, drop-tabulate}
use Rattle.bch.specs.Calls.{Encoded, Extracted}
use Rattle.bch.specs.Steps.{data_register, row_laid}
use Rattle.bch.proofs.CodeRows.{Packs, row_parts}
use Rattle.bch.proofs.Encoding.{row_buffer, systematic, by-division}

module _ (F : FieldModel) (l : FieldLaws F) (t : ℕ) (few : Few t) where
  abbrev k : ℕ
  k = data_cells F.m t

  pub encode-done : (given row after : List ℕ) (x check : ℕ) (u : Unit {0}) → Sized (units F) row → length after ≡ length row → Buffer k given → Packs F t x → check ≡ data_register F t x given
      → ((j : ℕ) → bit_at 8 after j ≡ row_laid F t check given j) → Encoded {U = Unit {0}} F t given row after (Ok u)
  encode-done given row after x check u sized kept buffer packs ec cells = (
    few,
    buffer,
    sized,
    row_buffer F l t few x check given after packs ec cells (kept ∙ sized),
    systematic F l t few x check given after packs ec cells,
    by-division F l t few x check given after packs ec cells,
  )

  pub extract-done : (row before after : List ℕ) (u : Unit {0}) → Sized k before → length after ≡ length before → Buffer (units F) row
      → ((j : ℕ) → bit_at 8 after j ≡ cond (ltb j k) (bit_at 8 row (check_cells F.m t + j)) false) → Extracted {U = Unit {0}} F t row before after (Ok u)
  extract-done row before after u sized kept buffer cells = (
    few,
    buffer,
    sized,
    record { sized = kept ∙ sized; unused = λ j ge lt. cells j ∙ ap (λ b. cond b (bit_at 8 row (check_cells F.m t + j)) false) (le-ltb j k ge) },
    tabulate-cong (bit_at 8 after) (λ j. bit_at 8 row (check_cells F.m t + j)) k
        (λ j lt. cells j ∙ ap (λ b. cond b (bit_at 8 row (check_cells F.m t + j)) false) (lt-ltb j k lt))
        ∙ sym (drop-tabulate (bit_at 8 row) (check_cells F.m t) k)
        ∙ ap (λ m. drop (check_cells F.m t) (tabulate (bit_at 8 row) m)) (row_parts F l t few),
  )
