-- Where an entry stands, over plain values.
use Rattle.std.proofs.Common.{◌≡◌, ℕ, ◌*◌, ◌/◌, ◌%◌, ◌<◌, ◌≤◌, sym, refl, ap, ◌∙◌, subst, ⊎_elim, mod-lt, div-lt_iff_lt-mul, mul-zero, div-add-mod', arith}
use Rattle.std.proofs.lemmas.Bool.{cases_lt}
use Rattle.std.proofs.lemmas.Bool.Decides.{nat_tests}
use Rattle.book.specs.Model.{BookModel, rows_of}
use Rattle.table.specs.Model.{per_row, entries_of}
use Rattle.table.specs.Calls.{Stands}

module _ (b : BookModel) (E i : ℕ) (l : i < entries_of b E) where
  inside_rows : i < rows_of b * per_row b
  inside_rows = grind (arith, nat_tests)

  pub some_per_row : 0 < per_row b
  some_per_row =
      ⊎_elim (λ (z : 0 < per_row b). z)
      (λ (z : per_row b ≤ 0).
      let none : per_row b ≡ 0 = omega arith in
      let empty : rows_of b * per_row b ≡ 0 = ap (λ (n : ℕ). rows_of b * n) none ∙ mul-zero (rows_of b) in
      absurd (omega (arith, inside_rows)))
      (cases_lt 0 (per_row b))

  pub stands : (e : ℕ) → e ≡ per_row b → Stands b i (i / e) (i % e)
  stands e is = subst (λ (n : ℕ). Stands b i (i / n) (i % n)) (sym is) record {
    row = refl;
    index = refl;
    there = (div-lt_iff_lt-mul some_per_row).1 inside_rows;
    inside = mod-lt i some_per_row;
    alone = div-add-mod' i (per_row b);
  }
