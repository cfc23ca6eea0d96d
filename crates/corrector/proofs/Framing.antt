-- The buffer of a row, and the answers of the frame put together from what it has tested and found.
use Rattle.std.proofs.Common.{◌≡◌, ℕ, zero, suc, ◌+◌, ◌-◌, ◌*◌, ◌/◌, ◌^◌, ◌<◌, Bool, true, false, List, length, Option, Some, None, Ok, Err, Result, sym, refl, ap, ◌∙◌, subst, inl, inr, arith}
use Rattle.std.proofs.lemmas.Bool.{and_parts, and_from, both_ways, eqb-true, eq-eqb}
use Rattle.std.specs.Option.{ok_or}
use Rattle.refusal.specs.declared.Refusal.{Refusal}
use Rattle.refusal.specs.declared.Refusal.TheVariants.{NoCodeRow}
use Rattle.bits.specs.Bits.{bit_at, Sized, Buffer}
use Rattle.field.specs.declared.syndromes.Syndromes.{Syndromes}
use Rattle.field.specs.Syndromes.{syndromes_of}
use Rattle.field.proofs.Summed.{sums_clear}
use Rattle.galois.specs.Model.{FieldModel, FieldLaws, units}
use Rattle.galois.specs.Rows.{Few}
use Rattle.galois.proofs.HouseRing.{each}
use Rattle.galois.proofs.Least.{Code}
use Rattle.decoding.proofs.Zeros.{Zeros, code_zeros, zeros_code}
use Rattle.decoding.proofs.Tracks.{found_at_once, found-near}
use Rattle.corrector.specs.Corrected.{Corrected}
use Rattle.corrector.specs.Searched.{clean, Searched, Searches}

-- ---- the test of the syndromes
pub clean-zeros : (t : ℕ) (s : Syndromes) → Few t → clean t s ≡ true → Zeros t s.s1 s.s3 s.s5
clean-zeros zero s few h = absurd (omega arith)
clean-zeros (suc zero) s few h =
    (eqb-true _ 0 (and_parts _ _ (and_parts _ _ h).0).0, λ z. absurd (omega arith), λ z. absurd (omega arith))
clean-zeros (suc (suc zero)) s few h =
    let a = and_parts _ _ (and_parts _ _ h).0 in
    (eqb-true _ 0 a.0, λ z. eqb-true _ 0 a.1, λ z. absurd (omega arith))
clean-zeros (suc (suc (suc zero))) s few h =
    let a = and_parts _ _ (and_parts _ _ h).0 in
    (eqb-true _ 0 a.0, λ z. eqb-true _ 0 a.1, λ z. eqb-true _ 0 (and_parts _ _ h).1)
clean-zeros (suc (suc (suc (suc t)))) s few h = absurd (omega arith)

pub zeros_clean : (t : ℕ) (s : Syndromes) → Few t → Zeros t s.s1 s.s3 s.s5 → clean t s ≡ true
zeros_clean zero s few z = absurd (omega arith)
zeros_clean (suc zero) s few z = and_from _ _ (and_from _ _ (eq-eqb _ 0 z.0) refl) refl
zeros_clean (suc (suc zero)) s few z = and_from _ _ (and_from _ _ (eq-eqb _ 0 z.0) (eq-eqb _ 0 (z.1 (omega arith)))) refl
zeros_clean (suc (suc (suc zero))) s few z =
    and_from _ _ (and_from _ _ (eq-eqb _ 0 z.0) (eq-eqb _ 0 (z.1 (omega arith)))) (eq-eqb _ 0 (z.2 (omega arith)))
zeros_clean (suc (suc (suc (suc t)))) s few z = absurd (omega arith)

module _ (F : FieldModel) (t : ℕ) (few : Few t) (c : ℕ → Bool) (s : Syndromes) (es : s ≡ syndromes_of F c (units F)) where
  pub clean-code : clean t s ≡ true → Code F t c
  clean-code h = zeros_code F t few c (clean-zeros t (syndromes_of F c (units F)) few (ap (clean t) (sym es) ∙ h))

  pub code_clean : Code F t c → clean t s ≡ true
  code_clean code = ap (clean t) es ∙ zeros_clean t (syndromes_of F c (units F)) few (code_zeros F t few c code)

  pub not_clean : clean t s ≡ false → Code F t c → ⊥
  not_clean h code = both_ways (clean t s) h (code_clean code)

ok_or-ok : (o : Option ℕ) (e : Refusal) (n : ℕ) → ok_or o e ≡ Ok n → o ≡ Some n
ok_or-ok None e n h = cc
ok_or-ok (Some m) e n h = cc

ok_or-err : (o : Option ℕ) (e f : Refusal) → ok_or o e ≡ Err f → (o ≡ None) × (f ≡ e)
ok_or-err None e f h = (refl, cc)
ok_or-err (Some m) e f h = cc

-- ---- the buffer
module _ (F : FieldModel) (l : FieldLaws F) where
  bits_of : 8 * ((units F + 7) / 8) ≡ units F + 1
  bits_of = each (λ m. 8 * ((2 ^ m - 1 + 7) / 8) ≡ 2 ^ m - 1 + 1) refl refl refl refl refl F.m (l.low, l.high)

  pub buffer_bits : (row : List ℕ) → Sized (units F) row → 8 * length row ≡ units F + 1
  buffer_bits row sized = ap (λ k. 8 * k) sized ∙ bits_of

  -- the syndromes of the buffer are those of the row: the one bit past it is not set
  pub row_sums : (row : List ℕ) → Buffer (units F) row → syndromes_of F (bit_at 8 row) (8 * length row) ≡ syndromes_of F (bit_at 8 row) (units F)
  row_sums row b =
      let z = buffer_bits row b.sized in
      ap (syndromes_of F (bit_at 8 row)) z ∙ sym (sums_clear F l (bit_at 8 row) (units F) (b.unused (units F) (omega arith) (omega arith)))

  -- ---- the answers
  module _ (t : ℕ) (row : List ℕ) where
    module _ (n : ℕ) (en : n ≡ units F) (admitted : Buffer n row) where
      buffer : Buffer (units F) row
      buffer = subst (λ k. Buffer k row) en admitted

      pub all_sums : (s : Syndromes) → s ≡ syndromes_of F (bit_at 8 row) (8 * length row) → s ≡ syndromes_of F (bit_at 8 row) (units F)
      all_sums s es = es ∙ row_sums row buffer

      pub already : (s : Syndromes) → Few t → s ≡ syndromes_of F (bit_at 8 row) (8 * length row) → clean t s ≡ true → Corrected F t row row (Ok 0)
      already s few es h =
          let near = found-near F t (bit_at 8 row) (bit_at 8 row) 0
          (found_at_once F t (bit_at 8 row) (clean-code F t few (bit_at 8 row) s (all_sums s es) h)) in
          (buffer, buffer, near.0, near.1)

      module _ (s : Syndromes) (es : s ≡ syndromes_of F (bit_at 8 row) (8 * length row)) (draft found : List ℕ) (ed : draft ≡ row) (o : Option ℕ)
          (S : Searches F t s draft found o) where
        searched : Searched F t row found o
        searched = subst (λ r. Searches F t s r found o) ed S buffer (all_sums s es)

        pub corrected : (after : List ℕ) (count : ℕ) → ok_or o NoCodeRow ≡ Ok count → after ≡ found → length after ≡ length row
            → Corrected F t row after (Ok count)
        corrected after count is ea el =
            let R : Searched F t row after (Some count) = subst (λ r. Searched F t row r (Some count)) (sym ea)
            (subst (Searched F t row found) (ok_or-ok o NoCodeRow count is) searched) in (
              buffer,
              record {
                sized = el ∙ buffer.sized;
                unused = λ j lo hi. R.2 j lo ∙ buffer.unused j lo (subst (λ k. j < 8 * k) el hi);
              },
              R.0,
              R.1,
            )

        pub refused : (answer : Result ℕ Refusal) (e : Refusal) → answer ≡ Err e → ok_or o NoCodeRow ≡ Err e → Corrected F t row row answer
        refused answer e ea is =
            let told = ok_or-err o NoCodeRow e is in
            let none = subst (Searched F t row found) told.0 searched in
            subst (Corrected F t row row) (sym (ea ∙ ap Err told.1)) (inr (buffer.sized, inr (buffer.unused, inl ((λ h. none h.0 h.1), refl))), refl)
