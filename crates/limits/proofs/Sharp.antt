-- The worked rows.
use Rattle.std.proofs.Common.{◌≡◌, ℕ, zero, suc, ◌+◌, ◌<◌, ◌≤◌, Bool, true, false, cond, List, [], ◌∷◌, Ok, Err, Result, sym, refl, ap, ◌∙◌, subst, ⊎_elim, arith}
use Rattle.refusal.specs.declared.Refusal.{Refusal}
use Rattle.refusal.specs.declared.Refusal.TheVariants.{NoCodeRow}
use Rattle.bits.specs.Bits.{Sized}
use Rattle.memory.specs.Mem.{Mem}
use Rattle.galois.specs.House.{house, shift, product}
use Rattle.galois.specs.Lists.{tabulate}
use Rattle.galois.specs.Model.{FieldLaws, power}
use Rattle.galois.specs.Rows.{power_sum, syndrome, CodeRow, data_of, distance}
use Rattle.galois.proofs.House.{house-laws}
use Rattle.galois.proofs.Least.{rows_apart}
use Rattle.bch.specs.Buffers.{shown}
use Rattle.book.specs.Model.{rows_of, reach_of}
use Rattle.book.specs.Calls.{row_cells, InReach, Looked}
use Rattle.limits.specs.Sharp.{twice, book_of, SharpLimits}

laws : FieldLaws (house 4)
laws = house-laws 4 (omega arith, omega arith)

-- the code rows beside it: the zero row for every t, and for t = 1 the one that is set at 3, 10 and 12
abbrev none_set : List Bool
none_set = false ∷ false ∷ false ∷ false ∷ false ∷ false ∷ false ∷ false ∷ false ∷ false ∷ false ∷ false ∷ false ∷ false ∷ false ∷ []

abbrev thrice : List Bool
thrice = false ∷ false ∷ false ∷ true ∷ false ∷ false ∷ false ∷ false ∷ false ∷ false ∷ true ∷ false ∷ true ∷ false ∷ false ∷ []

zero_sums : (i : ℕ) → i < 2 → syndrome (house 4) (suc (i + i)) none_set ≡ 0
unfolding power_sum
zero_sums zero l = refl
zero_sums (suc zero) l = refl
zero_sums (suc (suc i)) l = absurd (omega arith)

thrice-sums : (i : ℕ) → i < 1 → syndrome (house 4) (suc (i + i)) thrice ≡ 0
unfolding power_sum power product shift
thrice-sums zero l = refl
thrice-sums (suc i) l = absurd (omega arith)

zero_code : CodeRow (house 4) 2 none_set
zero_code = record { cells = refl; zeros = zero_sums }

thrice-code : CodeRow (house 4) 1 thrice
thrice-code = record { cells = refl; zeros = thrice-sums }

thrice-data : data_of (house 4) 1 thrice ≡ shown 11 (0x40 ∷ 0x01 ∷ [])
unfolding tabulate
thrice-data = refl

-- where there is a row, the reach is the one that was given
row_reach : (h : Bool) (R r : ℕ) → r < cond h R 0 → ◌≡◌ {A = ℕ} (cond h 1 0) 1
row_reach true R r l = refl
row_reach false R r l = absurd (omega arith)

at_most_one : (h : Bool) → cond h 1 0 ≤ 1
at_most_one true = omega arith
at_most_one false = omega arith

module _ (R : ℕ) (m : Mem) (r : ℕ) where
  none_near : (c : List Bool) → InReach (book_of 2 1 R m) twice c → ⊥
  none_near c v =
      let one : reach_of (book_of 2 1 R m) ≤ 1 = at_most_one _ in
      let close : distance twice c ≤ 1 = omega (arith, v.close) in
      let two : distance twice none_set ≡ 2 = refl in
      let e : c ≡ none_set = (rows_apart (house 4) laws 2).least twice c none_set refl v.code zero_code (omega arith) in
      omega (arith, ap (distance twice) e)

  refused : r < rows_of (book_of 2 1 R m) → row_cells (book_of 2 1 R m) r ≡ twice → (before after : List ℕ) → Sized 7 before → (x : Result ℕ Refusal)
      → Looked (book_of 2 1 R m) r before after x → x ≡ Err NoCodeRow
  refused l is before after sized (Ok count) done =
      absurd (none_near done.3.0 (subst (λ (row : List Bool). InReach (book_of 2 1 R m) row done.3.0) is done.3.1))
  refused l is before after sized (Err e) done =
      ⊎_elim (λ bad. absurd (bad.0 l))
      (λ u. ⊎_elim (λ bad. absurd (bad.0 sized)) (λ v. ⊎_elim (λ far. ap Err far.1) (λ never. absurd never.1) v.1) u.1)
      done.0

  mistaken : r < rows_of (book_of 1 1 R m) → row_cells (book_of 1 1 R m) r ≡ twice → (before after : List ℕ) → Sized 11 before → (x : Result ℕ Refusal)
      → Looked (book_of 1 1 R m) r before after x → (x ≡ Ok 1) × (shown 11 after ≡ shown 11 (0x40 ∷ 0x01 ∷ []))
  mistaken l is before after sized (Ok count) done =
      let c = done.3.0 in
      let v : InReach (book_of 1 1 R m) twice c = subst (λ (row : List Bool). InReach (book_of 1 1 R m) row c) is done.3.1 in
      let one : reach_of (book_of 1 1 R m) ≤ 1 = at_most_one _ in
      let near : distance twice thrice ≡ 1 = refl in
      let e : c ≡ thrice = (rows_apart (house 4) laws 1).least twice c thrice refl v.code thrice-code (omega (arith, v.close)) in
      (ap Ok (done.3.3 ∙ ap (λ (row : List Bool). distance row c) is ∙ ap (distance twice) e), done.3.2 ∙ ap (data_of (house 4) 1) e ∙ thrice-data)
  mistaken l is before after sized (Err x) done =
      let here : InReach (book_of 1 1 R m) (row_cells (book_of 1 1 R m) r) thrice =
      record { code = thrice-code; close = subst (λ (row : List Bool). distance row thrice ≤ reach_of (book_of 1 1 R m)) (sym is) (omega (arith, row_reach _ R r l)) } in
      absurd (⊎_elim (λ bad. bad.0 l)
      (λ u. ⊎_elim (λ bad. bad.0 sized) (λ v. ⊎_elim (λ far. far.0 (thrice, here)) (λ never. never.1) v.1) u.1)
      done.0)

pub sharp_limits : SharpLimits
sharp_limits = record {
  refused = refused;
  mistaken = mistaken;
  reach_t = λ n t R N some few room. record { within = omega arith; some = some; few = few; room = room };
  reach_past = λ n t R N f. omega (arith, f.within);
}
