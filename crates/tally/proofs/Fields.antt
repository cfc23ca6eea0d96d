-- The codes of the fields are lawful: the test passes the code rows alone, and every k data cells have their code row.
use Rattle.std.proofs.Common.{◌≡◌, ℕ, zero, suc, ◌+◌, ◌-◌, ◌*◌, ◌<◌, Bool, true, false, cond, ◌&&◌, eqb, ltb, List, [], ◌∷◌, length, get_or, drop, replicate, sym, refl, ap, ◌∙◌, subst, ap₂, inl, inr, arith, get_or-drop}
use mathlib.Core.Option.{Option, none, some}
use lib.ListN.{length-replicate, get_or-replicate}
use Rattle.std.proofs.lemmas.Bool.{and_parts, and_from, eqb-true, eq-eqb, cases_eq, both_ways, lt-ltb, le-ltb}
use Rattle.bits.specs.Bits.{bit_of}
use Rattle.galois.specs.Lists.{tabulate}
use Rattle.galois.specs.Model.{FieldModel, FieldLaws, units}
use Rattle.galois.specs.Rows.{Few, power_sum, cell_of, syndrome, CodeRow, data_cells, check_cells, data_of, unlike, distance, Systematic}
use Rattle.galois.proofs.Laws.{power-lt}
use Rattle.galois.proofs.Least.{Code, code_cells, rows_apart}
use Rattle.galois.proofs.PowerSums.{power_sum-cong}
use Rattle.galois.proofs.Tabulated.{length-tabulate, get_or-tabulate, tabulate-cong, tabulate-get_or, drop-tabulate, same_list}
use Rattle.bch.specs.Steps.{coefficient, register}
use Rattle.bch.proofs.CodeRows.{Packs, row_parts, coefficient-lt, one_row, register-code}
use Rattle.bch.proofs.Packing.{push_bits}
use Rattle.tally.specs.Rows.{every, first}
use Rattle.tally.specs.Fields.{is_code, or_zeros, code_row_of, FieldCode, FieldCodes}
use Rattle.tally.proofs.Knocks.{distance_self}
use Rattle.tally.proofs.Search.{first_found, first-none, every-long, every-has}

-- the test
tested : (F : FieldModel) (t : ℕ) (row : List Bool) → is_code F t row ≡ true → (i : ℕ) → i < t → syndrome F (suc (i + i)) row ≡ 0
unfolding is_code
tested F zero row h i l = absurd (omega arith)
tested F (suc t) row h i l =
    let u = and_parts _ _ h in
    elim (cases_eq i t) [ inl e ↦ subst (λ k. syndrome F (suc (k + k)) row ≡ 0) (sym e) (eqb-true _ 0 u.1) | inr n ↦ tested F t row u.0 i (omega arith) ]

passed : (F : FieldModel) (t : ℕ) (row : List Bool) → ((i : ℕ) → i < t → syndrome F (suc (i + i)) row ≡ 0) → is_code F t row ≡ true
unfolding is_code
passed F zero row h = refl
passed F (suc t) row h = and_from _ _ (passed F t row (λ i l. h i (omega arith))) (eq-eqb _ 0 (h t (omega arith)))

-- rows at distance 0 are one
unlike-zero : (x y : Bool) → unlike x y ≡ 0 → x ≡ y
unlike-zero true true e = refl
unlike-zero true false e = absurd (omega arith)
unlike-zero false true e = absurd (omega arith)
unlike-zero false false e = refl

distance-zero : (xs ys : List Bool) → distance xs ys ≡ 0 → xs ≡ ys
distance-zero [] [] e = refl
distance-zero [] (y ∷ ys) e = absurd (omega arith)
distance-zero (x ∷ xs) [] e = absurd (omega arith)
distance-zero (x ∷ xs) (y ∷ ys) e = ap₂ (λ (z : Bool) (zs : List Bool). z ∷ zs) (unlike-zero x y (omega arith)) (distance-zero xs ys (omega arith))

-- a number whose bits are given, made from the highest down
bits_from : (f : ℕ → ℕ) (count : ℕ) → ((i : ℕ) → f i < 2) → (d i : ℕ) → i + d ≡ count → (x : ℕ) × ((j : ℕ) → i + j < count → bit_of x j ≡ eqb (f (i + j)) 1)
bits_from f count h zero i e = (0, λ j l. absurd (omega arith))
bits_from f count h (suc d) i e =
    let up = bits_from f count h d (i + 1) (omega arith) in (2 * up.0 + f i, push_bits f count i up.0 (h i) up.1)

module _ (F : FieldModel) (l : FieldLaws F) (t : ℕ) (few : Few t) where
  abbrev r : ℕ
  r = check_cells F.m t

  abbrev k : ℕ
  k = data_cells F.m t

  abbrev n : ℕ
  n = units F

  generator : (x : ℕ) × Packs F t x
  generator =
      let x = bits_from (coefficient F r) (suc r) (coefficient-lt F l t few) (suc r) 0 (omega arith) in
      (x.0, λ i le. let z : 0 + i ≡ i = omega arith in subst (λ (q : ℕ). bit_of x.0 i ≡ eqb (coefficient F r q) 1) z (x.1 i (omega arith)))

  -- a row given by its positions, as a list
  listed-code : (c : ℕ → Bool) → Code F t c → CodeRow F t (tabulate c n)
  listed-code c code = record {
    cells = length-tabulate c n;
    zeros = λ i lt.
        ap (power_sum F (suc (i + i)) (cell_of (tabulate c n))) (length-tabulate c n)
        ∙ power_sum-cong F (suc (i + i)) (cell_of (tabulate c n)) c n (get_or-tabulate c n false) ∙ code i lt;
  }

  -- code rows with the same data are one
  same_data : (c e : List Bool) → CodeRow F t c → CodeRow F t e → data_of F t c ≡ data_of F t e → c ≡ e
  same_data c e hc he eq =
      same_list c e false (hc.cells ∙ sym he.cells)
      (λ j lt. one_row F l t few (cell_of c) (cell_of e) (code_cells F t c hc) (code_cells F t e he)
      (λ i u. sym (get_or-drop r c i false) ∙ ap (λ d. get_or d i false) eq ∙ get_or-drop r e i false) j (subst (λ m. j < m) hc.cells lt))

  module _ (d : List Bool) (long : length d ≡ k) where
    laid_out : ℕ → Bool
    laid_out j = cond (ltb j r) (bit_of (register generator.0 r (cell_of d) 0 k) j) (cell_of d (j - r))

    below : (j : ℕ) → j < r → laid_out j ≡ bit_of (register generator.0 r (cell_of d) 0 k) j
    unfolding laid_out
    below j h = rw (lt-ltb j r h)

    above : (j : ℕ) → j < k → laid_out (r + j) ≡ cell_of d j
    unfolding laid_out
    above j h = let z : (r + j) - r ≡ j = omega arith in rw (le-ltb (r + j) r (omega arith)) (ap (cell_of d) z)

    exists : (row : List Bool) × CodeRow F t row × (data_of F t row ≡ d)
    exists = (
      tabulate laid_out n,
      listed-code laid_out (register-code F l t few generator.0 generator.1 (cell_of d) laid_out below above),
      ap (λ m. drop r (tabulate laid_out m)) (sym (row_parts F l t few)) ∙ drop-tabulate laid_out r k
          ∙ tabulate-cong (λ j. laid_out (r + j)) (cell_of d) k above
          ∙ ap (tabulate (cell_of d)) (sym long) ∙ tabulate-get_or d false,
    )

    abbrev fits : List Bool → Bool
    fits row = is_code F t row && eqb (distance (data_of F t row) d) 0

    found : (o : Option (List Bool)) → first fits (every n) ≡ o → Systematic F t d (or_zeros n o)
    found none e =
        let x = exists in
        absurd (both_ways (fits x.0) (every-has (λ row. fits row ≡ false) n (first-none fits (every n) e) x.0 x.1.cells)
        (and_from _ _ (passed F t x.0 x.1.zeros) (eq-eqb _ 0 (ap (λ y. distance y d) x.2 ∙ distance_self d))))
    found (some row) e =
        let h = first_found fits (λ row. length row ≡ n) (every n) row (every-long n) e in
        let u = and_parts _ _ h.1 in
        let code : CodeRow F t row = record { cells = h.0; zeros = tested F t row u.0 } in
        let holds : data_of F t row ≡ d = distance-zero _ d (eqb-true _ 0 u.1) in
        record { code = code; holds = holds; only = λ other co eq. same_data other row co code (eq ∙ sym holds) }

    encoded : Systematic F t d (code_row_of F t d)
    unfolding code_row_of
    encoded = found (first fits (every n)) refl

  -- the zero row
  zero-sum : (i p : ℕ) → power_sum F i (λ _. false) p ≡ 0
  unfolding power_sum
  zero-sum i zero = refl
  zero-sum i (suc p) = ap (λ s. F.add s 0) (zero-sum i p) ∙ (l.ring.add_zero 0 (omega (arith, power-lt F l 0)))

  zero_row : CodeRow F t (replicate n false)
  zero_row = record {
    cells = length-replicate n false;
    zeros = λ i lt.
        ap (power_sum F (suc (i + i)) (cell_of (replicate n false))) (length-replicate n false)
        ∙ power_sum-cong F (suc (i + i)) (cell_of (replicate n false)) (λ _. false) n (λ p h. get_or-replicate n p false false h)
        ∙ zero-sum (suc (i + i)) n;
  }

  dropped_zeros : (a b : ℕ) → drop a (replicate (a + b) false) ≡ replicate b false
  dropped_zeros zero b = ap (λ m. replicate m false) (omega arith)
  dropped_zeros (suc a) b = let z : suc a + b ≡ suc (a + b) = omega arith in ap (λ m. drop (suc a) (replicate m false)) z ∙ dropped_zeros a b

  zero_data : data_of F t (replicate n false) ≡ replicate k false
  zero_data = ap (λ m. drop r (replicate m false)) (sym (row_parts F l t few)) ∙ dropped_zeros r k

  field_code : FieldCode F t
  field_code = record {
    tested = λ row long h. record { cells = long; zeros = tested F t row h };
    passed = λ row c. passed F t row c.zeros;
    encoded = encoded;
    lawful = λ s R layout reach room. record {
      reach = reach;
      room = room;
      long = λ d e. (encoded d e).code.cells;
      coded = λ d e. passed F t (code_row_of F t d) (encoded d e).code.zeros;
      back = λ d e. (encoded d e).holds;
      zeros = sym ((encoded (replicate k false) (length-replicate k false)).only (replicate n false) zero_row zero_data);
      apart = λ row c e lr lc le hc he near.
          (rows_apart F l t).least row c e lr (record { cells = lc; zeros = tested F t c hc }) (record { cells = le; zeros = tested F t e he }) (omega arith);
    };
  }

pub field_codes : FieldCodes
field_codes F l t few = field_code F l t few
