-- What each call does to the cells carries the promises.
use Rattle.std.proofs.Common.{◌≡◌, ℕ, zero, suc, ◌+◌, ◌*◌, ◌<◌, ◌≤◌, Bool, false, eqb, ◌⊎◌, List, [], ◌∷◌, length, replicate, sym, refl, ap, ◌∙◌, subst, ap₂, ⊎_elim, arith}
use mathlib.Core.Option.{Option, none, some}
use lib.Arith.{digits_lt}
use Rattle.std.proofs.lemmas.Bool.{eq-eqb, ne_eqb, cases_eq, le-leb, lt-leb}
use Rattle.memory.specs.Mem.{in_run, turned}
use Rattle.galois.specs.Lists.{tabulate}
use Rattle.galois.proofs.Tabulated.{length-tabulate, tabulate-cong}
use Rattle.tally.specs.Rows.{turned_by}
use Rattle.tally.specs.Tally.{Setting, Call, write, mend, knock, Row, data_cells_of, nearest, after_write, struck, after}
use Rattle.tally.specs.Damage.{Lawful, Within, Near, Stands}
use Rattle.tally.specs.Buffers.{unpacked}
use Rattle.tally.specs.Promises.{row_of, Holds, Keeps, Survives, ReadPromise, MendPromise, Only, Same, CallLaws}
use Rattle.tally.proofs.Laws.{damage_laws, looser, either}

-- rows as lists of the first values of a function
zeros_row : (f : ℕ → Bool) (n : ℕ) → ((j : ℕ) → j < n → f j ≡ false) → tabulate f n ≡ replicate n false
unfolding tabulate
zeros_row f zero h = refl
zeros_row f (suc n) h = rw (h 0 (omega arith), zeros_row (λ j. f (suc j)) n (λ j l. h (suc j) (omega arith)))

turned-row : (hit f g : ℕ → Bool) (n : ℕ) → ((j : ℕ) → j < n → f j ≡ turned (hit j) (g j)) → tabulate f n ≡ turned_by hit (tabulate g n)
unfolding tabulate
turned-row hit f g zero h = refl
turned-row hit f g (suc n) h =
    ap₂ (λ (x : Bool) (xs : List Bool). x ∷ xs) (h 0 (omega arith))
    (turned-row (λ j. hit (suc j)) (λ j. f (suc j)) (λ j. g (suc j)) n (λ j l. h (suc j) (omega arith)))

module _ (b : Setting) (law : Lawful b) where
  open b use {n, k, t, s, R, layout, code, encode}

  stands : Stands b
  stands = damage_laws b law

  pub row_long : (cell : ℕ → Bool) (r : ℕ) → length (row_of b cell r) ≡ n
  row_long cell r = length-tabulate (λ j. cell (r * n + j)) n

  in_row : (r j : ℕ) → r < R → j < n → r * n + j < R * n
  in_row r j l h = digits_lt l h

  pub same_row : (before now : ℕ → Bool) → Same b before now → (r : ℕ) → r < R → row_of b now r ≡ row_of b before r
  same_row before now e r l = tabulate-cong (λ j. now (r * n + j)) (λ j. before (r * n + j)) n (λ j h. e (r * n + j) (in_row r j l h))

  same_holds : (before now : ℕ → Bool) → Same b before now → (h : List Call) → Holds b h before → Holds b h now
  same_holds before now e h v r l = same_row before now e r l ∙ v r l

  made : (cell : ℕ → Bool) → ((c : ℕ) → c < R * n → cell c ≡ false) → Holds b [] cell
  made cell z r l = zeros_row (λ j. cell (r * n + j)) n (λ j h. z (r * n + j) (in_row r j l h))

  wrote : (r : ℕ) (buffer : List ℕ) (d : List Bool) (before now : ℕ → Bool) → unpacked k buffer ≡ some d → Only b r before now (encode d) → Keeps b (write r buffer) before now
  wrote r buffer d before now e o h v q l =
      ⊎_elim
      (λ same. rw (eq-eqb r q (sym same), e) (rw same o.here))
      (λ other. rw (ne_eqb r q (λ z. other (sym z))) (o.there q l other ∙ v q l))
      (cases_eq q r)

  not_written : (r : ℕ) (buffer : List ℕ) (before now : ℕ → Bool) → (R ≤ r) ⊎ (unpacked k buffer ≡ none) → Same b before now → Keeps b (write r buffer) before now
  not_written r buffer before now why e h v q l =
      ⊎_elim
      (λ past. rw (ne_eqb r q (λ z. omega arith)) (same_holds before now e h v q l))
      (λ bad. either (λ (w : Row). row_of b now q ≡ w.cells) (eqb r q) (after_write b (unpacked k buffer) (after b h q)) _ (rw bad (same_holds before now e h v q l)) (same_holds before now e h v q l))
      why

  pub nearest-is : (row c : List Bool) → length row ≡ n → Near b s row c → nearest b s row ≡ some c
  nearest-is row c l m = go (nearest b s row) refl
    where
      go : (o : Option (List Bool)) → nearest b s row ≡ o → nearest b s row ≡ some c
      go none e = absurd (stands.not_found s row e c m)
      go (some d) e = e ∙ ap some (stands.only s row law.reach l d c (stands.found s row d e) m)

  pub nearest-none : (row : List Bool) → ((c : List Bool) → Near b s row c → ⊥) → nearest b s row ≡ none
  nearest-none row far = go (nearest b s row) refl
    where
      go : (o : Option (List Bool)) → nearest b s row ≡ o → nearest b s row ≡ none
      go none e = e
      go (some d) e = absurd (far d (stands.found s row d e))

  mended_row : (r : ℕ) (c : List Bool) (before now : ℕ → Bool) → Near b s (row_of b before r) c → Only b r before now c → Keeps b (mend r) before now
  mended_row r c before now m o h v q l =
      ⊎_elim
      (λ same.
      let m' : Near b s (row_of b before q) c = rw same m in
      let z : nearest b s (after b h q).cells ≡ some c = rw (← v q l) (nearest-is (row_of b before q) c (row_long before q) m') in
      rw (eq-eqb r q (sym same), z) (rw same o.here))
      (λ other. rw (ne_eqb r q (λ z. other (sym z))) (o.there q l other ∙ v q l))
      (cases_eq q r)

  not_mended : (r : ℕ) (before now : ℕ → Bool) → (R ≤ r) ⊎ ((c : List Bool) → Near b s (row_of b before r) c → ⊥) → Same b before now → Keeps b (mend r) before now
  not_mended r before now why e h v q l =
      ⊎_elim
      (λ past. rw (ne_eqb r q (λ z. omega arith)) (same_holds before now e h v q l))
      (λ far. ⊎_elim
      (λ same.
      let z : nearest b s (after b h q).cells ≡ none = rw (← v q l) (nearest-none (row_of b before q) (rw same far)) in
      rw (eq-eqb r q (sym same), z) (same_holds before now e h v q l))
      (λ other. rw (ne_eqb r q (λ z. other (sym z))) (same_holds before now e h v q l))
      (cases_eq q r))
      why

  knocked_cells : (from len : ℕ) (before now : ℕ → Bool) → from + len ≤ layout.span → ((c : ℕ) → c < R * n → now c ≡ turned (in_run from len (layout.place c)) (before c)) → Keeps b (knock from len) before now
  knocked_cells from len before now fits e h v q l =
      rw (le-leb (from + len) layout.span fits)
      (turned-row (struck b from len q) (λ j. now (q * n + j)) (λ j. before (q * n + j)) n (λ j u. e (q * n + j) (in_row q j l u))
      ∙ ap (turned_by (struck b from len q)) (v q l))

  not_knocked : (from len : ℕ) (before now : ℕ → Bool) → layout.span < from + len → Same b before now → Keeps b (knock from len) before now
  not_knocked from len before now out e h v q l = rw (lt-leb (from + len) layout.span out) (same_holds before now e h v q l)

  calm : (h : List Call) (r : ℕ) → r < R → Survives b h r → Within s (after b h r)
  calm h r l o = ⊎_elim (λ m. m) (λ f. stands.spread f.0 f.1 h f.2 r l) o

  at-tally : (h : List Call) (cell : ℕ → Bool) → Holds b h cell → (r : ℕ) → r < R → (c : List Bool) → Near b s (row_of b cell r) c → Near b s (after b h r).cells c
  at-tally h cell v r l c m = subst (λ (row : List Bool). Near b s row c) (v r l) m

  survivor : (h : List Call) (cell : ℕ → Bool) → Holds b h cell → (r : ℕ) → r < R → Survives b h r → Near b s (row_of b cell r) (encode (after b h r).written)
  survivor h cell v r l o = subst (λ (row : List Bool). Near b s row (encode (after b h r).written)) (sym (v r l)) (stands.in_reach h r l (calm h r l o))

  given : (r : ℕ) (cell : ℕ → Bool) (c : List Bool) → r < R → Near b s (row_of b cell r) c → ReadPromise b r cell (some (data_cells_of b c))
  given r cell c l m = record {
    honest = λ h v w d e. let f : d ≡ data_cells_of b c = cc in f ∙ stands.true_data h r l w c (at-tally h cell v r l c m);
    sure = λ h v o. ap some (stands.true_data h r l (looser b law (after b h r) (calm h r l o)) c (at-tally h cell v r l c m));
  }

  refused : (r : ℕ) (cell : ℕ → Bool) → r < R → ((c : List Bool) → Near b s (row_of b cell r) c → ⊥) → ReadPromise b r cell none × MendPromise b r cell false
  refused r cell l far = (
    record {
      honest = λ h v w d e. cc;
      sure = λ h v o. absurd (far _ (survivor h cell v r l o));
    },
    λ h v o. absurd (far _ (survivor h cell v r l o)),
  )

pub call_laws : CallLaws
call_laws b law = record {
  made = made b law;
  wrote = wrote b law;
  not_written = not_written b law;
  looked = λ r len before now e h. same_holds b law before now e h;
  mended = mended_row b law;
  not_mended = not_mended b law;
  swept = λ h now v r l. v r l ∙ ap (λ (w : Row). w.cells) (sym ((damage_laws b law).swept h r l));
  knocked = knocked_cells b law;
  not_knocked = not_knocked b law;
  given = given b law;
  refused = refused b law;
  counted = λ cell. record {
    counted = refl;
    sure = λ h v r l o. nearest-is b law (row_of b cell r) _ (row_long b law cell r) (survivor b law h cell v r l o);
  };
}
