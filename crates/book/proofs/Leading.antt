-- What each call does leads on every history, and bears its promise.
use Rattle.std.proofs.Common.{◌≡◌, ℕ, ◌+◌, ◌*◌, ◌<◌, ◌≤◌, Bool, false, ◌≢◌, ◌⊎◌, List, [], ◌∷◌, length, is_ok, Ok, Err, Result, sym, refl, ap, ◌∙◌, subst, inl, inr, ⊎_elim, mul-le-mul_right, suc-mul, arith}
use mathlib.Core.Option.{none, some}
use lib.Arith.{digits_lt}
use Rattle.std.proofs.lemmas.Bool.{cases_lt, cases_order}
use Rattle.refusal.specs.Order.{Unless, Never}
use Rattle.refusal.specs.declared.Refusal.{Refusal}
use Rattle.refusal.specs.declared.Refusal.TheVariants.{Row, Length, UnusedBit}
use Rattle.bits.specs.Bits.{bit_at, Sized, Unused, Buffer}
use Rattle.memory.specs.Mem.{Mem, Unchanged, Knocked}
use Rattle.galois.specs.Lists.{tabulate}
use Rattle.galois.specs.Model.{FieldLaws}
use Rattle.galois.specs.Rows.{Few, cell_of}
use Rattle.galois.proofs.Tabulated.{length-tabulate, tabulate-cong, tabulate-get_or}
use Rattle.bch.specs.Buffers.{shown}
use Rattle.tally.specs.Tally.{Setting, Call, write, mend, knock}
use Rattle.tally.specs.Buffers.{unpacked}
use Rattle.tally.specs.Damage.{Lawful, Near}
use Rattle.tally.specs.Fields.{code_row_of, FieldCode}
use Rattle.tally.specs.Promises.{Holds, Keeps, ReadPromise, MendPromise, Only, Same, Carries}
use Rattle.tally.proofs.Buffers.{buffer-unpacked, other_unpacked}
use Rattle.tally.proofs.Carried.{call_laws}
use Rattle.tally.proofs.Fields.{field_codes}
use Rattle.book.specs.Model.{BookModel, setting_at, setting, cell, rows_of, reach_of, row_size, data_size}
use Rattle.book.specs.Calls.{row_cells, InReach, RowLaid, Blanked, Wrote, Looked, Mended, Led, Leads, ProperRead, answered}
use Rattle.field.specs.declared.Field.{Ghosts as Fields}
use Rattle.corrector.specs.declared.Corrector.{Ghosts as Correctors}
use Rattle.memory.specs.declared.Memory.{Ghosts as Memories}
use Rattle.book.specs.declared.Book.{Book}
use Rattle.book.specs.Meaning.{meaning, Kept}
use Rattle.book.specs.Promised.{WriteCall, ReadCall, MendCall, KnockCall}
use Rattle.book.proofs.Effective.{rows_room, book_lawful}

-- the figures stay as they are
pub record SameFigures (b b' : BookModel) : Type 0 where
  pub field : b'.field ≡ b.field
  pub strength : b'.strength ≡ b.strength
  pub reach : b'.reach ≡ b.reach
  pub rows : b'.rows ≡ b.rows

-- the book b with other cells
abbrev pub at : BookModel → Mem → BookModel
at b m = record { field = b.field; strength = b.strength; reach = b.reach; rows = b.rows; memory = m }

pub moved : (b : BookModel) (m m' : Mem) → SameFigures (at b m) (at b m')
moved b m m' = record { field = refl; strength = refl; reach = refl; rows = refl }

pub settings_same : (b b' : BookModel) → SameFigures b b' → b'.memory.layout ≡ b.memory.layout → setting b' ≡ setting b
settings_same b b' same e = λ x. setting_at (same.field x) (same.strength x) (same.reach x) (same.rows x) (e x)

past : (r R : ℕ) → (r < R → ⊥) → R ≤ r
past r R bad = ⊎_elim (λ l. absurd (bad l)) (λ g. g) (cases_lt r R)

module _ (b b' : BookModel) (laws : FieldLaws b.field) (few : Few b.strength) (same : SameFigures b b') where
  code : FieldCode b.field b.strength
  code = field_codes b.field laws b.strength few

  pub law : Lawful (setting b)
  law = book_lawful b laws few

  pub carries : Carries (setting b)
  carries = call_laws (setting b) law

  pub leads : (c : Call) → b'.memory.layout ≡ b.memory.layout → Keeps (setting b) c (cell b) (cell b') → Leads c b b'
  leads c e keeps h v = subst (λ (s : Setting). Holds s (c ∷ h) (cell b')) (sym (settings_same b b' same e)) (keeps h v)

  pub near : (row c : List Bool) → InReach b row c → Near (setting b) (reach_of b) row c
  near row c v = record { long = v.code.cells; coded = code.passed c v.code; close = v.close }

  pub in_reach : (row c : List Bool) → Near (setting b) (reach_of b) row c → InReach b row c
  in_reach row c v = record { code = code.tested c v.long v.coded; close = v.close }

  -- a row laid down is the only one that changed
  pub laid-only : (r : ℕ) (row : List Bool) → r < rows_of b → length row ≡ row_size b → RowLaid b b' r row → Only (setting b) r (cell b) (cell b') row
  laid-only r row l long p = record {
    here = tabulate-cong (λ j. cell b' (r * row_size b + j)) (cell_of row) (row_size b) p.here ∙ ap (tabulate (cell_of row)) (sym long) ∙ tabulate-get_or row false;
    there = λ q k ne. tabulate-cong (λ j. cell b' (q * row_size b + j)) (λ j. cell b (q * row_size b + j)) (row_size b) (λ j u. p.there (q * row_size b + j) (omega (arith, digits_lt k u, rows_room b)) (side q j u ne));
  }
    where
      side : (q j : ℕ) → j < row_size b → q ≢ r → (q * row_size b + j < r * row_size b) ⊎ (r * row_size b + row_size b ≤ q * row_size b + j)
      side q j u ne =
          ⊎_elim (λ e. absurd (ne e))
          (⊎_elim (λ lt. inl (digits_lt lt u)) (λ gt. inr (omega (arith, suc-mul r (row_size b), mul-le-mul_right (row_size b) gt))))
          (cases_order q r)

  unchanged : Unchanged b.memory b'.memory → Same (setting b) (cell b) (cell b')
  unchanged u c l = u.0.1 c (omega (arith, rows_room b))

  pub write_leads : (U : Type 0) (r : ℕ) (bytes : List ℕ) (x : Result U Refusal) → Wrote b b' r bytes x → Leads (write r bytes) b b'
  write_leads U r bytes (Ok u) m =
      let d = shown (data_size b) bytes in
      let sys = m.2.1 in
      let is : m.2.0 ≡ code_row_of b.field b.strength d =
      (code.encoded d (length-tabulate (bit_at 8 bytes) (data_size b))).only m.2.0 sys.code sys.holds in
      leads (write r bytes) m.2.2.layout
      (carries.wrote r bytes d (cell b) (cell b') (buffer-unpacked (data_size b) bytes m.1)
      (subst (λ (row : List Bool). Only (setting b) r (cell b) (cell b') row) is (laid-only r m.2.0 m.0 sys.code.cells m.2.2)))
  write_leads U r bytes (Err e) m =
      leads (write r bytes) m.1.0.0 (carries.not_written r bytes (cell b) (cell b') (why m.0) (unchanged m.1))
    where
      none' : (Buffer (data_size b) bytes → ⊥) → (rows_of b ≤ r) ⊎ (unpacked (data_size b) bytes ≡ none)
      none' bad = inr (other_unpacked (data_size b) bytes bad)

      why : Unless (r < rows_of b) Row (Unless (Sized (data_size b) bytes) Length (Unless (Unused (data_size b) bytes) UnusedBit Never)) e → (rows_of b ≤ r) ⊎ (unpacked (data_size b) bytes ≡ none)
      why w =
          ⊎_elim (λ bad. inl (past r (rows_of b) bad.0))
          (λ u. ⊎_elim (λ bad. none' (λ f. bad.0 f.sized)) (λ v. ⊎_elim (λ bad. none' (λ f. bad.0 f.unused)) (λ never. absurd never.1) v.1) u.1)
          w

  far : (r : ℕ) → (((c : List Bool) × InReach b (row_cells b r) c) → ⊥) → (c : List Bool) → Near (setting b) (reach_of b) (row_cells b r) c → ⊥
  far r bad c v = bad (c, in_reach (row_cells b r) c v)

  pub mend_leads : (r : ℕ) (x : Result ℕ Refusal) → Mended b b' r x → Leads (mend r) b b'
  mend_leads r (Ok count) m =
      leads (mend r) m.1.2.layout
      (carries.mended r m.1.0 (cell b) (cell b') (near (row_cells b r) m.1.0 m.1.1) (laid-only r m.1.0 m.0 m.1.1.code.cells m.1.2))
  mend_leads r (Err e) m =
      leads (mend r) m.1.0.0
      (carries.not_mended r (cell b) (cell b')
      (⊎_elim (λ bad. inl (past r (rows_of b) bad.0)) (λ u. ⊎_elim (λ bad. inr (far r bad.0)) (λ never. absurd never.1) u.1) m.0)
      (unchanged m.1))

  pub mend_promise : (r : ℕ) (x : Result ℕ Refusal) → Mended b b' r x → r < rows_of b → MendPromise (setting b) r (cell b) (is_ok x)
  mend_promise r (Ok count) m l = λ h v o. refl
  mend_promise r (Err e) m l =
      (carries.refused r (cell b) l
      (⊎_elim (λ bad. absurd (bad.0 l)) (λ u. ⊎_elim (λ bad. far r bad.0) (λ never. absurd never.1) u.1) m.0)).1

  pub knock_leads : (U : Type 0) (from len : ℕ) (x : Result U Refusal) → Knocked b.memory b'.memory from len x → Leads (knock from len) b b'
  knock_leads U from len (Ok u) m =
      leads (knock from len) m.1.0 (carries.knocked from len (cell b) (cell b') m.0 (λ c l. m.1.1 c (omega (arith, rows_room b))))
  knock_leads U from len (Err e) m =
      leads (knock from len) m.2.0.0 (carries.not_knocked from len (cell b) (cell b') m.0 (unchanged m.2))

-- the contracts, where the book has other cells after the call
module _ (b : BookModel) (m' : Mem) (laws : FieldLaws b.field) (few : Few b.strength) where
  pub write_call : (r : ℕ) (bytes : List ℕ) (x : Result (Unit {0}) Refusal) → Wrote b (at b m') r bytes x → WriteCall b (at b m') r bytes x
  write_call r bytes x m = record { done = m; history = write_leads b (at b m') laws few (moved b b.memory m') (Unit {0}) r bytes x m }

  pub mend_call : (r : ℕ) (x : Result ℕ Refusal) → Mended b (at b m') r x → MendCall b (at b m') r x
  mend_call r x m =
      let same = moved b b.memory m' in
      record { done = m; history = mend_leads b (at b m') laws few same r x m; promise = mend_promise b (at b m') laws few same r x m }

  pub knock_call : (from len : ℕ) (x : Result (Unit {0}) Refusal) → Knocked b.memory m' from len x → KnockCall b (at b m') from len x
  knock_call from len x m = record { done = m; history = knock_leads b (at b m') laws few (moved b b.memory m') (Unit {0}) from len x m }

pub own_figures : (b : BookModel) → SameFigures b b
own_figures b = record { field = refl; strength = refl; reach = refl; rows = refl }

module _ (b : BookModel) (laws : FieldLaws b.field) (few : Few b.strength) where
  pub blank_led : (m : Mem) → Blanked m b → Led [] b
  blank_led m p = (carries b b laws few (own_figures b)).made (cell b) (λ c l. let z : 0 + c ≡ c = omega arith in sym (ap (cell b) z) ∙ p.here c l)

  read_promise : (r : ℕ) (before after : List ℕ) (x : Result ℕ Refusal) → Looked b r before after x → ProperRead b r before → ReadPromise (setting b) r (cell b) (answered b after x)
  read_promise r before after (Ok count) m p =
      subst (λ (d : List Bool). ReadPromise (setting b) r (cell b) (some d)) (sym m.3.2)
      ((carries b b laws few (own_figures b)).given r (cell b) m.3.0 p.0 (near b b laws few (own_figures b) (row_cells b r) m.3.0 m.3.1))
  read_promise r before after (Err e) m p =
      ((carries b b laws few (own_figures b)).refused r (cell b) p.0
      (⊎_elim (λ bad. absurd (bad.0 p.0))
      (λ u. ⊎_elim (λ bad. absurd (bad.0 p.1)) (λ v. ⊎_elim (λ bad. far b b laws few (own_figures b) r bad.0) (λ never. absurd never.1) v.1) u.1)
      m.0)).0

  pub read_call : (r : ℕ) (before after : List ℕ) (x : Result ℕ Refusal) → Looked b r before after x → ReadCall b r before after x
  read_call r before after x m = record { done = m; history = λ h v. v; promise = read_promise r before after x m }

-- figures of books as values
pub kept_figures : {C M : Type 0} (field : Fields C) (corrector : Correctors C) (memory : Memories M) (x y : Book C M) → Kept x y
    → SameFigures (meaning field corrector memory x) (meaning field corrector memory y)
kept_figures field corrector memory x y k = record {
  field = ap field.model k.0;
  strength = ap corrector.strength k.0;
  reach = k.1;
  rows = k.2;
}

pub kept_self : {C M : Type 0} (x : Book C M) → Kept x x
kept_self x = (refl, refl, refl)

pub kept_on : {C M : Type 0} (x y z : Book C M) → Kept x y → Kept y z → Kept x z
kept_on x y z k l = (l.0 ∙ k.0, l.1 ∙ k.1, l.2 ∙ k.2)
