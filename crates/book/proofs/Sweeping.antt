-- One mend after another is a sweep.
use Rattle.std.proofs.Common.{◌≡◌, ℕ, zero, suc, ◌+◌, ◌*◌, ◌<◌, ◌≤◌, Bool, cond, ◌≢◌, ◌⊎◌, List, ◌∷◌, ◌++◌, Ok, Err, Result, sym, refl, ap, ◌∙◌, subst, inl, inr, ⊎_elim, add-one, arith}
use lib.Arith.{digits_lt}
use Rattle.std.proofs.lemmas.Bool.{cases_eq}
use Rattle.refusal.specs.declared.Refusal.{Refusal}
use Rattle.memory.specs.Mem.{Layout, Mem}
use Rattle.galois.specs.Model.{FieldLaws}
use Rattle.galois.specs.Rows.{Few, distance}
use Rattle.galois.proofs.Tabulated.{length-tabulate, tabulate-cong}
use Rattle.tally.specs.Rows.{hits, total}
use Rattle.tally.specs.Tally.{Setting, Call, mend, sweep, nearest}
use Rattle.tally.specs.Damage.{mends}
use Rattle.tally.specs.Promises.{is_none, Holds}
use Rattle.tally.proofs.Carried.{nearest-is, nearest-none}
use Rattle.tally.proofs.Knocks.{distance_self}
use Rattle.book.specs.Model.{BookModel, setting, cell, rows_of, reach_of, row_size}
use Rattle.book.specs.Calls.{row_cells, InReach, SweptRow, Mended, Swept, Led}
use Rattle.book.specs.Promised.{SweepCall}
use Rattle.book.proofs.Effective.{rows_room, row_ends}
use Rattle.book.proofs.Leading.{SameFigures, at, moved, settings_same, own_figures, law, carries, leads, near, in_reach, laid-only, mend_leads}

-- counts that go up by one
hits_more : (f : ℕ → Bool) (i : ℕ) → hits f (suc i) ≡ hits f i + cond (f i) 1 0
hits_more f zero = omega arith
hits_more f (suc i) = omega (arith, hits_more (λ j. f (suc j)) i)

hits_next : (f : ℕ → Bool) (i x : ℕ) → cond (f i) 1 0 ≡ x → hits f (i + 1) ≡ hits f i + x
hits_next f i x e = rw add-one (hits_more f i ∙ ap (λ y. hits f i + y) e)

total-more : (f : ℕ → ℕ) (i : ℕ) → total f (suc i) ≡ total f i + f i
total-more f zero = omega arith
total-more f (suc i) = omega (arith, total-more (λ j. f (suc j)) i)

total-same : (f g : ℕ → ℕ) (n : ℕ) → ((j : ℕ) → j < n → f j ≡ g j) → total f n ≡ total g n
total-same f g zero h = refl
total-same f g (suc n) h = omega (arith, h 0 (omega arith), total-same (λ j. f (suc j)) (λ j. g (suc j)) n (λ j l. h (suc j) (omega arith)))

total-next : (f g : ℕ → ℕ) (i x : ℕ) → ((j : ℕ) → j < i → f j ≡ g j) → f i ≡ x → total f (i + 1) ≡ total g i + x
total-next f g i x h e = rw add-one (omega (arith, total-more f i, total-same f g i h))

pub is_at : (b b' : BookModel) → SameFigures b b' → b' ≡ at b b'.memory
is_at b b' same = λ x. record { field = same.field x; strength = same.strength x; reach = same.reach x; rows = same.rows x; memory = b'.memory }

-- what became of a row
abbrev Became : BookModel → ℕ → List Bool → Type 0
Became b r row = InReach b (row_cells b r) row ⊎ (((c : List Bool) → InReach b (row_cells b r) c → ⊥) × (row ≡ row_cells b r))

-- the rows below i are mended
pub record SweptTo (b : BookModel) (m : Mem) (i accepted refused turned : ℕ) : Type 0 where
  pub layout : m.layout ≡ b.memory.layout
  pub held : (h : List Call) → Led h b → Holds (setting b) (mends i ++ h) m.bit
  pub rows : (r : ℕ) → r < i → SweptRow b (at b m) r
  pub rest : (q : ℕ) → i ≤ q → q < rows_of b → row_cells (at b m) q ≡ row_cells b q
  pub there : (c : ℕ) → c < b.memory.layout.cells → rows_of b * row_size b ≤ c → m.bit c ≡ b.memory.bit c
  pub beneath : (x : ℕ) → x < b.memory.layout.bottom.cells
      → ((c : ℕ) → c < rows_of b * row_size b → b.memory.layout.bottom.place x ≡ b.memory.layout.place c → ⊥) → m.held x ≡ b.memory.held x
  pub all : accepted + refused ≡ i
  pub far : refused ≡ hits (λ r. is_none (nearest (setting b) (reach_of b) (row_cells b r))) i
  pub changed : turned ≡ total (λ r. distance (row_cells b r) (row_cells (at b m) r)) i

module _ (b : BookModel) (laws : FieldLaws b.field) (few : Few b.strength) (m m' : Mem) (i accepted refused turned : ℕ) (l : i < rows_of b)
    (w : SweptTo b m i accepted refused turned) where
  same_setting : setting (at b m) ≡ setting b
  same_setting = settings_same b (at b m) (moved b b.memory m) w.layout

  -- the reach and the rows are those of b
  as_here : (row c : List Bool) → InReach (at b m) row c → InReach b row c
  as_here row c v = record { code = v.code; close = omega (arith, v.close, ap (λ (s : Setting). s.s) same_setting) }

  as_there : (row c : List Bool) → InReach b row c → InReach (at b m) row c
  as_there row c v = record { code = v.code; close = omega (arith, v.close, ap (λ (s : Setting). s.s) same_setting) }

  here_row : row_cells (at b m) i ≡ row_cells b i
  here_row = w.rest i (omega arith) l

  l' : i < rows_of (at b m)
  l' = omega (arith, ap (λ (s : Setting). s.R) same_setting)

  -- a history led on by a mend of row i
  held_on : (x : Result ℕ Refusal) → Mended (at b m) (at b m') i x → m'.layout ≡ m.layout → (h : List Call) → Led h b → Holds (setting b) (mends (i + 1) ++ h) m'.bit
  held_on x done e h v =
      let before : Led (mends i ++ h) (at b m) = subst (λ (s : Setting). Holds s (mends i ++ h) m.bit) (sym same_setting) (w.held h v) in
      let after : Holds (setting (at b m')) (mend i ∷ (mends i ++ h)) m'.bit = mend_leads (at b m) (at b m') laws few (moved b m m') i x done (mends i ++ h) before in
      let both : setting (at b m') ≡ setting b = settings_same b (at b m') (moved b b.memory m') (e ∙ w.layout) in
      rw add-one (subst (λ (s : Setting). Holds s (mend i ∷ (mends i ++ h)) m'.bit) both after)

  -- rows past and before row i, where only row i changed
  module _ (others : (q : ℕ) → q < rows_of b → q ≢ i → row_cells (at b m') q ≡ row_cells (at b m) q) where
    rows_on : Became b i (row_cells (at b m') i) → (q : ℕ) → q < i + 1 → SweptRow b (at b m') q
    rows_on here q k =
        ⊎_elim
        (λ (e : q ≡ i). subst (λ (p : ℕ). Became b p (row_cells (at b m') p)) (sym e) here)
        (λ ne. subst (λ (row : List Bool). Became b q row) (sym (others q (omega arith) ne)) (w.rows q (omega arith)))
        (cases_eq q i)

    rest_on : (q : ℕ) → i + 1 ≤ q → q < rows_of b → row_cells (at b m') q ≡ row_cells b q
    rest_on q k u = others q u (λ e. omega arith) ∙ w.rest q (omega arith) u

    changed-on : (x : ℕ) → distance (row_cells b i) (row_cells (at b m') i) ≡ x
        → turned + x ≡ total (λ r. distance (row_cells b r) (row_cells (at b m') r)) (i + 1)
    changed-on x e =
        sym (total-next (λ r. distance (row_cells b r) (row_cells (at b m') r)) (λ r. distance (row_cells b r) (row_cells (at b m) r)) i x
        (λ j k. ap (distance (row_cells b j)) (others j (omega arith) (λ z. omega arith))) e ∙ ap (λ y. y + x) (sym w.changed))

  swept_done : (count : ℕ) → Mended (at b m) (at b m') i (Ok count) → SweptTo b m' (i + 1) (accepted + 1) refused (turned + count)
  swept_done count done =
      let code = done.1.0 in
      let reach : InReach b (row_cells b i) code = subst (λ (row : List Bool). InReach b row code) here_row (as_here (row_cells (at b m) i) code done.1.1) in
      let laid = done.1.2 in
      let only = laid-only (at b m) (at b m') laws few (moved b m m') i code l' done.1.1.code.cells laid in
      let others : (q : ℕ) → q < rows_of b → q ≢ i → row_cells (at b m') q ≡ row_cells (at b m) q =
      λ q u ne. only.there q (omega (arith, ap (λ (s : Setting). s.R) same_setting)) ne in
      let here : Became b i (row_cells (at b m') i) = inl (subst (λ (row : List Bool). InReach b (row_cells b i) row) (sym only.here) reach) in
      let found = nearest-is (setting b) (law b b laws few (own_figures b)) (row_cells b i) code (length-tabulate _ (row_size b)) (near b b laws few (own_figures b) (row_cells b i) code reach) in
      record {
        layout = laid.layout ∙ w.layout;
        held = held_on (Ok count) done laid.layout;
        rows = rows_on others here;
        rest = rest_on others;
        there = λ c k past. laid.there c (omega (arith, ap (λ (y : Layout). y.cells) w.layout)) (inr (omega (arith, row_ends b i l))) ∙ w.there c k past;
        beneath = λ x k away.
            laid.beneath x (omega (arith, ap (λ (y : Layout). y.bottom.cells) w.layout))
            (λ j u z. away (i * row_size b + j) (omega (arith, row_ends b i l))
            (sym (ap (λ (y : Layout). y.bottom.place x) w.layout) ∙ z ∙ ap (λ (y : Layout). y.place (i * row_size b + j)) w.layout))
            ∙ w.beneath x k away;
        all = omega (arith, w.all);
        far = omega (arith, w.far, hits_next (λ r. is_none (nearest (setting b) (reach_of b) (row_cells b r))) i 0 (ap (λ o. cond (is_none o) 1 0) found));
        changed = changed-on others count (ap (distance (row_cells b i)) only.here ∙ ap (λ (row : List Bool). distance row code) (sym here_row) ∙ sym done.1.3);
      }

  swept_lost : (e : Refusal) → Mended (at b m) (at b m') i (Err e) → SweptTo b m' (i + 1) accepted (refused + 1) turned
  swept_lost e done =
      let same = done.1 in
      let lost : (c : List Bool) → InReach b (row_cells b i) c → ⊥ =
      λ c v.
      ⊎_elim (λ bad. bad.0 l')
      (λ u. ⊎_elim (λ bad. bad.0 (c, as_there (row_cells (at b m) i) c (subst (λ (row : List Bool). InReach b row c) (sym here_row) v))) (λ never. never.1) u.1)
      done.0 in
      let each : (q : ℕ) → q < rows_of b → row_cells (at b m') q ≡ row_cells (at b m) q =
      λ q u. tabulate-cong (λ j. m'.bit (q * row_size b + j)) (λ j. m.bit (q * row_size b + j)) (row_size b)
      (λ j k. same.0.1 (q * row_size b + j) (omega (arith, digits_lt u k, rows_room b, ap (λ (y : Layout). y.cells) w.layout))) in
      let others : (q : ℕ) → q < rows_of b → q ≢ i → row_cells (at b m') q ≡ row_cells (at b m) q = λ q u ne. each q u in
      let kept : row_cells (at b m') i ≡ row_cells b i = each i l ∙ here_row in
      let None-found = nearest-none (setting b) (law b b laws few (own_figures b)) (row_cells b i) (λ c v. lost c (in_reach b b laws few (own_figures b) (row_cells b i) c v)) in
      let zero-turned = changed-on others 0 (ap (distance (row_cells b i)) kept ∙ distance_self (row_cells b i)) in
      record {
        layout = same.0.0 ∙ w.layout;
        held = held_on (Err e) done same.0.0;
        rows = rows_on others (inr (lost, kept));
        rest = rest_on others;
        there = λ c k past. same.0.1 c (omega (arith, ap (λ (y : Layout). y.cells) w.layout)) ∙ w.there c k past;
        beneath = λ x k away. same.1 x (omega (arith, ap (λ (y : Layout). y.bottom.cells) w.layout)) ∙ w.beneath x k away;
        all = omega (arith, w.all);
        far = omega (arith, w.far, hits_next (λ r. is_none (nearest (setting b) (reach_of b) (row_cells b r))) i 1 (ap (λ o. cond (is_none o) 1 0) None-found));
        changed = omega (arith, zero-turned);
      }

-- one turn of a sweep
module _ (b b' b'' : BookModel) (laws : FieldLaws b.field) (few : Few b.strength) (same : SameFigures b b') (same' : SameFigures b b'')
    (i accepted refused turned : ℕ) (l : i < rows_of b) (w : SweptTo b b'.memory i accepted refused turned) where
  as_at : (x : Result ℕ Refusal) → Mended b' b'' i x → Mended (at b b'.memory) (at b b''.memory) i x
  as_at x done =
      subst (λ (p : BookModel). Mended p (at b b''.memory) i x) (is_at b b' same)
      (subst (λ (p : BookModel). Mended b' p i x) (is_at b b'' same') done)

  pub swept_more : (count : ℕ) → Mended b' b'' i (Ok count) → SweptTo b b''.memory (i + 1) (accepted + 1) refused (turned + count)
  swept_more count done = swept_done b laws few b'.memory b''.memory i accepted refused turned l w count (as_at (Ok count) done)

  pub swept_less : (e : Refusal) → Mended b' b'' i (Err e) → SweptTo b b''.memory (i + 1) accepted (refused + 1) turned
  swept_less e done = swept_lost b laws few b'.memory b''.memory i accepted refused turned l w e (as_at (Err e) done)

-- all rows swept
pub sweep_call : (b b' : BookModel) → FieldLaws b.field → Few b.strength → SameFigures b b' → (accepted refused turned : ℕ)
    → SweptTo b b'.memory (rows_of b) accepted refused turned → SweepCall b b' accepted refused turned
sweep_call b b' laws few same accepted refused turned w = record {
  done = subst (λ (p : BookModel). Swept b p accepted refused turned) (sym (is_at b b' same)) (record {
    layout = w.layout;
    rows = w.rows;
    there = w.there;
    beneath = w.beneath;
    all = w.all;
    far = w.far;
    changed = w.changed;
  });
  history = leads b b' laws few same sweep w.layout (λ h v. (carries b b laws few (own_figures b)).swept h b'.memory.bit (w.held h v));
  promise = record {
    counted = w.far;
    sure = ((carries b b laws few (own_figures b)).counted (cell b)).sure;
  };
}
