-- One call after another.
use Rattle.std.proofs.Common.{◌≡◌, ℕ, zero, suc, ◌+◌, ◌<◌, ◌≤◌, Bool, false, List, [], ◌∷◌, ◌++◌, length, get_or, take, set, is_ok, Ok, Err, Result, sym, refl, ap, ◌∙◌, subst, ⊎_elim, arith}
use Rattle.std.proofs.lemmas.List.{take_more, take_more_set, take_all}
use Rattle.refusal.specs.declared.Refusal.{Refusal}
use Rattle.bits.specs.Bits.{Sized, Buffer}
use Rattle.tally.specs.Rows.{hits}
use Rattle.tally.specs.Tally.{Setting, nearest}
use Rattle.tally.specs.Tally.{Call as TallyCall}
use Rattle.tally.specs.Promises.{is_none, row_of}
use Rattle.book.specs.Model.{BookModel, setting, cell, rows_of, data_size}
use Rattle.book.specs.Calls.{Led, Leads, answered}
use Rattle.book.specs.Promised.{WriteCall, ReadCall, MendCall, KnockCall}
use Rattle.book.proofs.Leading.{SameFigures, settings_same}
use Rattle.history.specs.declared.Call.{Call}
use Rattle.history.specs.declared.Call.TheVariants.{Write, Read, Mend, Sweep, Knock}
use Rattle.history.specs.declared.Answer.{Answer}
use Rattle.history.specs.declared.Answer.TheVariants.{Written, Mended, Knocked}
use Rattle.history.specs.declared.Answer.TheVariants.{Read as WasRead}
use Rattle.history.specs.Runs.{room, call_of, mapped, data_in, ReadOut, Made, Promised, past, Ran, MadeAll}

-- after i calls
pub record RanTo (b b' : BookModel) (calls : List Call) (answers : List (Result Answer Refusal)) (i : ℕ) : Type 0 where
  pub made : MadeAll b b' (take i calls) (take i answers)
  pub steady : setting b' ≡ setting b
  pub held : (h : List TallyCall) → Led h b → Led (past (data_size b) (take i calls) h) b' × Ran (setting b) h (take i calls) (take i answers)

-- a read that was refused leaves its buffer
pub read_out_err : (b : BookModel) (r : ℕ) (before after : List ℕ) → Sized (data_size b) before → (e : Refusal) → ReadCall b r before after (Err e) → ReadOut b r (Err e)
read_out_err b r before after sized e m =
    let long : length before ≡ room (data_size b) = sized in
    let z : take (room (data_size b)) after ≡ after = rw m.done.1 (take_all (room (data_size b)) before (omega arith)) in
    (Err e, before, after, (sized, subst (λ (d : List ℕ). ReadCall b r before d (Err e)) (sym z) m, refl))

module _ (b b' : BookModel) where
  -- a call that was made leads on
  pub made_leads : (c : Call) (x : Result Answer Refusal) → Made b b' c x → Leads (call_of (data_size b) c) b b'
  made_leads (Write r bytes) x m = m.1.0.history
  made_leads (Read r) x m = λ h v. subst (λ (p : BookModel). Led (call_of (data_size b) (Read r) ∷ h) p) (sym m.0) v
  made_leads (Mend r) x m = m.1.0.history
  made_leads Sweep x m = m.1.0.history
  made_leads (Knock from len) x m = m.1.0.history

  -- and keeps the layout
  wrote_layout : (r : ℕ) (bytes : List ℕ) (y : Result (Unit {0}) Refusal) → WriteCall b b' r bytes y → b'.memory.layout ≡ b.memory.layout
  wrote_layout r bytes (Ok u) m = m.done.2.2.layout
  wrote_layout r bytes (Err e) m = m.done.1.0.0

  mended_layout : (r : ℕ) (y : Result ℕ Refusal) → MendCall b b' r y → b'.memory.layout ≡ b.memory.layout
  mended_layout r (Ok count) m = m.done.1.2.layout
  mended_layout r (Err e) m = m.done.1.0.0

  knocked_layout : (from len : ℕ) (y : Result (Unit {0}) Refusal) → KnockCall b b' from len y → b'.memory.layout ≡ b.memory.layout
  knocked_layout from len (Ok u) m = m.done.1.0
  knocked_layout from len (Err e) m = m.done.2.0.0

  made_layout : (c : Call) (x : Result Answer Refusal) → Made b b' c x → b'.memory.layout ≡ b.memory.layout
  made_layout (Write r bytes) x m = wrote_layout r bytes.now m.0 m.1.0
  made_layout (Read r) x m = ap (λ (p : BookModel). p.memory.layout) m.0
  made_layout (Mend r) x m = mended_layout r m.0 m.1.0
  made_layout Sweep x m = m.1.0.done.layout
  made_layout (Knock from len) x m = knocked_layout from len m.0 m.1.0

  -- and its answer is as promised
  write-promised : (r : ℕ) (bytes : List ℕ) (y : Result (Unit {0}) Refusal) → WriteCall b b' r bytes y → (r < rows_of b) × Buffer (data_size b) bytes
      → mapped (λ _. Written) y ≡ Ok Written
  write-promised r bytes (Ok u) m fit = refl
  write-promised r bytes (Err e) m fit =
      absurd (⊎_elim (λ bad. bad.0 fit.0)
      (λ u. ⊎_elim (λ bad. bad.0 fit.1.sized) (λ v. ⊎_elim (λ bad. bad.0 fit.1.unused) (λ never. never.1) v.1) u.1)
      m.done.0)

  data_read : (bytes : List ℕ) (y : Result ℕ Refusal) → data_in (data_size b) (mapped (λ turned. WasRead turned bytes) y) ≡ answered b (take (room (data_size b)) bytes) y
  data_read bytes (Ok count) = refl
  data_read bytes (Err e) = refl

  mended_ok : (y : Result ℕ Refusal) → is_ok (mapped Mended y) ≡ is_ok y
  mended_ok (Ok count) = refl
  mended_ok (Err e) = refl

  hits-none : (f : ℕ → Bool) (n : ℕ) → ((j : ℕ) → j < n → f j ≡ false) → hits f n ≡ 0
  hits-none f zero h = refl
  hits-none f (suc n) h = rw (h 0 (omega arith)) (omega (arith, hits-none (λ j. f (suc j)) n (λ j l. h (suc j) (omega arith))))

  knock-promised : (from len : ℕ) (y : Result (Unit {0}) Refusal) → KnockCall b b' from len y → from + len ≤ b.memory.layout.span
      → mapped (λ _. Knocked) y ≡ Ok Knocked
  knock-promised from len (Ok u) m fit = refl
  knock-promised from len (Err e) m fit = absurd (omega (arith, m.done.0))

  made_promised : (c : Call) (x : Result Answer Refusal) → Made b b' c x → (h : List TallyCall) → Led h b → Promised (setting b) h c x
  made_promised (Write r bytes) x m h v = λ fit. m.1.1 ∙ write-promised r bytes.now m.0 m.1.0 fit
  made_promised (Read r) x m h v = λ l.
      let out = m.1 in
      let p = out.3.1.promise (l, out.3.0) in
      let e : data_in (data_size b) x ≡ answered b (take (room (data_size b)) out.2) out.0 = ap (data_in (data_size b)) out.3.2 ∙ data_read out.2 out.0 in
      (λ w d is. p.honest h v w d (sym e ∙ is), λ o. e ∙ p.sure h v o)
  made_promised (Mend r) x m h v = λ l o. ap is_ok m.1.1 ∙ mended_ok m.0 ∙ m.1.0.promise l h v o
  made_promised Sweep x m h v =
      let p = m.1.0.promise in
      (m.0, (m.1.1, λ all. p.counted ∙ hits-none (λ r. is_none (nearest (setting b) (setting b).s (row_of (setting b) (cell b) r))) (rows_of b) (λ r l. ap is_none (p.sure h v r l (all r l)))))
  made_promised (Knock from len) x m h v = λ fit. m.1.1 ∙ knock-promised from len m.0 m.1.0 fit

-- one call more in a run
past-push : (k : ℕ) (cs : List Call) (c : Call) (h : List TallyCall) → past k (cs ++ c ∷ []) h ≡ call_of k c ∷ past k cs h
past-push k [] c h = refl
past-push k (d ∷ cs) c h = past-push k cs c (call_of k d ∷ h)

ran_push : (s : Setting) (h : List TallyCall) (cs : List Call) (xs : List (Result Answer Refusal)) (c : Call) (x : Result Answer Refusal) → Ran s h cs xs
    → Promised s (past s.k cs h) c x → Ran s h (cs ++ c ∷ []) (xs ++ x ∷ [])
ran_push s h [] [] c x ran p = (p, tt)
ran_push s h [] (y ∷ xs) c x ran p = absurd ran
ran_push s h (d ∷ cs) [] c x ran p = absurd ran
ran_push s h (d ∷ cs) (y ∷ xs) c x ran p = (ran.0, ran_push s (call_of s.k d ∷ h) cs xs c x ran.1 p)

made_push : (b b' b'' : BookModel) (cs : List Call) (xs : List (Result Answer Refusal)) (c : Call) (x : Result Answer Refusal) → MadeAll b b' cs xs
    → Made b' b'' c x → MadeAll b b'' (cs ++ c ∷ []) (xs ++ x ∷ [])
made_push b b' b'' [] [] c x all m = (b'', (subst (λ (p : BookModel). Made p b'' c x) all m, refl))
made_push b b' b'' [] (y ∷ xs) c x all m = absurd all
made_push b b' b'' (d ∷ cs) [] c x all m = absurd all
made_push b b' b'' (d ∷ cs) (y ∷ xs) c x all m = (all.0, (all.1.0, made_push all.0 b' b'' cs xs c x all.1.1 m))

pub ran_more : (b b' b'' : BookModel) (calls : List Call) (answers : List (Result Answer Refusal)) (i : ℕ) (d c : Call) (x : Result Answer Refusal)
    → SameFigures b' b'' → i < length calls → length answers ≡ length calls → c ≡ get_or calls i d → Made b' b'' c x
    → RanTo b b' calls answers i → RanTo b b'' calls (set answers i x) (i + 1)
ran_more b b' b'' calls answers i d c x same l long is made ran =
    let k = data_size b in
    let more : take (i + 1) calls ≡ take i calls ++ c ∷ [] = take_more calls i d l ∙ ap (λ (e : Call). take i calls ++ e ∷ []) (sym is) in
    let filled : take (i + 1) (set answers i x) ≡ take i answers ++ x ∷ [] = take_more_set answers i x (omega arith) in
    let both : (P : List Call → List (Result Answer Refusal) → Type 0) → P (take i calls ++ c ∷ []) (take i answers ++ x ∷ []) → P (take (i + 1) calls) (take (i + 1) (set answers i x)) =
    λ P p. subst (λ (cs : List Call). P cs (take (i + 1) (set answers i x))) (sym more) (subst (λ (xs : List (Result Answer Refusal)). P (take i calls ++ c ∷ []) xs) (sym filled) p) in
    record {
      made = both (MadeAll b b'') (made_push b b' b'' (take i calls) (take i answers) c x ran.made made);
      steady = settings_same b' b'' same (made_layout b' b'' c x made) ∙ ran.steady;
      held = λ h v.
          let so_far = ran.held h v in
          let next : Led (call_of k c ∷ past k (take i calls) h) b'' =
          subst (λ (q : ℕ). Led (call_of q c ∷ past k (take i calls) h) b'') (ap (λ (s : Setting). s.k) ran.steady) (made_leads b' b'' c x made (past k (take i calls) h) so_far.0) in
          let promised : Promised (setting b) (past k (take i calls) h) c x =
          subst (λ (s : Setting). Promised s (past k (take i calls) h) c x) ran.steady (made_promised b' b'' c x made (past k (take i calls) h) so_far.0) in
          both (λ cs xs. Led (past k cs h) b'' × Ran (setting b) h cs xs) (
            subst (λ (g : List TallyCall). Led g b'') (sym (past-push k (take i calls) c h)) next,
            ran_push (setting b) h (take i calls) (take i answers) c x so_far.1 promised,
          );
    }

pub ran_all : (b b' : BookModel) (calls : List Call) (answers : List (Result Answer Refusal)) (i : ℕ) → length calls ≤ i → length answers ≡ length calls
    → RanTo b b' calls answers i
    → MadeAll b b' calls answers × ((h : List TallyCall) → Led h b → Led (past (data_size b) calls h) b' × Ran (setting b) h calls answers)
ran_all b b' calls answers i l long ran =
    let all : (P : List Call → List (Result Answer Refusal) → Type 0) → P (take i calls) (take i answers) → P calls answers =
    λ P p. subst (λ (xs : List (Result Answer Refusal)). P calls xs) (take_all i answers (omega arith)) (subst (λ (cs : List Call). P cs (take i answers)) (take_all i calls l) p) in
    (all (MadeAll b b') ran.made, λ h v. all (λ cs xs. Led (past (data_size b) cs h) b' × Ran (setting b) h cs xs) (ran.held h v))
