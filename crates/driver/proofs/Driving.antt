-- Lines that were run lead on every history.
use Rattle.std.proofs.Common.{ℕ, List, [], ◌∷◌, Result, sym, refl, subst, inl, inr}
use Rattle.tally.specs.Tally.{Call}
use Rattle.book.specs.Model.{BookModel}
use Rattle.book.specs.Calls.{Led, Leads}
use Rattle.book.specs.Promised.{WriteCall, ReadCall, MendCall, SweepCall, KnockCall}
use Rattle.line.specs.declared.command.Command.{Command}
use Rattle.line.specs.declared.command.Command.TheVariants.{Write, Read, Knock, Mend, Sweep}
use Rattle.refusal.specs.declared.Refusal.{Refusal}
use Rattle.answer.specs.declared.Answer.{Answer}
use Rattle.driver.specs.Driven.{Made, Driven, Ran}
use Rattle.driver.specs.History.{call_of, Adds, LeadsOn}
use Rattle.driver.proofs.Telling.{finished, counted, filled, surveyed}

module _ (b b' : BookModel) where
  -- every command that was made leads on each history
  pub made_leads : (c : Command) (a : Result Answer Refusal) → Made b b' c a → Leads (call_of c) b b'
  made_leads (Write row byte) a m = finished (WriteCall b b' row (byte ∷ [])) _ (λ x w. w.history) a m
  made_leads (Read row) a m =
      subst (λ (x : BookModel). Leads (call_of (Read row)) b x) (sym m.1) (filled (ReadCall b row (0 ∷ [])) _ (λ l x r. r.history) a m.0)
  made_leads (Knock from len) a m = finished (KnockCall b b' from len) _ (λ x k. k.history) a m
  made_leads (Mend row) a m = counted (MendCall b b' row) _ (λ x w. w.history) a m
  made_leads Sweep a m = surveyed (SweepCall b b') _ (λ x y z w. w.history) a m

  -- what a line did to the history
  pub line_leads : (s : List ℕ) (a : Result Answer Refusal) → Driven b b' s a → (h : List Call) → Led h b → ((j : List Call) × Adds s h j × Led j b')
  line_leads s a (inl p) h led = (call_of p.0 ∷ h, inl (p.0, p.1, refl), made_leads p.0 a p.2 h led)
  line_leads s a (inr p) h led = (h, inr (p.0, refl), subst (λ (x : BookModel). Led h x) (sym p.2) led)

  pub one_leads : (s : List ℕ) (a : Result Answer Refusal) → Driven b b' s a → LeadsOn b b' (s ∷ [])
  one_leads s a d h led = let w = line_leads s a d h led in (w.0, (w.0, w.1, refl), w.2)

pub ran_leads : (b b' : BookModel) (lines : List (List ℕ)) (answers : List (Result Answer Refusal)) → Ran b b' lines answers → LeadsOn b b' lines
ran_leads b b' [] [] e h led = (h, refl, subst (λ (x : BookModel). Led h x) (sym e) led)
ran_leads b b' [] (a ∷ rest) e h led = absurd e
ran_leads b b' (s ∷ lines) [] e h led = absurd e
ran_leads b b' (s ∷ lines) (a ∷ rest) e h led =
    let w = line_leads b e.0 s a e.2 h led in
    let v = ran_leads e.0 b' lines rest e.3 w.0 w.2 in
    (v.0, (w.0, w.1, v.1), v.2)
