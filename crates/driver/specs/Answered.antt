-- What is answered to a call: P says what the call does for each way in which it may end, and the answer tells which way that was.
use Rattle.std.specs.Prelude.{ℕ, List, [], ◌∷◌, Ok, Err, Result}
use Rattle.refusal.specs.declared.Refusal.{Refusal}
use Rattle.answer.specs.declared.Answer.{Answer}
use Rattle.answer.specs.declared.Answer.TheVariants.{Done, Read, Count, Swept}

-- a call that has nothing to tell but that it was done, or its refusal
abbrev pub Finished : (Result (Unit {0}) Refusal → Type 0) → Result Answer Refusal → Type 0
Finished P (Ok Done) = P (Ok tt)
Finished P (Err e) = P (Err e)
Finished P _ = ⊥

-- a call that tells a count, or its refusal
abbrev pub Counted : (Result ℕ Refusal → Type 0) → Result Answer Refusal → Type 0
Counted P (Ok (Count count)) = P (Ok count)
Counted P (Err e) = P (Err e)
Counted P _ = ⊥

-- a call that fills a buffer of one byte, zero before, and tells a count; or its refusal, which leaves the buffer
abbrev pub Filled : (List ℕ → Result ℕ Refusal → Type 0) → Result Answer Refusal → Type 0
Filled P (Ok (Read byte count)) = P (byte ∷ []) (Ok count)
Filled P (Err e) = P (0 ∷ []) (Err e)
Filled P _ = ⊥

-- a call that tells three counts and is never refused
abbrev pub Surveyed : (ℕ → ℕ → ℕ → Type 0) → Result Answer Refusal → Type 0
Surveyed P (Ok (Swept accepted refused turned)) = P accepted refused turned
Surveyed P _ = ⊥
