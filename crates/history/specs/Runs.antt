-- Calls as values, what they answer, and what is promised of every answer in a list of calls.
use Rattle.std.specs.Prelude.{◌≡◌, ℕ, ◌+◌, ◌-◌, ◌*◌, ◌/◌, ◌<◌, ◌≤◌, Bool, true, List, [], ◌∷◌, length, take, is_ok, Ok, Err, Result, ◌≢◌}
use Rattle.std.proofs.Math.Option.{Option, none, some}
use Rattle.refusal.specs.declared.Refusal.{Refusal}
use Rattle.refusal.specs.declared.Refusal.TheVariants.{Length}
use Rattle.bits.specs.Bits.{Sized, Buffer}
use Rattle.bch.specs.Buffers.{shown}
use Rattle.tally.specs.Tally.{Setting, write, read, mend, sweep, knock, after}
use Rattle.tally.specs.Tally.{Call as TallyCall}
use Rattle.tally.specs.Damage.{Within}
use Rattle.tally.specs.Promises.{Survives}
use Rattle.history.specs.declared.Call.{Call}
use Rattle.history.specs.declared.Call.TheVariants.{Write, Read, Mend, Sweep, Knock}
use Rattle.history.specs.declared.Answer.{Answer}
use Rattle.history.specs.declared.Answer.TheVariants.{Written, Mended, Swept, Knocked}
use Rattle.history.specs.declared.Answer.TheVariants.{Read as WasRead}
use Rattle.book.specs.declared.SweepCounts.{SweepCounts}
use Rattle.book.specs.Model.{BookModel, setting, data_size}
use Rattle.book.specs.Calls.{Led}
use Rattle.book.specs.Promised.{WriteCall, ReadCall, MendCall, SweepCall, KnockCall}

-- the bytes of a data buffer
abbrev pub room : ℕ → ℕ
room k = (k + 7) / 8

-- the call of the tally that a call is, on rows of k data cells
abbrev pub call_of : ℕ → Call → TallyCall
call_of k (Write r bytes) = write r bytes.now
call_of k (Read r) = read r (room k)
call_of k (Mend r) = mend r
call_of k Sweep = sweep
call_of k (Knock from len) = knock from len

-- an accepted answer, as a value
abbrev pub mapped : {A : Type 0} → (A → Answer) → Result A Refusal → Result Answer Refusal
mapped f (Ok x) = Ok (f x)
mapped f (Err e) = Err e

-- ONE CALL: what it does, and its answer. The data of a read stand in the first bytes of the answer.
abbrev pub ReadOut : BookModel → ℕ → Result Answer Refusal → Type 0
ReadOut b r x =
    (y : Result ℕ Refusal) × (before : List ℕ) × (bytes : List ℕ)
    × (Sized (data_size b) before × ReadCall b r before (take (room (data_size b)) bytes) y × (x ≡ mapped (λ turned. WasRead turned bytes) y))

abbrev pub Made : BookModel → BookModel → Call → Result Answer Refusal → Type 0
Made b b' (Write r bytes) x = (y : Result (Unit {0}) Refusal) × (WriteCall b b' r bytes.now y × (x ≡ mapped (λ _. Written) y))
Made b b' (Read r) x = (b' ≡ b) × ReadOut b r x
Made b b' (Mend r) x = (y : Result ℕ Refusal) × (MendCall b b' r y × (x ≡ mapped Mended y))
Made b b' Sweep x = (n : SweepCounts) × (SweepCall b b' n.accepted n.refused n.turned × (x ≡ Ok (Swept n)))
Made b b' (Knock from len) x = (y : Result (Unit {0}) Refusal) × (KnockCall b b' from len y × (x ≡ mapped (λ _. Knocked) y))

-- the data in an answer
abbrev pub data_in : ℕ → Result Answer Refusal → Option (List Bool)
data_in k (Ok Written) = none
data_in k (Ok (WasRead turned bytes)) = some (shown k (take (room k) bytes))
data_in k (Ok (Mended turned)) = none
data_in k (Ok (Swept n)) = none
data_in k (Ok Knocked) = none
data_in k (Err e) = none

-- THE PROMISE of the answer x to a call made after the calls h, the last one first, on a book made blank. The calls that a row survives are
-- those that left no stretch of it over s, or on an interleaved memory at most one accepted knock of at most d * s cells between sweeps.
abbrev pub Promised : Setting → List TallyCall → Call → Result Answer Refusal → Type 0
Promised s h (Write r bytes) x = (r < s.R) × Buffer s.k bytes.now → x ≡ Ok Written
Promised s h (Read r) x =
    r < s.R
    → (Within (2 * s.t - s.s) (after s h r) → (d : List Bool) → data_in s.k x ≡ some d → d ≡ (after s h r).written)
    × (Survives s h r → data_in s.k x ≡ some (after s h r).written)
Promised s h (Mend r) x = r < s.R → Survives s h r → is_ok x ≡ true
Promised s h Sweep x = (n : SweepCounts) × ((x ≡ Ok (Swept n)) × (((r : ℕ) → r < s.R → Survives s h r) → n.refused ≡ 0))
Promised s h (Knock from len) x = from + len ≤ s.layout.span → x ≡ Ok Knocked

-- WHOLE RUNS. The history after a list of calls, the first one made first
abbrev pub past : ℕ → List Call → List TallyCall → List TallyCall
past k [] h = h
past k (c ∷ cs) h = past k cs (call_of k c ∷ h)

-- each call of a list has its answer, as promised after the calls before it
abbrev pub Ran : Setting → List TallyCall → List Call → List (Result Answer Refusal) → Type 0
Ran s h [] [] = Unit {0}
Ran s h [] (x ∷ xs) = ⊥
Ran s h (c ∷ cs) [] = ⊥
Ran s h (c ∷ cs) (x ∷ xs) = Promised s h c x × Ran s (call_of s.k c ∷ h) cs xs

-- each call of a list is made on the book that the one before left
abbrev pub MadeAll : BookModel → BookModel → List Call → List (Result Answer Refusal) → Type 0
MadeAll b b' [] [] = b' ≡ b
MadeAll b b' [] (x ∷ xs) = ⊥
MadeAll b b' (c ∷ cs) [] = ⊥
MadeAll b b' (c ∷ cs) (x ∷ xs) = (next : BookModel) × (Made b next c x × MadeAll next b' cs xs)

-- A list of calls, made where each has a place for its answer: whatever led to the book before, with these calls leads to the book after, and
-- each answer is as promised. Else nothing changes
abbrev pub Replayed : {U : Type 0} → BookModel → BookModel → List Call → (before after : List (Result Answer Refusal)) → Result U Refusal → Type 0
Replayed b b' calls before after (Ok u) =
    (length before ≡ length calls) × MadeAll b b' calls after
    × ((h : List TallyCall) → Led h b → Led (past (data_size b) calls h) b' × Ran (setting b) h calls after)
Replayed b b' calls before after (Err e) =
    (e ≡ Length) × (length before ≢ length calls) × (b' ≡ b) × (after ≡ before)
