-- What holds of a call however it ended holds whatever was answered.
use Rattle.std.proofs.Common.{ℕ, List, Ok, Err, Result}
use Rattle.refusal.specs.declared.Refusal.{Refusal}
use Rattle.answer.specs.declared.Answer.{Answer}
use Rattle.answer.specs.declared.Answer.TheVariants.{Done, Read, Count, Swept}
use Rattle.driver.specs.Answered.{Finished, Counted, Filled, Surveyed}

pub finished : (P : Result (Unit {0}) Refusal → Type 0) (Q : Type 0) → ((x : Result (Unit {0}) Refusal) → P x → Q) → (a : Result Answer Refusal) → Finished P a → Q
finished P Q f (Ok Done) m = f (Ok tt) m
finished P Q f (Err e) m = f (Err e) m
finished P Q f _ m = absurd m

pub counted : (P : Result ℕ Refusal → Type 0) (Q : Type 0) → ((x : Result ℕ Refusal) → P x → Q) → (a : Result Answer Refusal) → Counted P a → Q
counted P Q f (Ok (Count count)) m = f (Ok count) m
counted P Q f (Err e) m = f (Err e) m
counted P Q f _ m = absurd m

pub filled : (P : List ℕ → Result ℕ Refusal → Type 0) (Q : Type 0) → ((l : List ℕ) (x : Result ℕ Refusal) → P l x → Q) → (a : Result Answer Refusal) → Filled P a → Q
filled P Q f (Ok (Read byte count)) m = f _ (Ok count) m
filled P Q f (Err e) m = f _ (Err e) m
filled P Q f _ m = absurd m

pub surveyed : (P : ℕ → ℕ → ℕ → Type 0) (Q : Type 0) → ((x y z : ℕ) → P x y z → Q) → (a : Result Answer Refusal) → Surveyed P a → Q
surveyed P Q f (Ok (Swept accepted refused turned)) m = f accepted refused turned m
surveyed P Q f _ m = absurd m
