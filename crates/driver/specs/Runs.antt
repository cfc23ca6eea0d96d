-- What a run of lines leaves and gives.
use Rattle.std.specs.Prelude.{◌≡◌, ℕ, List, ◌++◌, Result}
use Rattle.book.specs.Model.{BookModel}
use Rattle.refusal.specs.declared.Refusal.{Refusal}
use Rattle.answer.specs.declared.Answer.{Answer}
use Rattle.driver.specs.Driven.{Ran}
use Rattle.driver.specs.History.{LeadsOn}

-- All the lines were run, and these are their answers.
pub record Whole (b b' : BookModel) (lines : List (List ℕ)) (answers : List (Result Answer Refusal)) : Type 0 where
  pub ran : Ran b b' lines answers
  pub history : LeadsOn b b' lines

-- Some lines from the front were run, and no other.
abbrev pub Part : BookModel → BookModel → List (List ℕ) → Type 0
Part b b' lines =
    (front : List (List ℕ)) × (rest : List (List ℕ)) × (answers : List (Result Answer Refusal)) × (lines ≡ front ++ rest) × Whole b b' front answers
