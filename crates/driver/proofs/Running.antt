-- A run that is under way: so many lines from the front were run, and the others are left.
use Rattle.std.proofs.Common.{◌≡◌, ℕ, List, [], ◌∷◌, ◌++◌, Result, sym, refl, ap, ◌∙◌, subst}
use Rattle.field.specs.declared.Field.{Ghosts as Fields}
use Rattle.corrector.specs.declared.Corrector.{Ghosts as Correctors}
use Rattle.memory.specs.declared.Memory.{Ghosts as Memories}
use Rattle.book.specs.declared.Book.{Book}
use Rattle.book.specs.Meaning.{meaning, Kept}
use Rattle.book.specs.Model.{BookModel}
use Rattle.refusal.specs.declared.Refusal.{Refusal}
use Rattle.answer.specs.declared.Answer.{Answer}
use Rattle.driver.specs.Driven.{SameFigures, Driven, Ran}
use Rattle.driver.specs.Runs.{Whole, Part}
use Rattle.driver.proofs.Driving.{ran_leads}

-- from the book b, of the lines `all` those before `left` were run, with the answers `told`, and left the book m
abbrev pub UnderWay : BookModel → List (List ℕ) → BookModel → List (List ℕ) → List (Result Answer Refusal) → Type 0
UnderWay b all m left told = (front : List (List ℕ)) × (all ≡ front ++ left) × Ran b m front told

pub same_figures : {C M : Type 0} (field : Fields C) (corrector : Correctors C) (memory : Memories M) (x y : Book C M)
    → Kept x y → SameFigures (meaning field corrector memory x) (meaning field corrector memory y)
same_figures field corrector memory x y k = (ap field.model k.0, ap corrector.strength k.0, k.1, k.2)

assoc : (x : List (List ℕ)) (s : List ℕ) (y : List (List ℕ)) → (x ++ (s ∷ [])) ++ y ≡ x ++ (s ∷ y)
assoc [] s y = refl
assoc (z ∷ x) s y = ap (λ (w : List (List ℕ)). z ∷ w) (assoc x s y)

no_more : (x : List (List ℕ)) → x ++ [] ≡ x
no_more [] = refl
no_more (z ∷ x) = ap (λ (w : List (List ℕ)). z ∷ w) (no_more x)

-- one line more
ran_on : (b m m' : BookModel) (front : List (List ℕ)) (told : List (Result Answer Refusal)) (s : List ℕ) (a : Result Answer Refusal)
    → Ran b m front told → SameFigures m m' → Driven m m' s a → Ran b m' (front ++ (s ∷ [])) (told ++ (a ∷ []))
ran_on b m m' [] [] s a e f d = (m', subst (λ (x : BookModel). SameFigures x m') e f, subst (λ (x : BookModel). Driven x m' s a) e d, refl)
ran_on b m m' [] (x ∷ told) s a e f d = absurd e
ran_on b m m' (l ∷ front) [] s a e f d = absurd e
ran_on b m m' (l ∷ front) (x ∷ told) s a e f d = (e.0, e.1, e.2, ran_on e.0 m m' front told s a e.3 f d)

whole : (b m : BookModel) (lines : List (List ℕ)) (told : List (Result Answer Refusal)) → Ran b m lines told → Whole b m lines told
whole b m lines told r = record { ran = r; history = ran_leads b m lines told r }

module _ (b : BookModel) (all : List (List ℕ)) where
  pub begins : (left : List (List ℕ)) → left ≡ all → UnderWay b all b left []
  begins left same = ([], sym same, refl)

  pub goes_on : (m m' : BookModel) (left left' : List (List ℕ)) (s : List ℕ) (told told' : List (Result Answer Refusal)) (a : Result Answer Refusal)
      → UnderWay b all m left told → left ≡ s ∷ left' → SameFigures m m' → Driven m m' s a → told' ≡ told ++ (a ∷ []) → UnderWay b all m' left' told'
  goes_on m m' left left' s told told' a way first f d longer =
      let front = way.0 in (
        front ++ (s ∷ []),
        way.1 ∙ ap (λ (x : List (List ℕ)). front ++ x) first ∙ sym (assoc front s left'),
        subst (λ (x : List (Result Answer Refusal)). Ran b m' (front ++ (s ∷ [])) x) (sym longer) (ran_on b m m' front told s a way.2 f d),
      )

  pub ends : (m : BookModel) (left : List (List ℕ)) (told : List (Result Answer Refusal)) → UnderWay b all m left told → left ≡ [] → Whole b m all told
  ends m left told way none =
      let front = way.0 in
      let e : front ≡ all = sym (way.1 ∙ ap (λ (x : List (List ℕ)). front ++ x) none ∙ no_more front) in
      whole b m all told (subst (λ (x : List (List ℕ)). Ran b m x told) e way.2)

  pub stops : (m : BookModel) (left : List (List ℕ)) (told : List (Result Answer Refusal)) → UnderWay b all m left told → Part b m all
  stops m left told way = (way.0, left, told, way.1, whole b m way.0 told way.2)
