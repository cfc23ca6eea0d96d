-- The search through every row finds what there is.
use Rattle.std.proofs.Common.{◌≡◌, ℕ, zero, suc, Bool, true, false, cond, ◌&&◌, leb, List, [], ◌∷◌, ◌++◌, map, length, refl, ap, subst, arith}
use mathlib.Core.Option.{Option, none, some}
use Rattle.std.specs.List.{AllByRecursion}
use Rattle.std.proofs.ByRecursion.{All-append, All-map, All-weaker}
use Rattle.std.proofs.lemmas.Bool.{and_parts, and_from, leb-true, le-leb, both_ways}
use Rattle.galois.specs.Rows.{distance}
use Rattle.tally.specs.Rows.{every, first}
use Rattle.tally.specs.Tally.{Setting, nearest}
use Rattle.tally.specs.Damage.{Near}

module _ {A : Type 0} (p : A → Bool) where
  found_step : (P : A → Type 0) (x a : A) (rest : Option A) → P x → (rest ≡ some a → P a × (p a ≡ true)) → (h : Bool) → p x ≡ h → cond h (some x) rest ≡ some a → P a × (p a ≡ true)
  found_step P x a rest here there true is e = let q : x ≡ a = cc in subst (λ y. P y × (p y ≡ true)) q (here, is)
  found_step P x a rest here there false is e = there e

  pub first_found : (P : A → Type 0) (xs : List A) (a : A) → AllByRecursion P xs → first p xs ≡ some a → P a × (p a ≡ true)
  first_found P [] a all e = cc
  first_found P (x ∷ xs) a all e = found_step P x a (first p xs) all.0 (first_found P xs a all.1) (p x) refl e

  none_step : (x : A) (xs : List A) → (first p xs ≡ none → AllByRecursion (λ a. p a ≡ false) xs) → (h : Bool) → p x ≡ h → cond h (some x) (first p xs) ≡ none → AllByRecursion (λ a. p a ≡ false) (x ∷ xs)
  none_step x xs there true is e = cc
  none_step x xs there false is e = (is, there e)

  pub first-none : (xs : List A) → first p xs ≡ none → AllByRecursion (λ a. p a ≡ false) xs
  first-none [] e = tt
  first-none (x ∷ xs) e = none_step x xs (first-none xs) (p x) refl e

pub every-long : (n : ℕ) → AllByRecursion (λ row. length row ≡ n) (every n)
every-long zero = (refl, tt)
every-long (suc n) =
    let more : (x : Bool) → AllByRecursion (λ row. length row ≡ suc n) (map (λ row. x ∷ row) (every n)) = λ x. All-map (λ row. length row ≡ suc n) (λ row. x ∷ row) (every n) (All-weaker _ (λ row. suc (length row) ≡ suc n) (λ row e. ap suc e) (every n) (every-long n)) in
    All-append _ _ _ (more false) (more true)

module _ {A : Type 0} where
  all_left : (P : A → Type 0) (xs ys : List A) → AllByRecursion P (xs ++ ys) → AllByRecursion P xs
  all_left P [] ys h = tt
  all_left P (x ∷ xs) ys h = (h.0, all_left P xs ys h.1)

  all_right : (P : A → Type 0) (xs ys : List A) → AllByRecursion P (xs ++ ys) → AllByRecursion P ys
  all_right P [] ys h = h
  all_right P (x ∷ xs) ys h = all_right P xs ys h.1

  all_unmap : {B : Type 0} (f : B → A) (P : A → Type 0) (xs : List B) → AllByRecursion P (map f xs) → AllByRecursion (λ x. P (f x)) xs
  all_unmap f P [] h = tt
  all_unmap f P (x ∷ xs) h = (h.0, all_unmap f P xs h.1)

pub every-has : (P : List Bool → Type 0) (n : ℕ) → AllByRecursion P (every n) → (row : List Bool) → length row ≡ n → P row
every-has P zero all [] e = all.0
every-has P zero all (x ∷ row) e = absurd (omega arith)
every-has P (suc n) all [] e = absurd (omega arith)
every-has P (suc n) all (false ∷ row) e = every-has (λ r. P (false ∷ r)) n (all_unmap (λ r. false ∷ r) P (every n) (all_left P _ _ all)) row (omega arith)
every-has P (suc n) all (true ∷ row) e = every-has (λ r. P (true ∷ r)) n (all_unmap (λ r. true ∷ r) P (every n) (all_right P (map (λ r. false ∷ r) (every n)) _ all)) row (omega arith)

module _ (b : Setting) (m : ℕ) (row : List Bool) where
  open b use {n, code}

  pub found : (c : List Bool) → nearest b m row ≡ some c → Near b m row c
  unfolding nearest
  found c e =
      let h = first_found (λ c. code c && leb (distance row c) m) (λ r. length r ≡ n) (every n) c (every-long n) e in
      let q = and_parts _ _ h.1 in
      record { long = h.0; coded = q.0; close = leb-true _ _ q.1 }

  pub not_found : nearest b m row ≡ none → (c : List Bool) → Near b m row c → ⊥
  unfolding nearest
  not_found e c v =
      both_ways (code c && leb (distance row c) m)
      (every-has (λ c. (code c && leb (distance row c) m) ≡ false) n (first-none (λ c. code c && leb (distance row c) m) (every n) e) c v.long)
      (and_from _ _ v.coded (le-leb _ _ v.close))
