-- A list cut at the first byte that is w.
use Rattle.std.proofs.Common.{◌≡◌, ℕ, ◌+◌, ◌<◌, ◌≤◌, cond, eqb, List, [], ◌∷◌, ◌++◌, length, get_or, take, drop, Some, None, sym, refl, ap, ◌∙◌, arith, eq-eqb, ne_eqb, eqb-true}
use borrow.Author.Tests.{eqb-false}
use Rattle.std.specs.List.{position, position_or_len}
use Rattle.std.proofs.ByRecursion.{All-from_get_or}
use Rattle.std.proofs.lemmas.List.{length-take-le, get_or-take, take-append-drop, drop_more}
use Rattle.std.proofs.lemmas.List.Sums.{fails_before_first}
use Rattle.std.proofs.lemmas.List.Quantifiers.{position-Some}
use Rattle.line.specs.Lines.{Lacks}

-- Where there is a w, what stands before it lacks w, and the list is its front, w, and the rest.
pub with_one : (w : ℕ) (s : List ℕ) (k : ℕ) → position (λ b. eqb b w) s ≡ Some k → Lacks w (take k s) × (s ≡ take k s ++ (w ∷ drop (k + 1) s))
with_one w s k e =
    let p = position-Some (λ b. eqb b w) s k 0 e in (
      All-from_get_or (λ c. c ≡ w → ⊥) (take k s) 0 (λ i l.
          let n : i < k = omega (arith, length-take-le k s (omega arith)) in
          λ h. eqb-false (get_or s i 0) w (p.2 i n) (sym (get_or-take k s i 0 n) ∙ h)),
      sym (take-append-drop k s) ∙ ap (λ (x : List ℕ). take k s ++ x) (drop_more s k 0 p.0 ∙ ap (λ (c : ℕ). c ∷ drop (k + 1) s) (eqb-true (get_or s k 0) w p.1)),
    )

-- Where there is none, the list lacks w.
pub with_none : (w : ℕ) (s : List ℕ) → position (λ b. eqb b w) s ≡ None → Lacks w s
with_none w s e =
    let l : length s ≤ position_or_len (λ b. eqb b w) s = grind arith in
    All-from_get_or (λ c. c ≡ w → ⊥) s 0 (λ i h. eqb-false (get_or s i 0) w (fails_before_first (λ b. eqb b w) s i 0 (omega arith)))

-- And then it is no such thing in any way.
pub inside : (w : ℕ) (t u : List ℕ) → Lacks w (t ++ (w ∷ u)) → ⊥
inside w [] u a = a.0 refl
inside w (c ∷ t) u a = inside w t u a.1

-- What stands before the first w, and what stands after it.
abbrev pub front : ℕ → List ℕ → List ℕ
front w [] = []
front w (c ∷ s) = cond (eqb c w) [] (c ∷ front w s)

abbrev pub behind : ℕ → List ℕ → List ℕ
behind w [] = []
behind w (c ∷ s) = cond (eqb c w) s (behind w s)

pub front-is : (w : ℕ) (t u : List ℕ) → Lacks w t → front w (t ++ (w ∷ u)) ≡ t
front-is w [] u a = rw (eq-eqb w w refl)
front-is w (c ∷ t) u a = rw (ne_eqb c w a.0) (ap (λ (x : List ℕ). c ∷ x) (front-is w t u a.1))

pub behind-is : (w : ℕ) (t u : List ℕ) → Lacks w t → behind w (t ++ (w ∷ u)) ≡ u
behind-is w [] u a = rw (eq-eqb w w refl)
behind-is w (c ∷ t) u a = rw (ne_eqb c w a.0) (behind-is w t u a.1)
