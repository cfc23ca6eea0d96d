-- The lines of an input: cut at its first newline, joined again, and no others.
use Rattle.std.proofs.Common.{◌≡◌, ℕ, ◌<◌, Bool, true, false, cond, eqb, List, [], ◌∷◌, ◌++◌, length, sym, refl, ap, ◌∙◌, arith, ne_eqb, eqb-true}
use borrow.Author.Tests.{eqb-false}
use Rattle.std.specs.List.{AllByRecursion}
use Rattle.line.specs.Lines.{before, lines_of, Lacks, joined, ended, Cut}

-- ---- the first line

pub first-line : (l s : List ℕ) → Lacks 10 l → lines_of (l ++ (10 ∷ s)) ≡ l ∷ lines_of s
first-line [] s a = refl
first-line (c ∷ l) s a = rw (ne_eqb c 10 a.0, first-line l s a.1)

pub last_line : (l : List ℕ) → Lacks 10 l → 0 < length l → lines_of l ≡ l ∷ []
last_line [] a h = absurd (omega arith)
last_line (c ∷ []) a h = rw (ne_eqb c 10 a.0)
last_line (c ∷ d ∷ l) a h = rw (ne_eqb c 10 a.0) (ap (before c) (last_line (d ∷ l) a.1 (omega arith)))

-- ---- no line holds a newline

before-plain : (c : ℕ) (ls : List (List ℕ)) → (c ≡ 10 → ⊥) → AllByRecursion (Lacks 10) ls → AllByRecursion (Lacks 10) (before c ls)
before-plain c [] n a = ((n, tt), tt)
before-plain c (l ∷ ls) n a = ((n, a.0), a.1)

plain_step : (c : ℕ) (ls : List (List ℕ)) → AllByRecursion (Lacks 10) ls → (b : Bool) → eqb c 10 ≡ b → AllByRecursion (Lacks 10) (cond b ([] ∷ ls) (before c ls))
plain_step c ls a true e = (tt, a)
plain_step c ls a false e = before-plain c ls (eqb-false c 10 e) a

plain : (s : List ℕ) → AllByRecursion (Lacks 10) (lines_of s)
plain [] = tt
plain (c ∷ s) = plain_step c (lines_of s) (plain s) (eqb c 10) refl

-- ---- joined again they are the input

some_before : (c : ℕ) (ls : List (List ℕ)) → 0 < length (before c ls)
some_before c [] = omega arith
some_before c (l ∷ ls) = omega arith

some_line : (c : ℕ) (ls : List (List ℕ)) (b : Bool) → 0 < length (cond b ([] ∷ ls) (before c ls))
some_line c ls true = omega arith
some_line c ls false = some_before c ls

joined-before : (c : ℕ) (ls : List (List ℕ)) → 0 < length ls → joined (before c ls) ≡ c ∷ joined ls
joined-before c [] h = absurd (omega arith)
joined-before c (l ∷ ls) h = refl

whole_step : (c : ℕ) (ls : List (List ℕ)) → 0 < length ls → (b : Bool) → eqb c 10 ≡ b → joined (cond b ([] ∷ ls) (before c ls)) ≡ c ∷ joined ls
whole_step c ls h true e = ap (λ (x : ℕ). x ∷ joined ls) (sym (eqb-true c 10 e))
whole_step c ls h false e = joined-before c ls h

whole_last : (c : ℕ) (b : Bool) → eqb c 10 ≡ b → joined (cond b ([] ∷ []) ((c ∷ []) ∷ [])) ≡ cond b (c ∷ []) (c ∷ 10 ∷ [])
whole_last c true e = ap (λ (x : ℕ). x ∷ []) (sym (eqb-true c 10 e))
whole_last c false e = refl

whole : (s : List ℕ) → joined (lines_of s) ≡ ended s
whole [] = refl
whole (c ∷ []) = whole_last c (eqb c 10) refl
whole (c ∷ d ∷ s) = whole_step c (lines_of (d ∷ s)) (some_line d (lines_of s) (eqb d 10)) (eqb c 10) refl ∙ ap (λ (x : List ℕ). c ∷ x) (whole (d ∷ s))

-- ---- and only they

lines_joined : (ls : List (List ℕ)) → AllByRecursion (Lacks 10) ls → lines_of (joined ls) ≡ ls
lines_joined [] a = refl
lines_joined (l ∷ ls) a = first-line l (joined ls) a.0 ∙ ap (λ (x : List (List ℕ)). l ∷ x) (lines_joined ls a.1)

lines_ended : (s : List ℕ) → lines_of (ended s) ≡ lines_of s
lines_ended [] = refl
lines_ended (c ∷ []) = by (eqb c 10) refl
  where
    by : (b : Bool) → eqb c 10 ≡ b → lines_of (cond b (c ∷ []) (c ∷ 10 ∷ [])) ≡ lines_of (c ∷ [])
    by true e = refl
    by false e = rw e
lines_ended (c ∷ d ∷ s) = ap (λ (ls : List (List ℕ)). cond (eqb c 10) ([] ∷ ls) (before c ls)) (lines_ended (d ∷ s))

pub cut_lines : (s : List ℕ) → Cut s (lines_of s)
cut_lines s = record { plain = plain s; whole = whole s; only = λ ms a e. sym (lines_joined ms a) ∙ ap lines_of e ∙ lines_ended s }
