-- The number ends at the first space, since no digit is one.
use Rattle.std.proofs.Common.{◌≡◌, ℕ, ◌+◌, List, ◌∷◌, ◌++◌, take, drop, sym, ap, ◌∙◌, subst}
use Rattle.std.proofs.lemmas.List.{take_rest}
use Rattle.std.proofs.lemmas.Result.{err_from_is_err_and}
use Rattle.refusal.specs.declared.Refusal.TheVariants.{Line}
use Rattle.line.specs.Lines.{Lacks}
use Rattle.line.specs.Spelling.{Numeral}
use Rattle.line.proofs.Cuts.{with_one, with_none, inside, front, front-is}
use Rattle.line.proofs.Numerals.{no_space}
use Rattle.line.proofs.fields.split_number.Goals as goal

-- A numeral with a space behind it is what stands before the first space.
first_field : (s r v t u : List ℕ) (n : ℕ) → Lacks 32 r → s ≡ r ++ (32 ∷ v) → Numeral t n → s ≡ t ++ (32 ∷ u) → Numeral r n
first_field s r v t u n l f h e =
    subst (λ (x : List ℕ). Numeral x n) (sym (front-is 32 t u (no_space t n h)) ∙ ap (front 32) (sym e ∙ f) ∙ front-is 32 r v l) h

pub returns-in_err-space : goal.returns-in_err-space
returns-in_err-space c =
    let p = err_from_is_err_and c.from_residual.result c.from_residual.ensures.1 in
    let n = c.in_err-space.ensures.ok_part in
    let v = rw n at c.in_err-space.ensures.value in
    let e : c.in_err-space.field-0.0 ≡ Line = cc v in
    let l = with_none 32 c.args.fields.now (sym c.position.ensures ∙ n) in
    rw (p.1, p.2) (e, λ t u m h f. inside 32 t u (subst (Lacks 32) f l))

pub returns-in_err-number : goal.returns-in_err-number
returns-in_err-number c =
    let p = err_from_is_err_and c.from_residual-in_err-number.result c.from_residual-in_err-number.ensures.1 in
    let s = c.args.fields.now in
    let k = c.in_ok-space.space in
    let w = with_one 32 s k (sym c.position.ensures ∙ c.in_ok-space.ensures.ok_part) in
    let r = c.in_err-number.ensures in
    rw (p.1, p.2) (r.0, λ t u n h e. r.1 n (first_field s (take k s) (drop (k + 1) s) t u n w.0 w.1 h e))

pub returns : goal.returns
returns c =
    let s = c.args.fields.now in
    let k = c.in_ok-space.space in
    let w = with_one 32 s k (sym c.position.ensures ∙ c.in_ok-space.ensures.ok_part) in
    (take k s, c.in_ok-number.ensures, w.1 ∙ ap (λ (x : List ℕ). take k s ++ (32 ∷ x)) (sym (take_rest s (k + 1))))
