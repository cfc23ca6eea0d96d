-- What stands behind the first number is the last field, and where that is none the line spells nothing.
use Rattle.std.proofs.Common.{◌≡◌, ℕ, List, get_or, drop, sym, ap, ◌∙◌, subst, arith, rules}
use Rattle.std.proofs.lemmas.List.{take_rest}
use Rattle.std.proofs.lemmas.Result.{err_from_is_err_and}
use Rattle.line.specs.Spelling.{Numeral, HexNumeral}
use Rattle.line.proofs.Spelled.{none_after, second_field}
use Rattle.line.proofs.command.command_of.Goals as goal

pub returns-in_err-byte-in-87 : goal.returns-in_err-byte-in-87
returns-in_err-byte-in-87 c =
    let p = err_from_is_err_and c.from_residual-in_err-byte-in-87.result c.from_residual-in_err-byte-in-87.ensures.1 in
    let s = c.args.line.now in
    let k : get_or s 0 0 ≡ 87 = search rules in
    let f = c.in_ok-row-in-87.ensures in
    let r = c.in_err-byte-in-87.ensures in
    let e = sym (take_rest s 2) ∙ f.2 in
    rw (p.1, p.2) (r.0, none_after s (λ z t u m n a b q. r.1 n (subst (λ (x : List ℕ). HexNumeral x n) (second_field (drop 2 s) t u f.0 _ m _ a f.1 q e) b)) (λ z row a. omega arith) (λ z. omega arith) (λ z row a. omega arith) (λ z. omega (arith, ap (λ (l : List ℕ). get_or l 0 0) z)))

pub returns-in_err-length-in-75 : goal.returns-in_err-length-in-75
returns-in_err-length-in-75 c =
    let p = err_from_is_err_and c.from_residual-in_err-length-in-75.result c.from_residual-in_err-length-in-75.ensures.1 in
    let s = c.args.line.now in
    let k : get_or s 0 0 ≡ 75 = search rules in
    let f = c.in_ok-from-in-75.ensures in
    let r = c.in_err-length-in-75.ensures in
    let e = sym (take_rest s 2) ∙ f.2 in
    rw (p.1, p.2) (r.0, none_after s (λ z. omega arith) (λ z row a. omega arith) (λ z t u m n a b q. r.1 n (subst (λ (x : List ℕ). Numeral x n) (second_field (drop 2 s) t u f.0 _ m _ a f.1 q e) b)) (λ z row a. omega arith) (λ z. omega (arith, ap (λ (l : List ℕ). get_or l 0 0) z)))
