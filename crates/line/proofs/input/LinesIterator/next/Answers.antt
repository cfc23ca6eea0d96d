-- The first line ends at the first newline, or with the input.
use Rattle.std.proofs.Common.{◌+◌, ◌<◌, ◌∷◌, take, drop, length, sym, ap, ◌∙◌, arith}
use Rattle.std.proofs.lemmas.List.{take_rest}
use Rattle.line.specs.Lines.{lines_of}
use Rattle.line.proofs.Cuts.{with_one, with_none}
use Rattle.line.proofs.Joined.{first-line, last_line}
use Rattle.line.proofs.input.LinesIterator.next.Goals as goal

pub returns-in-Some-clause-steps : goal.returns-in-Some-clause-steps
returns-in-Some-clause-steps c =
    let s = c.args.self.now.rest.now in
    let k = c.in-Some.end in
    let p = with_one 10 s k (sym c.in-Some.ensures) in
    ap lines_of p.1 ∙ first-line (take k s) (drop (k + 1) s) p.0 ∙ ap (λ r. take k s ∷ lines_of r) (sym (take_rest s (k + 1)))

pub returns-in-None-2-clause-steps : goal.returns-in-None-2-clause-steps
returns-in-None-2-clause-steps c =
    let s = c.args.self.now.rest.now in
    let l : 0 < length s = grind arith in
    last_line s (with_none 10 s (sym c.in-None-2.ensures)) l
