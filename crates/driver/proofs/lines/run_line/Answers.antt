-- The line spells a command, and that was made; or it spells none, and the book is as it was.
use Rattle.std.proofs.Common.{refl, ap, ◌∙◌, inl, inr, Err}
use Rattle.std.proofs.lemmas.Result.{err_from_is_err_and}
use Rattle.book.specs.Meaning.{meaning}
use Rattle.driver.specs.Driven.{Driven}
use Rattle.driver.proofs.Driving.{one_leads}
use Rattle.driver.proofs.lines.run_line.Goals as goal

pub returns : goal.returns
returns g c =
    let b = meaning g.C.Field g.C.Corrector g.M.Memory c.args.book.now in
    let b' = meaning g.C.Field g.C.Corrector g.M.Memory c.run_command.new.book in
    let d : Driven b b' c.args.line.now c.run_command.result = inl (c.in_ok-parse.field-0, c.in_ok-parse.ensures.answer, c.run_command.ensures.call) in
    record { kept = c.run_command.ensures.kept; call = d; history = one_leads b b' c.args.line.now c.run_command.result d }

pub returns-in_err-parse-clause-history : goal.returns-in_err-parse-clause-history
returns-in_err-parse-clause-history g c =
    let b = meaning g.C.Field g.C.Corrector g.M.Memory c.args.book.now in
    let p = err_from_is_err_and c.from_residual.result c.from_residual.ensures.1 in
    let a = c.in_err-parse.ensures.answer in
    one_leads b b c.args.line.now c.from_residual.result (inr (a.1, p.1 ∙ ap Err (p.2 ∙ a.0), refl))
