use Rattle.std.proofs.Common.{rules}
use Rattle.std.proofs.lemmas.Result.{err_from_is_err_and}
use Rattle.book.specs.Meaning.{meaning}
use Rattle.history.proofs.Running.{read_out_err}
use Rattle.history.proofs.read_out.Goals as goal

pub returns-in_err-count : goal.returns-in_err-count
returns-in_err-count g c =
    let b = meaning g.C.Field g.C.Corrector g.M.Memory c.args.book.now in
    let p = err_from_is_err_and c.from_residual.result c.from_residual.ensures.1 in
    rw (p.1, p.2) (read_out_err b c.args.row _ c.read.new.bytes (search rules) _ c.in_err-count.ensures)
