use Rattle.std.proofs.Common.{rules}
use Rattle.std.proofs.lemmas.Result.{err_from_is_err_and}
use Rattle.book.specs.Meaning.{meaning}
use Rattle.book.proofs.Correcting.{always_laid, mended, not_mended}
use Rattle.book.proofs.Leading.{at, mend_call}
use Rattle.book.proofs.Book.mend.Goals as goal

pub returns-in_err-turned-clause-call : goal.returns-in_err-turned-clause-call
returns-in_err-turned-clause-call g c =
    let self = c.args.self.now in
    let b = meaning g.C.Field g.C.Corrector g.M.Memory self in
    let p = err_from_is_err_and c.from_residual-in_err-turned.result c.from_residual-in_err-turned.ensures.1 in
    rw (p.1, p.2)
    (mend_call b b.memory (g.C.Field.lawful self.corrector) (g.C.Corrector.few self.corrector) c.args.row _
    (not_mended b c.args.row c.in_ok-first.first c.in_ok-first.ensures _ c.corrected.new.cells _ (search rules) c.in_err-turned.ensures))

pub returns-in_err-scatter-clause-call : goal.returns-in_err-scatter-clause-call
returns-in_err-scatter-clause-call g c =
    let b = meaning g.C.Field g.C.Corrector g.M.Memory c.args.self.now in
    absurd (always_laid b c.args.row c.in_ok-first.first c.in_ok-first.ensures (at b (g.M.Memory.means c.scatter.new.memory)) c.row_cells-n.result c.row_cells-n.ensures
    c.corrected.new.cells c.in_ok-turned.ensures.0 _ c.in_err-scatter.ensures)

pub returns-clause-call : goal.returns-clause-call
returns-clause-call g c =
    let self = c.args.self.now in
    let b = meaning g.C.Field g.C.Corrector g.M.Memory self in
    let m' = g.M.Memory.means c.scatter.new.memory in
    mend_call b m' (g.C.Field.lawful self.corrector) (g.C.Corrector.few self.corrector) c.args.row _
    (mended b c.args.row c.in_ok-first.first c.in_ok-first.ensures (at b m') c.row_cells-n.result c.row_cells-n.ensures
    c.corrected.new.cells _ c.in_ok-turned.ensures tt c.in_ok-scatter.ensures)
