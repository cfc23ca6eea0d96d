use Rattle.std.proofs.Common.{rules}
use Rattle.std.proofs.lemmas.Result.{err_from_is_err_and}
use Rattle.book.specs.Meaning.{meaning}
use Rattle.book.proofs.Correcting.{not_found, looked}
use Rattle.book.proofs.Leading.{read_call}
use Rattle.book.proofs.Book.read.Goals as goal

pub returns-in_err-differing : goal.returns-in_err-differing
returns-in_err-differing g c =
    let self = c.args.self.now in
    let b = meaning g.C.Field g.C.Corrector g.M.Memory self in
    let p = err_from_is_err_and c.from_residual-in_err-differing.result c.from_residual-in_err-differing.ensures.1 in
    rw (p.1, p.2)
    (read_call b (g.C.Field.lawful self.corrector) (g.C.Corrector.few self.corrector) c.args.row c.args.bytes.now c.args.bytes.now _
    (not_found b c.args.row c.in_ok-first.first c.in_ok-first.ensures c.args.bytes.now c.data_cells.result c.data_cells.ensures (search rules)
    _ c.corrected.new.cells _ (search rules) c.in_err-differing.ensures))

pub returns : goal.returns
returns g c =
    let self = c.args.self.now in
    let b = meaning g.C.Field g.C.Corrector g.M.Memory self in
    read_call b (g.C.Field.lawful self.corrector) (g.C.Corrector.few self.corrector) c.args.row c.args.bytes.now c.extract.new.«data» _
    (looked b c.args.row c.in_ok-first.first c.in_ok-first.ensures c.args.bytes.now c.data_cells.result c.data_cells.ensures (search rules)
    c.corrects.result c.corrects.ensures c.corrected.new.cells c.extract.new.«data» _ _ c.in_ok-differing.ensures c.in_ok-extract.ensures)
