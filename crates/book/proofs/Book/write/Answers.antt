use Rattle.std.proofs.Common.{rules}
use Rattle.std.proofs.lemmas.Result.{err_from_is_err_and}
use Rattle.book.specs.Meaning.{meaning}
use Rattle.book.proofs.Correcting.{wrote, not_encoded}
use Rattle.book.proofs.Leading.{at, write_call}
use Rattle.book.proofs.Book.write.Goals as goal

pub returns-in_err-encode-clause-call : goal.returns-in_err-encode-clause-call
returns-in_err-encode-clause-call g c =
    let self = c.args.self.now in
    let b = meaning g.C.Field g.C.Corrector g.M.Memory self in
    let few = g.C.Corrector.few self.corrector in
    let p = err_from_is_err_and c.from_residual-in_err-encode.result c.from_residual-in_err-encode.ensures.1 in
    rw (p.1, p.2)
    (write_call b b.memory (g.C.Field.lawful self.corrector) few c.args.row c.args.bytes.now _
    (not_encoded b c.args.row c.in_ok-first.first c.in_ok-first.ensures c.corrects.result c.args.bytes.now _ c.encode.new.row _
    c.corrects.ensures few (search rules) c.in_err-encode.ensures))

pub returns-clause-call : goal.returns-clause-call
returns-clause-call g c =
    let self = c.args.self.now in
    let b = meaning g.C.Field g.C.Corrector g.M.Memory self in
    let m' = g.M.Memory.means c.scatter.new.memory in
    write_call b m' (g.C.Field.lawful self.corrector) (g.C.Corrector.few self.corrector) c.args.row c.args.bytes.now _
    (wrote b c.args.row c.in_ok-first.first c.in_ok-first.ensures (at b m') c.row_cells-n.result c.corrects.result c.row_cells-n.ensures c.corrects.ensures
    c.args.bytes.now _ c.encode.new.row _ c.in_ok-encode.ensures c.scatter.result c.scatter.ensures)
