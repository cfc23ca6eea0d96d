use Rattle.std.proofs.Common.{◌<◌, arith}
use Rattle.book.specs.Meaning.{meaning}
use Rattle.table.specs.Model.{entries_of}
use Rattle.table.proofs.Placing.{stands}
use Rattle.table.proofs.Table.place.Goals as goal

pub returns : goal.returns
returns g c =
    let self = c.args.self.now in
    let b = meaning g.C.Field g.C.Corrector g.M.Memory self.book in
    let l : c.args.i < entries_of b self.entries = omega (arith, c.entries.ensures.0, c.if-i-entries.false) in
    (l, stands b self.entries c.args.i l c.per_row-e.result c.per_row-e.ensures.0)
