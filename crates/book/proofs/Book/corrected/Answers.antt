use Rattle.std.proofs.Common.{arith}
use Rattle.book.specs.Meaning.{meaning}
use Rattle.book.proofs.Correcting.{past_reach}
use Rattle.book.proofs.Book.corrected.Goals as goal

pub returns-then-count-reach : goal.returns-then-count-reach
returns-then-count-reach g c =
    let self = c.args.self.now in
    past_reach (meaning g.C.Field g.C.Corrector g.M.Memory self) (g.C.Field.lawful self.corrector) c.args.first _ c.row_cells.ensures
    _ c.gather.new.row c.correct.new.row _ _ c.in_ok-gather.ensures c.in_ok-count.ensures (omega (arith, c.reach.ensures))
