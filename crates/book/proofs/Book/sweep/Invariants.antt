use Rattle.std.proofs.Common.{◌*◌, ◌≤◌}
use Rattle.book.specs.Meaning.{meaning, Kept}
use Rattle.book.proofs.Sweeping.{SweptTo}
use Rattle.book.proofs.Book.sweep.Given as goal

abbrev pub invariant-loop-row : goal.invariant-loop-row
invariant-loop-row g l =
    Kept l.initial.self l.self × (l.counts.turned ≤ 255 * l.row)
    × SweptTo (meaning g.C.Field g.C.Corrector g.M.Memory l.initial.self) (g.M.Memory.means l.self.memory) l.row l.counts.accepted l.counts.refused l.counts.turned
