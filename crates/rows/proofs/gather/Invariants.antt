use Rattle.rows.proofs.Moving.{Filled}
use Rattle.rows.proofs.gather.Given as goal

abbrev pub invariant-loop-j : goal.invariant-loop-j
invariant-loop-j g l = Filled (g.M.Memory.means l.memory).bit l.first l.j l.row
