use Rattle.bits.specs.Bits.{bit_at}
use Rattle.rows.specs.Laid.{Laid}
use Rattle.rows.proofs.scatter.Given as goal

abbrev pub invariant-loop-j : goal.invariant-loop-j
invariant-loop-j g l = Laid l.first l.j (bit_at 8 l.row) (g.M.Memory.means l.initial.memory) (g.M.Memory.means l.memory)
