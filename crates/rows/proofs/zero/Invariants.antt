use Rattle.std.proofs.Common.{false}
use Rattle.rows.specs.Laid.{Laid}
use Rattle.rows.proofs.zero.Given as goal

abbrev pub invariant-loop-i : goal.invariant-loop-i
invariant-loop-i g l = Laid 0 l.i (λ _. false) (g.M.Memory.means l.initial.memory) (g.M.Memory.means l.memory)
