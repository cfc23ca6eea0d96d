use Rattle.std.proofs.Common.{◌-◌}
use Rattle.memory.specs.Packing.{Turned}
use Rattle.memory.proofs.run.turn_run.Given as goal

abbrev pub invariant-loop-k : goal.invariant-loop-k
invariant-loop-k g l = Turned g.E.Element.WIDTH (g.E.Element.numbers l.initial.elements) (g.E.Element.numbers l.elements) l.from (l.k - l.from)
