use Rattle.std.proofs.Common.{cond, ltb}
use Rattle.memory.specs.Mem.{Leaves}
use Rattle.layers.proofs.transfer.copy.Given as goal

-- the first k cells have the values of a's, the others what they had
abbrev pub invariant-loop-k : goal.invariant-loop-k
invariant-loop-k g l =
    let means = g.B.Memory.means in
    Leaves (means l.initial.b) (means l.b) (λ j. cond (ltb j l.k) ((g.A.Memory.means l.a).bit j) ((means l.initial.b).bit j))
