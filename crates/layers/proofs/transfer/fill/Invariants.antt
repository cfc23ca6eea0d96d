use Rattle.std.proofs.Common.{cond, ltb}
use Rattle.memory.specs.Mem.{Leaves}
use Rattle.layers.proofs.transfer.fill.Given as goal

-- the first k cells have the value, the others what they had
abbrev pub invariant-loop-k : goal.invariant-loop-k
invariant-loop-k g l =
    let means = g.M.Memory.means in
    Leaves (means l.initial.m) (means l.m) (λ j. cond (ltb j l.k) l.v ((means l.initial.m).bit j))
