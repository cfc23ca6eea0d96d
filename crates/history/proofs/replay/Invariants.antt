use Rattle.book.specs.Meaning.{meaning, Kept}
use Rattle.history.proofs.Running.{RanTo}
use Rattle.history.proofs.replay.Given as goal

abbrev pub invariant-loop-i : goal.invariant-loop-i
invariant-loop-i g l =
    Kept l.initial.book l.book
    × RanTo (meaning g.C.Field g.C.Corrector g.M.Memory l.initial.book) (meaning g.C.Field g.C.Corrector g.M.Memory l.book) l.calls l.answers l.i
