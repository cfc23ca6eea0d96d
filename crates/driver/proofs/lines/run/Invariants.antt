use Rattle.std.proofs.Common.{vec_items}
use Rattle.book.specs.Meaning.{meaning, Kept}
use Rattle.line.specs.Lines.{lines_of}
use Rattle.line.specs.Steps.{remaining}
use Rattle.driver.proofs.Running.{UnderWay}
use Rattle.driver.proofs.lines.run.Given as goal

abbrev pub invariant-loop-line : goal.invariant-loop-line
invariant-loop-line g l =
    Kept l.initial.book l.book ×
    UnderWay (meaning g.C.Field g.C.Corrector g.M.Memory l.initial.book) (lines_of l.input)
    (meaning g.C.Field g.C.Corrector g.M.Memory l.book) (lines_of (remaining l.line-iterator)) (vec_items l.answers)
