use Rattle.std.proofs.Common.{refl}
use Rattle.line.proofs.Joined.{cut_lines}
use Rattle.line.proofs.input.Lines.new.Goals as goal

pub returns : goal.returns
returns c = record { start = refl; law = cut_lines c.args.input.now }
