use Rattle.line.proofs.Spelled.{only, long, typed}
use Rattle.line.proofs.command.parse.Goals as goal

pub returns : goal.returns
returns c = record { answer = c.command_of.ensures; only = only; typed = typed; long = long c.args.line.now c.command_of.result c.command_of.ensures }
