use Rattle.tally.proofs.Carried.{call_laws}
use Rattle.tally.proofs.calls_carry_the_promises.Goals as goal

pub returns : goal.returns
returns c = call_laws
