use Rattle.tally.proofs.Laws.{damage_laws}
use Rattle.tally.proofs.damage_laws_hold.Goals as goal

pub returns : goal.returns
returns c = damage_laws
