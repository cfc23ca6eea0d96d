use Rattle.memory.proofs.Listing.{list_laws}
use Rattle.memory.proofs.laws.lists_stand.Goals as goal

pub returns : goal.returns
returns c = list_laws
