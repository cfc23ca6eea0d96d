use Rattle.galois.proofs.Consequences.{consequences}
use Rattle.galois.proofs.lawful_fields_are_fields.Goals as goal

pub returns : goal.returns
returns c = consequences
