use Rattle.tally.proofs.Fields.{field_codes}
use Rattle.tally.proofs.field_codes_are_lawful.Goals as goal

pub returns : goal.returns
returns c = field_codes
