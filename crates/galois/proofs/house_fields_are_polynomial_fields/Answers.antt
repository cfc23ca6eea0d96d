use Rattle.galois.proofs.House.{house-field}
use Rattle.galois.proofs.house_fields_are_polynomial_fields.Goals as goal

pub returns : goal.returns
returns c = house-field
