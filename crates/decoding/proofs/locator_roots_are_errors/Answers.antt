use Rattle.decoding.proofs.Located.{locator_roots}
use Rattle.decoding.proofs.locator_roots_are_errors.Goals as goal

pub returns : goal.returns
returns c = locator_roots
