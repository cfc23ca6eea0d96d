use Rattle.galois.proofs.Least.{rows_apart}
use Rattle.galois.proofs.code_rows_are_apart.Goals as goal

pub returns : goal.returns
returns c = rows_apart
