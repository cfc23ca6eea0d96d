use Rattle.corrector.proofs.Unique.{one_correction}
use Rattle.corrector.proofs.comparison.corrections_agree.Goals as goal

pub returns : goal.returns
returns c = one_correction
