use Rattle.limits.proofs.Sharp.{sharp_limits}
use Rattle.limits.proofs.limits_are_sharp.Goals as goal

pub returns : goal.returns
returns c = sharp_limits
