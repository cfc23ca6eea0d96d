use Rattle.std.proofs.Common.{sym}
use Rattle.std.proofs.lemmas.Bool.{both_ways}
use Rattle.layers.proofs.Figures.{all_shown, none_shown}
use Rattle.layers.proofs.interleaver.ColumnsSelection.shown.Goals as goal

pub returns-then-fits : goal.returns-then-fits
returns-then-fits c = sym (all_shown _ _ _ (c.fits.ensures.0 c.if-fits.true))

pub returns-else-fits : goal.returns-else-fits
returns-else-fits c = sym (none_shown _ _ _ (λ f. both_ways _ c.if-fits.false (c.fits.ensures.1 f)))
