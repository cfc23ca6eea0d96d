use Rattle.std.proofs.Common.{◌*◌, ◌≤◌, arith}
use Rattle.std.proofs.lemmas.Grind.{common_steps}
use Rattle.layers.specs.Crossing.{in_groups}
use Rattle.layers.proofs.Figures.{no_rest}
use Rattle.layers.proofs.interleaver.ColumnsSelection.fits.Goals as goal

pub returns-then-n-ge1 : goal.returns-then-n-ge1
returns-then-n-ge1 c =
    let d = c.args.self.now.depth in
    let w = c.args.self.now.width in
    let h : (1 ≤ d) × (d ≤ 16) × (1 ≤ w) × (w ≤ 255) = grind (arith, common_steps) in (
      λ e. (h.0, h.1, h.2, h.3, in_groups (d * w) c.args.n (omega arith) (c.is_multiple_of.ensures.0 e)),
      λ f. c.is_multiple_of.ensures.1 (no_rest d w c.args.n f).1,
    )
