use Rattle.std.proofs.Common.{◌-◌, ◌/◌, ◌^◌, ap, ◌∙◌}
use Rattle.bch.proofs.Counts.{mask-units}
use Rattle.bch.proofs.sizes.row_cells.Goals as goal

pub returns : goal.returns
returns g c =
    let F = g.F.Field.model c.args.f.now in
    let laws = g.F.Field.lawful c.args.f.now in
    ap (λ m. 255 / 2 ^ (8 - m)) c.degree.ensures ∙ mask-units F.m (laws.low, laws.high)
