use Rattle.std.proofs.Common.{◌∙◌, rules}
use Rattle.std.proofs.lemmas.Iterator.{YieldsList-from_slice}
use Rattle.std.proofs.lemmas.Iterator.Consumers.{fold_from_yields_List}
use Rattle.galois.specs.Model.{sum_of}
use Rattle.field.proofs.Totals.{total-fold}
use Rattle.field.proofs.generic.sum.Goals as goal

pub returns : goal.returns
returns g c =
    let F = g.F.Field.model c.args.f.now in
    let xs = c.args.xs.now in
    fold_from_yields_List _ (sum_of F) _ _ c.fold.ensures.ran (YieldsList-from_slice xs c.iter.ensures.rest) (λ a x b q k. search rules)
    ∙ total-fold F (g.F.Field.lawful c.args.f.now) xs
