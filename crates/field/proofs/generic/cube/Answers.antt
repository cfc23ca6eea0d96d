use Rattle.std.proofs.Common.{ap, ◌∙◌, mod-eq_of_lt}
use Rattle.galois.specs.Model.{elem}
use Rattle.galois.proofs.Laws.{elem-lt}
use Rattle.field.proofs.generic.cube.Goals as goal

pub returns : goal.returns
returns g c =
    let F = g.F.Field.model c.args.f.now in
    let laws = g.F.Field.lawful c.args.f.now in
    let x = elem F c.args.x in
    let lt = laws.ring.mul_lt x x (elem-lt F laws c.args.x) (elem-lt F laws c.args.x) in
    c.mul-2.ensures ∙ ap (λ y. F.mul y x) (ap (elem F) c.mul.ensures ∙ mod-eq_of_lt lt)
