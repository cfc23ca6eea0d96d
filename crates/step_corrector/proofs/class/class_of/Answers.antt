use Rattle.std.proofs.Common.{◌≡◌, refl, ap, ◌∙◌}
use Rattle.galois.specs.Model.{product-of}
use Rattle.decoding.proofs.Computed.{second_is, third-is}
use Rattle.corrector.specs.Searched.{Elements}
use Rattle.step_corrector.specs.Classes.{number, class_for}
use Rattle.step_corrector.proofs.Classing.{class_counts, cubed, listed as listed-is}
use Rattle.step_corrector.proofs.class.class_of.Goals as goal

pub returns : goal.returns
returns g c =
    let F = g.F.Field.model c.args.f.now in
    let laws = g.F.Field.lawful c.args.f.now in
    let s = c.args.sums in
    let square = product-of F s.s1 s.s1 in
    let cube = c.cube-cube.ensures ∙ cubed F laws s.s1 in
    let told : Elements F s → c.class_by.result ≡ class_for F c.args.t s = λ h.
    listed-is F c.args.t s c.class_by.result c.is_clean.result c.add-d2.result c.add-d3.result c.is_clean.ensures c.class_by.ensures
    (second_is F laws s.s1 s.s3 square c.cube-cube.result c.add-d2.result h.0 h.1 refl cube c.add-d2.ensures)
    (third-is F laws s.s1 s.s3 square c.cube-cube.result c.add-d2.result h.0 h.1 refl cube c.add-d2.ensures s.s5 h.2 c.mul.result
    c.mul-2.result c.add.result c.mul-3.result c.add-d3.result c.mul.ensures c.mul-2.ensures c.add.ensures c.mul-3.ensures c.add-d3.ensures) in
    record { listed = told; counted = λ few h. ap number (told h) ∙ class_counts F laws c.args.t s few }
