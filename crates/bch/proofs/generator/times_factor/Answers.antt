use Rattle.std.proofs.Common.{get_or, sym, ap, add-one, length-set}
use Rattle.galois.specs.Ring.{numbers}
use Rattle.galois.specs.Polynomials.{before}
use Rattle.bch.proofs.Factors.{factor-next}
use Rattle.bch.proofs.generator.times_factor.Goals as goal

pub loop-i-preserved : goal.loop-i-preserved
loop-i-preserved g c =
    let F = g.F.Field.model c.args.f.now in
    let laws = g.F.Field.lawful c.args.f.now in
    let l = c.loop-i in
    let i = l.invariant in (
      simp length-set i.0,
      ap (before (numbers F) (λ j. get_or c.args.g j 0)) (sym (add-one l.i)),
      c.requires.elements l.i c.loop-i-test.true,
      factor-next F laws c.args.a c.args.g l.product l.i l.below c.add.result c.mul.result c.loop-i-test.true c.requires.elements c.requires.element
          i.0 i.1 i.2 c.mul.ensures c.add.ensures i.3,
    )
