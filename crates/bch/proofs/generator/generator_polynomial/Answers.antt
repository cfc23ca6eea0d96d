use Rattle.std.proofs.Common.{subst}
use Rattle.bits.specs.Bits.{bit_of}
use Rattle.galois.specs.Rows.{Few}
use Rattle.bch.specs.Published.{IsGenerator}
use Rattle.bch.proofs.Encoding.{packed_generates}
use Rattle.bch.proofs.generator.generator_polynomial.Goals as goal

pub returns : goal.returns
returns g c =
    let code = c.in_ok-new.field-0 in
    let e = c.in_ok-new.ensures in
    let x = c.generator.result in
    subst (λ t. Few t × IsGenerator (g.F.Field.model c.args.f.now) t (bit_of x)) e.1
    (subst (λ f. Few code.t × IsGenerator (g.F.Field.model f) code.t (bit_of x)) e.0
    (code.few, packed_generates (g.F.Field.model code.field.now) (g.F.Field.lawful code.field.now) code.t code.few x c.generator.ensures.below c.generator.ensures.bits))
