use Rattle.std.proofs.Common.{◌≡◌, sym, subst, inl, inr, ⊎_elim, arith, pow_pos}
use Rattle.galois.specs.Ring.{numbers}
use Rattle.decoding.specs.Locators.{Locates}
use Rattle.decoding.proofs.Computed.{locates_one, locates_two, locates-three}
use Rattle.direct_corrector.proofs.locator.locator_of.Goals as goal

pub returns-then-t-eq1 : goal.returns-then-t-eq1
returns-then-t-eq1 g c = λ few h.
    let F = g.F.Field.model c.args.f.now in
    let s = c.args.sums in (
      pow_pos F.m,
      pow_pos F.m,
      locates_one F (g.F.Field.lawful c.args.f.now) s.s1 s.s3 c.mul-square.result c.mul.result c.add-d2.result h.0 h.1
          c.mul-square.ensures c.mul.ensures c.add-d2.ensures s.s5 h.2 c.args.t few (⊎_elim inl (λ h. inr h.1) c.then-t-eq1.either),
    )

pub returns-then-t-eq2 : goal.returns-then-t-eq2
returns-then-t-eq2 g c = λ few h.
    let F = g.F.Field.model c.args.f.now in
    let s = c.args.sums in
    let both = locates_two F (g.F.Field.lawful c.args.f.now) s.s1 s.s3 c.mul-square.result c.mul.result c.add-d2.result h.0 h.1
    c.mul-square.ensures c.mul.ensures c.add-d2.ensures s.s5 h.2 c.inverse.result c.mul-then-t-eq2.result c.inverse.ensures
    c.mul-then-t-eq2.ensures in
    (both.0, pow_pos F.m, subst (λ t. Locates (numbers F) t s.s1 s.s3 s.s5 c.mul-then-t-eq2.result 0) (sym c.if-t-eq2.true) both.1)

pub returns : goal.returns
returns g c = λ few h.
    let F = g.F.Field.model c.args.f.now in
    let s = c.args.sums in
    let three : 3 ≡ c.args.t = omega arith in
    let all = locates-three F (g.F.Field.lawful c.args.f.now) s.s1 s.s3 c.mul-square.result c.mul.result c.add-d2.result h.0 h.1
    c.mul-square.ensures c.mul.ensures c.add-d2.ensures s.s5 h.2 c.mul-2.result c.add.result c.inverse-2.result
    c.mul-second.result c.mul-3.result c.add-2.result c.if-d2-eq0.false c.mul-2.ensures c.add.ensures c.inverse-2.ensures
    c.mul-second.ensures c.mul-3.ensures c.add-2.ensures in
    (all.0, all.1, subst (λ t. Locates (numbers F) t s.s1 s.s3 s.s5 c.mul-second.result c.add-2.result) three all.2)
