use Rattle.std.proofs.Common.{◌*◌, ◌<◌, length, refl, rules, arith}
use Rattle.bits.specs.Bits.{Buffer}
use Rattle.galois.specs.Model.{units}
use Rattle.step_corrector.proofs.Stepping.{known_start, known_turn, known_leave, known_found, known_checked, known_beyond}
use Rattle.step_corrector.proofs.stepwise.StepsSearchMethod.search.Goals as goal

pub loop-place-init : goal.loop-place-init
loop-place-init g c =
    let e = c.into_iter-place-iterator.ensures.into_iter_gives in
    let o = c.of-place-items.ensures in
    rw (e, o.0, o.1) (
      refl,
      omega arith,
      λ few _. known_start (g.F.Field.model c.args.f.now) (g.F.Field.lawful c.args.f.now) c.args.t few c.args.row.now c.args.sums
          c.class_of.result c.class_of.ensures.counted,
    )

pub loop-place-preserved-in-Some-try_position : goal.loop-place-preserved-in-Some-try_position
loop-place-preserved-in-Some-try_position g c =
    let F = g.F.Field.model c.args.f.now in
    let s = rw c.loop-place.invariant.0 at c.in-Some.ensures.steps in
    let room : Buffer (units F) c.args.row.now → c.loop-place.place-iterator.next < 8 * length c.loop-place.row = λ b.
    let z = b.sized in let lt = s.2 in omega arith in (
      s.4,
      (let le = c.loop-place.invariant.1 in omega (arith, s.3)),
      λ few b es.
          rw s.3
          (known_turn F (g.F.Field.lawful c.args.f.now) c.args.t few c.args.row.now c.loop-place.row c.try_position.new.row
          c.loop-place.place-iterator.next c.in-Some.place.1 c.loop-place.count c.loop-place.stands (c.loop-place.invariant.2 few b es) s.2
          (room b) s.1 c.in-Some-try_position.kept (rw s.0 at c.in-Some-try_position.ensures)),
    )

pub loop-place-preserved : goal.loop-place-preserved
loop-place-preserved g c =
    let F = g.F.Field.model c.args.f.now in
    let s = rw c.loop-place.invariant.0 at c.in-Some.ensures.steps in
    let room : Buffer (units F) c.args.row.now → c.loop-place.place-iterator.next < 8 * length c.loop-place.row = λ b.
    let z = b.sized in let lt = s.2 in omega arith in (
      s.4,
      (let le = c.loop-place.invariant.1 in omega (arith, s.3)),
      λ few b es.
          rw s.3
          (known_leave F (g.F.Field.lawful c.args.f.now) c.args.t few c.args.row.now c.loop-place.row c.try_position.new.row
          c.loop-place.place-iterator.next c.in-Some.place.1 c.loop-place.count c.loop-place.stands (c.loop-place.invariant.2 few b es) s.2
          (room b) s.1 (rw s.0 at c.in_default-try_position.ensures)),
    )

pub returns-in-Clean : goal.returns-in-Clean
returns-in-Clean g c = λ few b es.
    let lt = (rw c.loop-place.invariant.0 at c.in-Some.ensures.steps).2 in
    known_found (g.F.Field.model c.args.f.now) (g.F.Field.lawful c.args.f.now) c.args.t few c.args.row.now c.loop-place.row
    c.loop-place.place-iterator.next c.loop-place.count c.loop-place.stands (c.loop-place.invariant.2 few b es) (omega arith) c.in-Clean.is

pub returns-in-Beyond : goal.returns-in-Beyond
returns-in-Beyond g c = λ few b es.
    let lt = (rw c.loop-place.invariant.0 at c.in-Some.ensures.steps).2 in
    known_beyond (g.F.Field.model c.args.f.now) (g.F.Field.lawful c.args.f.now) c.args.t few c.args.row.now c.loop-place.row
    c.loop-place.place-iterator.next c.loop-place.count c.loop-place.stands (c.loop-place.invariant.2 few b es) (omega arith) c.in-Beyond.is

pub returns : goal.returns
returns g c = λ few b es.
    let end = (rw c.loop-place.invariant.0 at c.in-None.ensures.steps).0 in
    rw c.then_some.ensures
    (known_checked (g.F.Field.model c.args.f.now) (g.F.Field.lawful c.args.f.now) c.args.t few c.args.row.now c.loop-place.row
    c.loop-place.place-iterator.next c.loop-place.count c.loop-place.stands (c.loop-place.invariant.2 few b es) (omega arith) end c.eq.result
    (search rules) (search rules))
