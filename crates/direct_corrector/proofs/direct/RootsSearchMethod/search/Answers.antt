use Rattle.std.proofs.Common.{◌≡◌, false, refl, sym, rules, arith}
use Rattle.bch.proofs.Counts.{units_lt}
use Rattle.corrector.proofs.Turned.{turn_turns}
use Rattle.direct_corrector.proofs.Rooting.{known_start, known_clean, known_turn, known_leave, known_checked, known_many}
use Rattle.direct_corrector.proofs.direct.RootsSearchMethod.search.Goals as goal
use Rattle.direct_corrector.proofs.direct.RootsSearchMethod.search.Goals.{then-count-t, else-count-t}

pub returns-then-is_clean : goal.returns-then-is_clean
returns-then-is_clean g c = λ few _ es.
    known_clean (g.F.Field.model c.args.f.now) (g.F.Field.lawful c.args.f.now) c.args.t few c.args.row.now c.args.sums es
    (sym c.if-is_clean.ensures)

pub loop-p-init : goal.loop-p-init
loop-p-init g c =
    let e = c.into_iter-p-iterator.ensures.into_iter_gives in
    let o = c.of-p-items.ensures in
    rw (e, o.0, o.1) (
      refl,
      omega arith,
      λ few. known_start (g.F.Field.model c.args.f.now) (g.F.Field.lawful c.args.f.now) c.args.t few c.args.row.now c.args.sums,
    )

pub returns-in_err-ok : goal.returns-in_err-ok
returns-in_err-ok g c = λ few b es.
    let s = rw c.loop-p.invariant.0 at c.in-Some.ensures.steps in
    let z = b.sized in
    let lt = s.2 in
    let e = s.0 in
    search (rules, arith)

pub overflow_add-count : goal.overflow_add-count
overflow_add-count g c =
    let s = rw c.loop-p.invariant.0 at c.in-Some.ensures.steps in
    let z = units_lt (g.F.Field.model c.args.f.now) (g.F.Field.lawful c.args.f.now) in
    let le = c.loop-p.invariant.1 in
    let lt = s.2 in
    omega arith

pub loop-p-preserved-then-value_at-eq0 : goal.loop-p-preserved-then-value_at-eq0
loop-p-preserved-then-value_at-eq0 g c =
    let s = rw c.loop-p.invariant.0 at c.in-Some.ensures.steps in
    let F = g.F.Field.model c.args.f.now in
    let laws = g.F.Field.lawful c.args.f.now in (
      s.4,
      (let le = c.loop-p.invariant.1 in omega (arith, s.3)),
      λ few es.
          rw (s.3, c.turned-left.ensures)
          (known_turn F laws c.args.t few c.args.row.now c.args.sums es (sym c.if-is_clean.ensures) c.locator_of-lower.result
          c.locator_of-lower.ensures c.loop-p.row c.turn_bit.new.buffer c.loop-p.p-iterator.next c.in-Some.x c.loop-p.count c.value_at.result
          c.loop-p.left (c.loop-p.invariant.2 few es) s.2 s.1 c.value_at.ensures c.if-value_at-eq0.true
          (turn_turns c.loop-p.row c.turn_bit.new.buffer c.loop-p.p-iterator.next c.from.result c.turn_bit.result (search rules) (search rules) (search (rules, s.0)))),
    )

pub loop-p-preserved : goal.loop-p-preserved
loop-p-preserved g c =
    let s = rw c.loop-p.invariant.0 at c.in-Some.ensures.steps in
    let F = g.F.Field.model c.args.f.now in
    let laws = g.F.Field.lawful c.args.f.now in (
      s.4,
      (let le = c.loop-p.invariant.1 in omega (arith, s.3)),
      λ few es.
          rw s.3
          (known_leave F laws c.args.t few c.args.row.now c.args.sums es (sym c.if-is_clean.ensures) c.locator_of-lower.result
          c.locator_of-lower.ensures c.loop-p.row c.loop-p.row c.loop-p.p-iterator.next c.in-Some.x c.loop-p.count c.value_at.result
          c.loop-p.left (c.loop-p.invariant.2 few es) s.2 s.1 c.value_at.ensures c.if-value_at-eq0.false),
    )

pub returns : goal.returns
returns g c = λ few _ es.
    let F = g.F.Field.model c.args.f.now in
    let laws = g.F.Field.lawful c.args.f.now in
    let start = c.args.row.now in
    let s = rw c.loop-p.invariant.0 at c.in-None.ensures.steps in
    elim c.if-count-t.branch [
      | then-count-t w ↦
          rw (c.then_some.ensures, w.then_some-is)
          (known_checked F laws c.args.t few start c.args.sums es c.loop-p.row c.loop-p.p-iterator.next c.loop-p.count c.loop-p.left
          (c.loop-p.invariant.2 few es) s.0 w.is_clean-then-count-t.result w.is_clean-then-count-t.ensures w.if-count-t.true)
      | else-count-t w ↦
          let none : c.if-count-t.then_some ≡ false = search rules in
          rw (c.then_some.ensures, none)
          (known_many F laws c.args.t few start c.args.sums es c.loop-p.row c.loop-p.p-iterator.next c.loop-p.count c.loop-p.left
          (c.loop-p.invariant.2 few es) s.0 w.if-count-t.false)
    ]
