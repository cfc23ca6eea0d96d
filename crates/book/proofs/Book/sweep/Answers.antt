use Rattle.std.proofs.Common.{◌≡◌, ℕ, ◌+◌, ◌*◌, ◌<◌, ◌≤◌, Ok, sym, subst, arith}
use Rattle.book.specs.Meaning.{meaning, Kept}
use Rattle.book.specs.Calls.{Mended}
use Rattle.book.specs.Model.{rows_of}
use Rattle.book.specs.declared.SweepCounts.{SweepCounts}
use Rattle.book.proofs.Effective.{reach_within}
use Rattle.book.proofs.Leading.{kept_figures, kept_on}
use Rattle.book.proofs.Sweeping.{SweptTo, swept_more, swept_less, sweep_call}
use Rattle.book.proofs.Book.sweep.Goals as goal
use Rattle.book.proofs.Book.sweep.Goals.{in-Ok, in-Err}

pub loop-row-preserved : goal.loop-row-preserved
loop-row-preserved g c =
    let self = c.args.self.now in
    let l = c.loop-row in
    let k : Kept self c.mend.new.self = kept_on self l.self c.mend.new.self l.invariant.0 c.mend.ensures.kept in
    let b = meaning g.C.Field g.C.Corrector g.M.Memory self in
    let b' = meaning g.C.Field g.C.Corrector g.M.Memory l.self in
    let b'' = meaning g.C.Field g.C.Corrector g.M.Memory c.mend.new.self in
    let row : l.row < rows_of b = omega (arith, c.rows-row-end.ensures, c.loop-row-test.true) in
    let laws = g.C.Field.lawful self.corrector in
    let few = g.C.Corrector.few self.corrector in
    let same = kept_figures g.C.Field g.C.Corrector g.M.Memory self l.self l.invariant.0 in
    let same' = kept_figures g.C.Field g.C.Corrector g.M.Memory self c.mend.new.self k in
    let Goal : SweepCounts → Type 0 =
    λ n. (n.turned ≤ 255 * (l.row + 1)) × SweptTo b b''.memory (l.row + 1) n.accepted n.refused n.turned in
    elim c.match-mend.branch [
      | in-Ok w ↦
          let done = w.in-Ok.ensures.call.done in
          let small : w.in-Ok.turned ≤ 3 = omega (arith, done.1.3, done.1.1.close, reach_within b', (g.C.Corrector.few l.self.corrector).1) in
          let p = subst Goal (sym w.counts-is)
          (omega (arith, l.invariant.1, w.from.ensures), swept_more b b' b'' laws few same same' l.row l.counts.accepted l.counts.refused l.counts.turned row l.invariant.2 w.from.result (subst (λ (x : ℕ). Mended b' b'' l.row (Ok x)) (sym w.from.ensures) done)) in
          (k, p.0, p.1)
      | in-Err w ↦
          let p = subst Goal (sym w.counts-is)
          (omega (arith, l.invariant.1), swept_less b b' b'' laws few same same' l.row l.counts.accepted l.counts.refused l.counts.turned row l.invariant.2 w.in-Err.field-0 w.in-Err.ensures.call.done) in
          (k, p.0, p.1)
    ]

pub returns : goal.returns
returns g c =
    let self = c.args.self.now in
    let l = c.loop-row in
    let b = meaning g.C.Field g.C.Corrector g.M.Memory self in
    let b' = meaning g.C.Field g.C.Corrector g.M.Memory l.self in
    let same = kept_figures g.C.Field g.C.Corrector g.M.Memory self l.self l.invariant.0 in
    let e : l.row ≡ rows_of b = omega (arith, c.rows-row-end.ensures) in
    record {
      kept = l.invariant.0;
      call = sweep_call b b' (g.C.Field.lawful self.corrector) (g.C.Corrector.few self.corrector) same l.counts.accepted l.counts.refused l.counts.turned
          (subst (λ (i : ℕ). SweptTo b b'.memory i l.counts.accepted l.counts.refused l.counts.turned) e l.invariant.2);
    }
