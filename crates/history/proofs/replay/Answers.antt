use Rattle.std.proofs.Common.{◌≡◌, length, refl, arith}
use Rattle.book.specs.Meaning.{meaning}
use Rattle.book.proofs.Leading.{kept_figures, kept_on}
use Rattle.history.proofs.Running.{ran_more, ran_all}
use Rattle.history.proofs.replay.Goals as goal

pub loop-i-preserved : goal.loop-i-preserved
loop-i-preserved g c =
    let b = meaning g.C.Field g.C.Corrector g.M.Memory c.args.book.now in
    let b' = meaning g.C.Field g.C.Corrector g.M.Memory c.loop-i.book in
    let b'' = meaning g.C.Field g.C.Corrector g.M.Memory c.make.new.book in
    let same = kept_figures g.C.Field g.C.Corrector g.M.Memory c.loop-i.book c.make.new.book c.make.ensures.kept in
    let long : length c.loop-i.answers ≡ length c.args.calls.now = omega arith in (
      kept_on c.args.book.now c.loop-i.book c.make.new.book c.loop-i.invariant.0 c.make.ensures.kept,
      ran_more b b' b'' c.args.calls.now c.loop-i.answers c.loop-i.i _ _ c.make.result same c.loop-i-test.true long refl c.make.ensures.made c.loop-i.invariant.1,
    )

pub returns : goal.returns
returns g c =
    let b = meaning g.C.Field g.C.Corrector g.M.Memory c.args.book.now in
    let b' = meaning g.C.Field g.C.Corrector g.M.Memory c.loop-i.book in
    let long : length c.loop-i.answers ≡ length c.args.calls.now = omega arith in
    let all = ran_all b b' c.args.calls.now c.loop-i.answers c.loop-i.i c.loop-i-test.false long c.loop-i.invariant.1 in
    record { kept = c.loop-i.invariant.0; run = (c.if-answers-calls.false, all.0, all.1) }
