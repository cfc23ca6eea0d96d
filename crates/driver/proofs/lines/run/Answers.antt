use Rattle.std.proofs.Common.{[], ◌∷◌, ◌++◌, vec_items, refl}
use Rattle.std.proofs.lemmas.Result.{err_from_is_err_and}
use Rattle.book.specs.Meaning.{meaning}
use Rattle.book.proofs.Leading.{kept_on}
use Rattle.line.specs.Lines.{lines_of}
use Rattle.line.specs.Steps.{remaining}
use Rattle.driver.proofs.Running.{same_figures, goes_on, ends, stops}
use Rattle.driver.proofs.lines.run.Goals as goal

pub loop-line-preserved : goal.loop-line-preserved
loop-line-preserved g c =
    let b = meaning g.C.Field g.C.Corrector g.M.Memory c.args.book.now in
    let m = meaning g.C.Field g.C.Corrector g.M.Memory c.loop-line.book in
    let m' = meaning g.C.Field g.C.Corrector g.M.Memory c.run_line.new.book in
    let all = lines_of c.args.input.now in
    let left' = lines_of (remaining c.next.new.self) in
    let k = c.run_line.ensures.kept in (
      kept_on c.args.book.now c.loop-line.book c.run_line.new.book c.loop-line.invariant.0 k,
      goes_on b all m m' (lines_of (remaining c.loop-line.line-iterator)) left' c.in-Some.line.now (vec_items c.loop-line.answers)
          (vec_items c.push.new.self) c.run_line.result c.loop-line.invariant.1 c.in-Some.ensures.steps
          (same_figures g.C.Field g.C.Corrector g.M.Memory c.loop-line.book c.run_line.new.book k)
          c.run_line.ensures.call c.in_ok-push.ensures.items,
    )

pub returns-in_err-push-clause-answers : goal.returns-in_err-push-clause-answers
returns-in_err-push-clause-answers g c =
    let b = meaning g.C.Field g.C.Corrector g.M.Memory c.args.book.now in
    let m = meaning g.C.Field g.C.Corrector g.M.Memory c.loop-line.book in
    let m' = meaning g.C.Field g.C.Corrector g.M.Memory c.run_line.new.book in
    let all = lines_of c.args.input.now in
    let left' = lines_of (remaining c.next.new.self) in
    let told = vec_items c.loop-line.answers in
    let way = goes_on b all m m' (lines_of (remaining c.loop-line.line-iterator)) left' c.in-Some.line.now told (told ++ (c.run_line.result ∷ []))
    c.run_line.result c.loop-line.invariant.1 c.in-Some.ensures.steps
    (same_figures g.C.Field g.C.Corrector g.M.Memory c.loop-line.book c.run_line.new.book c.run_line.ensures.kept) c.run_line.ensures.call refl in
    let p = err_from_is_err_and c.from_residual.result c.from_residual.ensures.1 in
    rw p.1 (stops b all m' left' (told ++ (c.run_line.result ∷ [])) way)

pub returns-clause-answers : goal.returns-clause-answers
returns-clause-answers g c =
    let b = meaning g.C.Field g.C.Corrector g.M.Memory c.args.book.now in
    let m = meaning g.C.Field g.C.Corrector g.M.Memory c.loop-line.book in
    ends b (lines_of c.args.input.now) m (lines_of (remaining c.loop-line.line-iterator)) (vec_items c.loop-line.answers)
    c.loop-line.invariant.1 c.in-None.ensures.steps.0
