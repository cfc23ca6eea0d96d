use Rattle.std.proofs.Common.{Err, rules}
use Rattle.refusal.specs.declared.Refusal.TheVariants.{Length}
use Rattle.corrector.proofs.Unique.{too_long, told_same, told_other, same_answers, same_copies}
use Rattle.corrector.proofs.comparison.agree.Goals as goal
use Rattle.corrector.proofs.comparison.agree.Goals.{else-eq-via-then-eq+else-same_bytes, else-eq-via-else-eq}

pub returns-then-row-gt32-clause-compared : goal.returns-then-row-gt32-clause-compared
returns-then-row-gt32-clause-compared g c = (
  c.args.row.now,
  Err Length,
  too_long (g.C.Field.model c.args.c.now) (g.C.Field.lawful c.args.c.now) (g.C.Corrector.strength c.args.c.now) c.args.row.now c.if-row-gt32.true,
  too_long (g.D.Field.model c.args.d.now) (g.D.Field.lawful c.args.d.now) (g.D.Corrector.strength c.args.d.now) c.args.row.now c.if-row-gt32.true,
)

pub returns-then-same_bytes-clause-compared : goal.returns-then-same_bytes-clause-compared
returns-then-same_bytes-clause-compared g c =
    told_same (g.C.Field.model c.args.c.now) (g.D.Field.model c.args.d.now) (g.C.Field.lawful c.args.c.now)
    (g.C.Corrector.strength c.args.c.now) (g.D.Corrector.strength c.args.d.now) c.args.row.now _ c.padded-first.result c.padded-second.result
    c.correct-one.new.row c.correct-two.new.row c.correct-one.result c.correct-two.result c.padded-first.ensures c.padded-second.ensures
    c.correct-one.ensures c.correct-two.ensures (search rules) (search rules)

pub returns-else-eq : goal.returns-else-eq
returns-else-eq g c =
    let told = told_other (g.C.Field.model c.args.c.now) (g.D.Field.model c.args.d.now) (g.C.Field.lawful c.args.c.now)
    (g.C.Corrector.strength c.args.c.now) (g.D.Corrector.strength c.args.d.now) c.args.row.now _ c.padded-first.result c.padded-second.result
    c.correct-one.new.row c.correct-two.new.row c.correct-one.result c.correct-two.result c.padded-first.ensures c.padded-second.ensures
    c.correct-one.ensures c.correct-two.ensures in
    let answers = same_answers (g.C.Field.model c.args.c.now) (g.D.Field.model c.args.d.now) (g.C.Field.lawful c.args.c.now)
    (g.C.Corrector.strength c.args.c.now) (g.D.Corrector.strength c.args.d.now) c.args.row.now _ c.padded-first.result c.padded-second.result
    c.correct-one.new.row c.correct-two.new.row c.correct-one.result c.correct-two.result c.padded-first.ensures c.padded-second.ensures
    c.correct-one.ensures c.correct-two.ensures in
    let copies = same_copies (g.C.Field.model c.args.c.now) (g.D.Field.model c.args.d.now) (g.C.Field.lawful c.args.c.now)
    (g.C.Corrector.strength c.args.c.now) (g.D.Corrector.strength c.args.d.now) c.args.row.now _ c.padded-first.result c.padded-second.result
    c.correct-one.new.row c.correct-two.new.row c.correct-one.result c.correct-two.result c.padded-first.ensures c.padded-second.ensures
    c.correct-one.ensures c.correct-two.ensures in
    elim c.else-eq.branch [
      | else-eq-via-then-eq+else-same_bytes w ↦ record {
        compared = told (λ _ e. search (rules, w.if-same_bytes.ensures.same.1 e));
        alike = λ eF et. search (rules, w.if-same_bytes.ensures.same.1 (copies eF et w.if-same_bytes.ensures.bytes));
      }
      | else-eq-via-else-eq w ↦ record {
        compared = told (λ e _. let z = w.if-eq.ensures in search rules);
        alike = λ eF et. let e = answers eF et in let z = w.if-eq.ensures in search rules;
      }
    ]
