use Rattle.std.proofs.Common.{refl, ◌∙◌, arith, rules}
use Rattle.std.proofs.lemmas.Iterator.{YieldsList-from_range}
use Rattle.std.proofs.lemmas.Iterator.Consumers.{fold_from_yields_List}
use Rattle.galois.specs.House.{shift}
use Rattle.galois.specs.Model.{power}
use Rattle.field.proofs.Turns.{power-fold}
use Rattle.field.proofs.shift.ShiftField.power.Goals as goal

pub returns : goal.returns
unfolding power
returns c =
    let m = c.args.self.now.m in
    let p = c.args.p in
    fold_from_yields_List _ (λ y _. shift m y) _ _ c.fold.ensures.ran (YieldsList-from_range 0 p p refl (omega arith)) (λ a x b q k. search rules)
    ∙ power-fold m 0 0 p p 1 c.args.self.now.fit (omega arith) refl
