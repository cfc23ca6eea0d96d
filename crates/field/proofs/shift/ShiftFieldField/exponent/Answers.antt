use Rattle.std.proofs.Common.{sym, refl, ap, ◌∙◌, mod-lt, arith, pow_pos, below_more}
use Rattle.galois.specs.House.{shift}
use Rattle.galois.specs.Model.{power}
use Rattle.field.proofs.Turns.{power-next, found, not_found}
use Rattle.field.proofs.shift.ShiftFieldField.exponent.Goals as goal

pub loop-p-init : goal.loop-p-init
unfolding power
loop-p-init c = (refl, λ q h _. omega arith)

pub loop-p-preserved : goal.loop-p-preserved
loop-p-preserved c =
    let m = c.args.self.now.m in
    let l = c.loop-p in (
      c.times_alpha-y.ensures ∙ ap (shift m) l.invariant.0 ∙ power-next m l.p c.args.self.now.fit,
      below_more _ l.p l.invariant.1 (λ e. c.if-y-x.false (l.invariant.0 ∙ e)),
    )

pub returns-then-y-x : goal.returns-then-y-x
returns-then-y-x c =
    let l = c.loop-p in
    found c.args.self.now.m _ l.p c.args.self.now.fit (omega arith) (sym l.invariant.0 ∙ c.if-y-x.true ∙ c.element-x.ensures)

pub returns : goal.returns
returns c =
    let m = c.args.self.now.m in
    let l = c.loop-p in
    not_found m _ c.units-n.result c.args.self.now.fit (mod-lt c.args.a (pow_pos m)) c.units-n.ensures
    (λ q h e. l.invariant.1 q (omega arith) (e ∙ sym c.element-x.ensures))
