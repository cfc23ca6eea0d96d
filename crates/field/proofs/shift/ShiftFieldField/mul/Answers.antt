use Rattle.std.proofs.Common.{◌≡◌, ◌+◌, ◌-◌, ◌/◌, sym, ap, ◌∙◌, ap₂, arith}
use lib.Bits.{bit_xor}
use Rattle.galois.specs.House.{product}
use Rattle.field.proofs.Turns.{product-next, product-done, added, not_added}
use Rattle.field.proofs.shift.ShiftFieldField.mul.Goals as goal
use Rattle.field.proofs.shift.ShiftFieldField.mul.Goals.{then-left-eq1, else-left-eq1}

pub loop-init : goal.loop-init
loop-init c =
    let m = c.args.self.now.m in
    let whole : m - 0 ≡ m = omega arith in
    ap (λ k. product m k c.element-left.result c.element-by.result) whole
    ∙ ap₂ (product m m) c.element-left.ensures c.element-by.ensures

pub loop-preserved : goal.loop-preserved
loop-preserved c =
    let m = c.args.self.now.m in
    let l = c.loop in
    ap₂ (λ s b. bit_xor s (product m (m - (l.counter + 1)) (l.left / 2) b))
    (elim c.if-left-eq1.branch [
      | then-left-eq1 w ↦ w.sum-is ∙ added l.sum l.left l.by w.if-left-eq1.true
      | else-left-eq1 w ↦ w.sum-is ∙ not_added l.sum l.left l.by w.if-left-eq1.false
    ])
    c.times_alpha-by.ensures
    ∙ product-next m l.counter l.sum l.left l.by c.loop-test.true ∙ l.invariant

pub returns : goal.returns
returns c =
    let l = c.loop in
    sym (product-done c.args.self.now.m l.counter l.sum l.left l.by c.loop-test.false) ∙ l.invariant
