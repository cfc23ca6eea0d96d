use Rattle.std.proofs.Common.{◌≡◌, ◌+◌, false, cond, eqb, ltb, arith, ap, ◌∙◌, ap₂, subst}
use Rattle.bits.specs.Bits.{bit_of}
use Rattle.bits.specs.Calls.{Got, Changed}
use Rattle.bch.specs.Steps.{laid}
use Rattle.bch.proofs.Laying.{below_put, laid-none, laid-put}
use Rattle.bch.proofs.code.Code.lay.Goals as goal

pub loop-j-preserved : goal.loop-j-preserved
loop-j-preserved g c = λ i.
    let l = c.loop-j in
    let put = subst (Changed 8 (λ _. bit_of c.args.check l.j) l.row c.put_bit.new.buffer l.j) c.unwrap.ensures c.put_bit.ensures in
    put.1 i ∙ ap (cond (eqb i l.j) (bit_of c.args.check l.j)) (l.invariant i) ∙ below_put (bit_of c.args.check) l.j i

pub loop-j-2-init : goal.loop-j-2-init
loop-j-2-init g c = λ i.
    let e : c.loop-j.j ≡ c.from-r.result = omega arith in
    c.loop-j.invariant i ∙ ap (λ j. cond (ltb i j) (bit_of c.args.check i) false) e ∙ laid-none c.args.check c.from-r.result c.args.«data».now i

pub loop-j-2-preserved : goal.loop-j-2-preserved
loop-j-2-preserved g c = λ i.
    let l = c.loop-j-2 in
    let r = c.from-r.result in
    let given = c.args.«data».now in
    let got = subst (Got 8 given l.j) c.unwrap-in-loop-j-2.ensures c.bit.ensures in
    let put =
    subst (Changed 8 (λ _. c.unwrap-in-loop-j-2.result) l.row c.put_bit-in-loop-j-2.new.buffer (r + l.j)) c.unwrap-in-loop-j-2-2.ensures c.put_bit-in-loop-j-2.ensures
    in
    put.1 i ∙ ap₂ (cond (eqb i (r + l.j))) got.1 (l.invariant i) ∙ laid-put c.args.check r given l.j i

pub returns : goal.returns
returns g c = λ j.
    let e : c.loop-j-2.j ≡ c.from-k.result = omega arith in
    c.loop-j-2.invariant j
    ∙ ap₂ (λ r k. laid c.args.check r c.args.«data».now k j) (c.from-r.ensures ∙ c.check_cells.ensures.value) (e ∙ c.from-k.ensures ∙ c.data_cells.ensures)
