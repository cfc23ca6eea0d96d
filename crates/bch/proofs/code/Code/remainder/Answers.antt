use Rattle.std.proofs.Common.{arith, pow_pos}
use Rattle.bits.specs.Bits.{bit_at}
use Rattle.bch.proofs.Turns.{register-set, register-clear, register-none}
use Rattle.bch.proofs.code.Code.remainder.Goals as goal

pub loop-s-init : goal.loop-s-init
loop-s-init g c =
    (omega arith, pow_pos c.check_cells-r.result, register-none c.args.g c.check_cells-r.result (bit_at 8 c.args.«data».now) c.from-k.result)

pub loop-s-preserved-then-top-data : goal.loop-s-preserved-then-top-data
loop-s-preserved-then-top-data g c =
    let l = c.loop-s in
    register-set c.args.g c.check_cells-r.result (bit_at 8 c.args.«data».now) l.s c.from-k.result l.all c.check_cells-r.ensures.within.1
    c.loop-s-test.true l.invariant.0 l.invariant.2 c.if-top-data.true

pub loop-s-preserved : goal.loop-s-preserved
loop-s-preserved g c =
    let l = c.loop-s in
    register-clear c.args.g c.check_cells-r.result (bit_at 8 c.args.«data».now) l.s c.from-k.result l.all c.check_cells-r.ensures.within.1
    c.loop-s-test.true l.invariant.0 l.invariant.2 c.if-top-data.false
