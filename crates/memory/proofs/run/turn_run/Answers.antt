use Rattle.std.proofs.Common.{arith}
use Rattle.memory.proofs.Bits.{run_more}
use Rattle.memory.proofs.run.turn_run.Goals as goal

pub loop-k-preserved : goal.loop-k-preserved
loop-k-preserved g c = run_more g.E.Element.WIDTH _ _ _ c.args.from c.loop-k.k c.in_ok-turn_bit.field-0 (omega arith) c.loop-k.invariant c.in_ok-turn_bit.ensures
