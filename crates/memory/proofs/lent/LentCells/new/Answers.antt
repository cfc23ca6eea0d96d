use Rattle.memory.proofs.Bits.{packed_bits}
use Rattle.memory.proofs.lent.LentCells.new.Goals as goal

pub returns-clause-packed : goal.returns-clause-packed
returns-clause-packed g c = packed_bits g.E.Element.WIDTH (g.E.Element.numbers c.args.elements.now)
