use Rattle.std.proofs.Common.{arith}
use Rattle.galois.proofs.Powers.{next_power}
use Rattle.corrector.proofs.elements.PositionsIterator.next.Goals as goal

pub invariant_of-self : goal.invariant_of-self
invariant_of-self g c =
    let s = c.args.self.now in record {
      placed =
          next_power (g.F.Field.model s.field.now) (g.F.Field.lawful s.field.now) c.alpha.result s.element c.mul-self.result s.next
          c.alpha.ensures s.placed c.mul-self.ensures;
      within = let le = s.within in omega arith;
    }
