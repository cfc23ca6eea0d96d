use Rattle.std.proofs.Common.{◌<◌, ◌∙◌, subst, sym, arith}
use Rattle.bits.specs.Bits.{bit_at}
use Rattle.galois.specs.House.{house}
use Rattle.field.proofs.Summed.{sums_none}
use Rattle.field.proofs.ByteTables.{sum_byte}
use Rattle.field.proofs.table.TableFieldField.syndromes.Goals as goal

pub loop-q-init : goal.loop-q-init
loop-q-init c = sums_none (house c.args.self.now.base.m) (bit_at 8 c.args.row.now)

pub loop-q-preserved : goal.loop-q-preserved
loop-q-preserved c =
    let s = c.args.self.now in
    let l = c.loop-q in
    c.plus-sums.ensures
    ∙ sum_byte s.base.m l.q c.from.result l.sums c.args.row.now s.sums s.summed (omega arith)
    (subst (λ v. v < 256) (sym c.from.ensures) (omega (arith, c.type_inv.row l.q))) c.from.ensures l.invariant
