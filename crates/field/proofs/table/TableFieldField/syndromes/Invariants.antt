use Rattle.std.proofs.Common.{◌≡◌, ◌*◌}
use Rattle.bits.specs.Bits.{bit_at}
use Rattle.galois.specs.House.{house}
use Rattle.field.specs.Syndromes.{syndromes_of}
use Rattle.field.proofs.table.TableFieldField.syndromes.Given as goal

abbrev pub invariant-loop-q : goal.invariant-loop-q
invariant-loop-q l = l.sums ≡ syndromes_of (house l.self.base.m) (bit_at 8 l.row) (8 * l.q)
