use Rattle.std.proofs.Common.{◌≡◌, ◌≤◌}
use Rattle.bits.specs.Bits.{bit_at}
use Rattle.galois.specs.Model.{units}
use Rattle.galois.specs.Rows.{Few}
use Rattle.field.specs.Syndromes.{syndromes_of}
use Rattle.direct_corrector.proofs.Rooting.{Known}
use Rattle.direct_corrector.proofs.direct.RootsSearchMethod.search.Given as goal

abbrev pub invariant-loop-p : goal.invariant-loop-p
invariant-loop-p g l =
    let F = g.F.Field.model l.f in
    (g.F.Field.model l.p-iterator.field.now ≡ F) × (l.count ≤ l.p-iterator.next)
    × (Few l.t → l.sums ≡ syndromes_of F (bit_at 8 l.initial.row) (units F) → Known F l.t l.initial.row l.row l.p-iterator.next l.count l.left)
