use Rattle.std.proofs.Common.{◌≡◌, ◌≤◌}
use Rattle.bits.specs.Bits.{bit_at, Buffer}
use Rattle.galois.specs.Model.{units}
use Rattle.galois.specs.Rows.{Few}
use Rattle.field.specs.Syndromes.{syndromes_of}
use Rattle.step_corrector.proofs.Stepping.{Known}
use Rattle.step_corrector.proofs.stepwise.StepsSearchMethod.search.Given as goal

abbrev pub invariant-loop-place : goal.invariant-loop-place
invariant-loop-place g l =
    let F = g.F.Field.model l.f in
    (g.F.Field.model l.place-iterator.field.now ≡ F) × (l.count ≤ l.place-iterator.next)
    × (Few l.t → Buffer (units F) l.initial.row → l.initial.stands.sums ≡ syndromes_of F (bit_at 8 l.initial.row) (units F)
    → Known F l.t l.initial.row l.row l.place-iterator.next l.count l.stands)
