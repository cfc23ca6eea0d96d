use Rattle.std.proofs.Common.{◌≡◌, ℕ, ◌<◌, length, get_or}
use Rattle.galois.specs.Ring.{numbers}
use Rattle.galois.specs.Model.{size}
use Rattle.galois.specs.Polynomials.{before, factor}
use Rattle.bch.proofs.generator.times_factor.Given as goal

abbrev pub invariant-loop-i : goal.invariant-loop-i
invariant-loop-i g l =
    let F = g.F.Field.model l.f in
    (length l.product ≡ 25)
    × (l.below ≡ before (numbers F) (λ j. get_or l.fn.g j 0) l.i)
    × (l.below < size F)
    × ((k : ℕ) → k < l.i → get_or l.product k 0 ≡ factor (numbers F) l.a (λ j. get_or l.fn.g j 0) k)
