use Rattle.std.proofs.Common.{◌≡◌, ℕ, ◌<◌, get_or}
use Rattle.galois.specs.Model.{units, power}
use Rattle.galois.specs.Cosets.{walk}
use Rattle.bch.specs.Steps.{coefficient}
use Rattle.bch.proofs.code.Code.coefficients.Given as goal

abbrev pub invariant-loop : goal.invariant-loop
invariant-loop g l =
    let F = g.F.Field.model l.f in
    (l.first ≡ (walk (units F) l.counter).first)
    × (l.here ≡ (walk (units F) l.counter).here)
    × (l.lead ≡ power F l.first)
    × (l.root ≡ power F l.here)
    × ((i : ℕ) → i < 25 → get_or l.g i 0 ≡ coefficient F l.counter i)
