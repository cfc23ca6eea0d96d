use Rattle.std.proofs.Common.{◌≡◌, ◌+◌, ◌*◌}
use Rattle.bits.specs.Bits.{bit_at}
use Rattle.galois.specs.Model.{power}
use Rattle.field.specs.Syndromes.{syndromes_of}
use Rattle.field.proofs.Field.syndromes.Given as goal

abbrev pub invariant-loop-byte : goal.invariant-loop-byte
invariant-loop-byte g l =
    let F = g.Self.Field.model l.self in
    (l.sums ≡ syndromes_of F (bit_at 8 l.row) (8 * l.byte-index)) × (l.x ≡ power F (8 * l.byte-index))

abbrev pub invariant-loop-i : goal.invariant-loop-i
invariant-loop-i g l =
    let F = g.Self.Field.model l.self in
    (l.sums ≡ syndromes_of F (bit_at 8 l.row) (8 * l.byte-index + l.i)) × (l.x ≡ power F (8 * l.byte-index + l.i))
