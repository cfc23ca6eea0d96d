-- The bytes so far are digits, and `value` is what they write.
use Rattle.std.proofs.Common.{◌≡◌, ◌^◌, ◌<◌, take}
use Rattle.std.specs.List.{AllByRecursion}
use Rattle.line.specs.Spelling.{Digit, value}
use Rattle.line.proofs.fields.number.Given as goal

abbrev pub invariant-loop-digit : goal.invariant-loop-digit
invariant-loop-digit l = AllByRecursion Digit (take l.digit-index l.field) × (l.value ≡ value (take l.digit-index l.field)) × (l.value < 10 ^ l.digit-index)
