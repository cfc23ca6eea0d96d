-- The two digits of the byte are those of its definition.
use Rattle.std.proofs.Common.{◌≡◌, ℕ, ◌/◌, ◌%◌, ◌<◌, true, arith}
use Rattle.std.specs.Fmt as W
use Rattle.std.proofs.lemmas.Fmt.{hex_byte}
use Rattle.line.specs.Digits.{hex_digit}
use Rattle.answer.proofs.AnswerDisplay.fmt.Goals as goal

glyph : (x : ℕ) → x < 16 → W.digit_glyph true x ≡ hex_digit x
glyph x h = grind arith

pub returns-in-Read-clause-writes : goal.returns-in-Read-clause-writes
returns-in-Read-clause-writes g c p o =
    let f : c.in-Read.byte < 256 = omega arith in
    let high = glyph (c.in-Read.byte / 16) (omega arith) in
    let low = glyph (c.in-Read.byte % 16) (omega arith) in
    let w = rw (c.laid_out.ensures, c.in_radix.ensures, hex_byte true c.in-Read.byte f, high, low) at c.write-in-Read.ensures.writes in
    rw c.in-Read.is (w p o)
