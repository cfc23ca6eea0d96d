use Rattle.std.proofs.Common.{◌≡◌, ◌/◌, ◌%◌, ◌^◌, ◌<◌, get_or, length, rules, arith, ap, ◌∙◌}
use lib.Bits.{bit_xor}
use Rattle.bits.proofs.Turning.{word_turned, set_turns}
use Rattle.bits.proofs.turn_bit.Goals as goal

pub returns : goal.returns
returns g c =
    let e = g.E.Element in
    let laws = g.met.E.Element in
    let within : c.args.j / e.WIDTH < length c.args.buffer.now = search rules in
    let read : c.in_ok-element.element.now ≡ get_or c.args.buffer.now (c.args.j / e.WIDTH) c.in_ok-element.element.now = search rules in
    let place : c.args.j % e.WIDTH < e.WIDTH = omega (arith, laws.wide) in
    let word = word_turned c.to_word.result e.WIDTH (c.args.j % e.WIDTH) c.to_word.ensures.fits place laws.narrow in
    let turned : e.number c.from_word.result ≡ bit_xor (e.number c.in_ok-element.element.now) (2 ^ (c.args.j % e.WIDTH)) =
    rw c.WIDTH-2.ensures at c.from_word.ensures ∙ word ∙ ap (λ x. bit_xor x (2 ^ (c.args.j % e.WIDTH))) c.to_word.ensures.same in
    rw c.WIDTH-3.ensures (set_turns e.number e.numbers laws.each e.WIDTH c.args.buffer.now c.args.j _ c.from_word.result laws.wide within read turned)
