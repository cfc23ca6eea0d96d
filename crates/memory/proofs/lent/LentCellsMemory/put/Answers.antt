use Rattle.std.proofs.Common.{◌≡◌, ◌*◌, ◌<◌, min, length, rules, sym, ◌∙◌}
use Rattle.memory.specs.Bottoms.{most}
use Rattle.memory.proofs.Stores.{length-numbers, whole_most, lent_put}
use Rattle.memory.proofs.lent.LentCellsMemory.put.Goals as goal

pub returns : goal.returns
returns g c =
    let e = g.E.Element in
    let laws = g.met.E.Element in
    let xs = c.args.self.now.elements.now in
    let lengths = length-numbers e.number e.numbers laws.each in
    let kept : length (e.numbers c.put_bit.new.buffer) ≡ length (e.numbers xs) = lengths c.put_bit.new.buffer ∙ search rules ∙ sym (lengths xs) in
    let within : c.args.i < min (e.WIDTH * length (e.numbers xs)) most = search rules in
    let same : c.in_ok-i.i ≡ c.args.i = search rules in
    lent_put e.WIDTH _ (e.numbers xs) _ (whole_most e.WIDTH laws.wide laws.whole) kept c.args.i c.args.v c.put_bit.result within (rw same at c.put_bit.ensures)
