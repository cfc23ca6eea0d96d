use Rattle.std.proofs.Common.{◌≡◌, length, rules, sym, ◌∙◌}
use Rattle.memory.proofs.Stores.{length-numbers, whole_most, lent_knocked}
use Rattle.memory.proofs.lent.LentCellsMemory.knock.Goals as goal

pub returns : goal.returns
returns g c =
    let e = g.E.Element in
    let laws = g.met.E.Element in
    let xs = c.args.self.now.elements.now in
    let lengths = length-numbers e.number e.numbers laws.each in
    let kept : length (e.numbers c.turn_run.new.elements) ≡ length (e.numbers xs) = lengths c.turn_run.new.elements ∙ search rules ∙ sym (lengths xs) in
    lent_knocked e.WIDTH _ (e.numbers xs) _ (whole_most e.WIDTH laws.wide laws.whole) kept c.args.from c.args.length c.turn_run.result (rw c.cells-cells.ensures at c.turn_run.ensures)
