use Rattle.std.proofs.Common.{take, sym, ◌∙◌, w16, SFits, arith, rules}
use Rattle.std.proofs.lemmas.Int.{to_z-of_z}
use Rattle.book.specs.Meaning.{meaning}
use Rattle.table.specs.Model.{room}
use Rattle.table.proofs.Reading.{entry_of_first, entry_got}
use Rattle.table.proofs.Table.entry.Goals as goal

pub returns : goal.returns
returns g c =
    let self = c.args.self.now in
    let b = meaning g.C.Field g.C.Corrector g.M.Memory self.book in
    let at = c.in_ok-row.ensures in
    let got = c.in_ok-buffer.ensures in
    let f : SFits w16 c.entry_at.result = search rules in
    let first = entry_of_first (room b) c.in_ok-row.place c.in_ok-buffer.buffer (omega (arith, at.1.inside)) in
    entry_got b self.entries c.args.i c.in_ok-row.row c.in_ok-row.place at.0 at.1 (take (room b) c.in_ok-buffer.buffer) got.0 _ got.1
    (to_z-of_z w16 c.entry_at.result f ∙ c.entry_at.ensures ∙ sym first)
