use Rattle.std.proofs.Common.{◌≡◌, ℕ, take, ℤ, ap₂, ◌∙◌, subst, w16, SFits, rules}
use Rattle.std.proofs.lemmas.Int.{to_z-of_z}
use Rattle.book.specs.Meaning.{meaning}
use Rattle.entry.specs.TwosComplement.{bytes_of, number_of}
use Rattle.table.specs.Model.{room, changed}
use Rattle.table.proofs.Putting.{put-done}
use Rattle.table.proofs.Table.put.Goals as goal

pub returns-clause-call : goal.returns-clause-call
returns-clause-call g c =
    let self = c.args.self.now in
    let b = meaning g.C.Field g.C.Corrector g.M.Memory self.book in
    let b' = meaning g.C.Field g.C.Corrector g.M.Memory c.write.new.self in
    let at = c.in_ok-row.ensures in
    let got = c.in_ok-buffer.ensures in
    let bytes = take (room b) c.in_ok-buffer.buffer in
    let held : c.bytes_for.result ≡ room b = search rules in
    let z = c.in_ok-entry.entry in
    let f : SFits w16 z = search rules in
    let e = to_z-of_z w16 z f in
    put-done b self.entries c.args.i c.in_ok-row.row c.in_ok-row.index at.0 at.1 c.args.value bytes
    got.0 z c.in_ok-entry.ensures.answer (subst (λ (q : ℤ). number_of (bytes_of q) ≡ q) e c.set_entry_at.ensures.back)
    got.1 b' c.write.result c.set_entry_at.new.bytes
    (c.set_entry_at.ensures.value ∙ ap₂ (λ (n : ℕ) (v : ℤ). changed (take n c.in_ok-buffer.buffer) c.in_ok-row.index v) held e) c.write.ensures.call
