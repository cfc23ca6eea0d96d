use Rattle.std.proofs.Common.{ℕ, Ok, subst, w16, SFits, rules}
use Rattle.std.proofs.lemmas.Int.{to_z-of_z}
use Rattle.book.specs.Meaning.{meaning}
use Rattle.table.specs.Calls.{EntryGot}
use Rattle.table.proofs.Looking.{looked-up}
use Rattle.table.proofs.Table.look_up.Goals as goal

pub returns-clause-call : goal.returns-clause-call
returns-clause-call g c =
    let self = c.args.self.now in
    let b = meaning g.C.Field g.C.Corrector g.M.Memory self.book in
    let here = c.locate-position.ensures in
    let x = c.in_ok-entry.entry in
    let y = c.in_ok-next.next in
    let s = c.blend.result in
    let fx : SFits w16 x = search rules in
    let fy : SFits w16 y = search rules in
    let fs : SFits w16 s = search rules in
    looked-up b self.entries c.args.angle c.entries-entries.result c.locate-position.result.index c.entries-entries.ensures.0 here.index
    c.next_index.result c.next_index.ensures.value x
    (subst (λ (m : ℕ). EntryGot b self.entries m (Ok x)) c.from.ensures c.in_ok-entry.ensures)
    c.locate-position.result.fraction y s _ _ _ here.fraction
    (subst (λ (m : ℕ). EntryGot b self.entries m (Ok y)) c.from-2.ensures c.in_ok-next.ensures)
    (to_z-of_z w16 x fx) (to_z-of_z w16 y fy) (to_z-of_z w16 s fs) c.blend.ensures.law
