use Rattle.book.specs.Meaning.{meaning}
use Rattle.book.proofs.Leading.{knock_call}
use Rattle.book.proofs.Book.knock.Goals as goal

pub returns-clause-call : goal.returns-clause-call
returns-clause-call g c =
    let self = c.args.self.now in
    knock_call (meaning g.C.Field g.C.Corrector g.M.Memory self) (g.M.Memory.means c.knock.new.self) (g.C.Field.lawful self.corrector) (g.C.Corrector.few self.corrector)
    c.args.from c.args.length c.knock.result c.knock.ensures
