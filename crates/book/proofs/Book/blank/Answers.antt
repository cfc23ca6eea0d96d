use Rattle.std.proofs.Common.{rules}
use Rattle.book.specs.Meaning.{meaning}
use Rattle.book.proofs.Leading.{at, blank_led}
use Rattle.book.proofs.Book.blank.Goals as goal

pub returns-clause-history : goal.returns-clause-history
returns-clause-history g c =
    let book = c.open-book.result in
    let b = at (meaning g.C.Field g.C.Corrector g.M.Memory book) (g.M.Memory.means c.zero.new.memory) in
    blank_led b (g.C.Field.lawful book.corrector) (g.C.Corrector.few book.corrector) (g.M.Memory.means book.memory) (search rules)
