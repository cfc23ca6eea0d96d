use Rattle.std.proofs.Common.{rules}
use Rattle.memory.proofs.Stores.{owner-learns-knock, knock_names}
use Rattle.memory.proofs.owners.knock_words.Goals as goal

pub returns : goal.returns
returns c =
    let lent = c.new.ensures.same.1 in
    let kept = knock_names 32 c.new.result.elements c.knock.new.self.elements _ _ c.knock.result c.knock.ensures in
    owner-learns-knock 32 c.args.words c.new.result.elements c.knock.new.self.elements _ _ _ c.knock.result
    c.new.ensures.same.0 (search rules) c.knock.ensures
