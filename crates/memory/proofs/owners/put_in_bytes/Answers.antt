use Rattle.std.proofs.Common.{rules}
use Rattle.memory.proofs.Stores.{owner-learns-put, put-names}
use Rattle.memory.proofs.owners.put_in_bytes.Goals as goal

pub returns : goal.returns
returns c =
    let lent = c.new.ensures.same.1 in
    let kept = put-names 8 c.new.result.elements c.put.new.self.elements _ _ c.put.result c.put.ensures in
    owner-learns-put 8 c.args.bytes c.new.result.elements c.put.new.self.elements _ _ _ c.put.result
    c.new.ensures.same.0 (search rules) c.put.ensures
