use Rattle.std.proofs.Common.{◌≡◌, length, rules}
use Rattle.line.proofs.Numerals.{two_digits}
use Rattle.line.proofs.fields.byte.Goals as goal

pub returns : goal.returns
returns c =
    let n : length c.args.field.now ≡ 2 = search rules in
    two_digits c.args.field.now _ _ n c.in_ok-high.ensures c.in_ok-low.ensures
