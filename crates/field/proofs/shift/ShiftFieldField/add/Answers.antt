use Rattle.std.proofs.Common.{◌∙◌}
use lib.Bits.{xor_mod}
use Rattle.field.proofs.shift.ShiftFieldField.add.Goals as goal

pub returns : goal.returns
returns c = c.element.ensures ∙ xor_mod c.args.a c.args.b c.args.self.now.m
