use Rattle.field.proofs.Reduced.{masked}
use Rattle.field.proofs.shift.ShiftField.element.Goals as goal

pub returns : goal.returns
returns c = masked c.args.self.now.m _ c.units.ensures c.args.a
