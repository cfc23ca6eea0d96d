use Rattle.worked_rows.proofs.Working.{worked_rows}
use Rattle.worked_rows.proofs.rows_are_worked.Goals as goal

pub returns : goal.returns
returns c = worked_rows
