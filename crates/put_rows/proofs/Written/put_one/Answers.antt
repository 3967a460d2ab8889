-- `put_one` writes one row, and there is one row more. Assumes nothing.
use Rattle.put_rows.proofs.GroupRows.{wrote-row}
use Rattle.put_rows.proofs.Written.put_one.Goals as goal

pub returns : goal.returns
returns c = wrote-row _ _ _ _ _ c.put.ensures
