-- `list_rows` writes the rows of the attributes, first to last. The loop's invariant (`Listing`): the rows written and the rows of the attributes left make the list's
-- rows, and there are no more of them than tokens passed. Assumes nothing.
use Rattle.token.specs.Checked.{line_in}
use Rattle.list_rows.proofs.ListRowsLaws.{Listing}
use Rattle.list_rows.proofs.list_rows.Given as goal

abbrev pub invariant-loop-comma : goal.invariant-loop-comma
invariant-loop-comma l = Listing (line_in l.line) l.commas l.end.0 l.block l.initial.rows l.rows l.from.0 l.written.rows l.written.id l.comma-index
