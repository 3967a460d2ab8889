-- `put_groups` writes a row for each group. The loop's invariant (`Grouping`): the rows written and those of the groups left are those of the whole; whether the list
-- has an id stays as it was. What falls is how many places are left. Assumes nothing.
use Rattle.std.proofs.Common.{◌≡◌, ◌-◌}
use Rattle.put_rows.proofs.GroupRows.{Grouping}
use Rattle.put_rows.proofs.Written.put_groups.Given as goal

abbrev pub invariant-loop-end : goal.invariant-loop-end
invariant-loop-end l =
    record { grouping : Grouping l.places.kinds.now l.delimiter l.tag l.places.from.0 l.places.to.0 l.initial.rows l.fn.self.rows l.from.0 l.rows l.written.rows; id : l.written.id ≡ l.fn.self.id }

abbrev pub decreases-loop-end : goal.decreases-loop-end
decreases-loop-end l = l.places.to.0 - l.from.0
