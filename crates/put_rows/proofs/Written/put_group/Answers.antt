-- `put_group` writes one row for a group that has tokens when it is trimmed, and none for another. Assumes nothing.
use Rattle.std.proofs.Common.{arith}
use Rattle.put_rows.proofs.GroupRows.{group-none, group-some}
use Rattle.put_rows.proofs.Written.put_group.Goals as goal

pub returns-then-run-eq0-clause-rows : goal.returns-then-run-eq0-clause-rows
returns-then-run-eq0-clause-rows c =
    let t = c.trim-run in
    record { wrote = group-none _ _ _ t.result t.ensures.run _ _ _ c.if-run-eq0.true; few = omega arith }

pub returns-clause-rows : goal.returns-clause-rows
returns-clause-rows c =
    let t = c.trim-run in
    let some = c.if-run-eq0.false in
    record { wrote = group-some _ _ _ t.result t.ensures.run _ _ _ some _ c.one_run.ensures _ _ _ c.put_one.ensures; few = omega (arith, t.ensures.part.few, some, c.put_one.ensures.wrote.count) }
