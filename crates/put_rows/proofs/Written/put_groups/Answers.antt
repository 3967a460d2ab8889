-- `put_groups` writes a row for each group: the laws of `Grouping`, at its begin, at a group and at its end. Assumes nothing.
use Rattle.std.proofs.Common.{arith, refl, ◌∙◌}
use Rattle.put_rows.proofs.GroupRows.{grouping-start, grouping-next, grouping-done}
use Rattle.put_rows.proofs.Outcomes.{told}
use Rattle.put_rows.proofs.Written.put_groups.Goals as goal

pub loop-end-init : goal.loop-end-init
loop-end-init c = record { grouping = grouping-start _ _ _ _ _ _ _ (omega arith); id = refl }

pub invariant_of-left : goal.invariant_of-left
invariant_of-left c = record { within = (c.loop-end.invariant.grouping.high, omega arith) }

pub put_group-written-requires-clause-room : goal.put_group-written-requires-clause-room
put_group-written-requires-clause-room c =
    let g = c.loop-end.invariant.grouping in
    let f = c.find_kind-end.ensures.found in
    omega (arith, g.few, g.low, g.high, g.long, f.low, f.high, c.requires.room)

pub returns-then-places-end : goal.returns-then-places-end
returns-then-places-end c = λ text pairs.
    let l = c.loop-end in
    let g = l.invariant.grouping in
    let f = c.find_kind-end.ensures.found in
    let put = c.put_group-written.ensures in
    told _ _ _ _ _ _ refl _
    (record { wrote = grouping-done _ _ _ _ _ _ _ l.from.0 l.rows l.written.rows _ g f _ _ put.rows.wrote put.rows.few c.if-places-end.true text pairs; id = put.id ∙ l.invariant.id })
    (omega (arith, put.rows.few, g.few, g.low, f.high, f.low))

pub loop-end-smaller : goal.loop-end-smaller
loop-end-smaller c = omega (arith, c.find_kind-end.ensures.found.low, c.if-places-end.false)

pub loop-end-preserved : goal.loop-end-preserved
loop-end-preserved c =
    let l = c.loop-end in
    let put = c.put_group-written in
    record {
      grouping = grouping-next _ _ _ _ _ _ _ l.from.0 l.rows l.written.rows _ l.invariant.grouping c.find_kind-end.ensures.found _ _ put.ensures.rows.wrote put.ensures.rows.few c.if-places-end.false put.auto.rows;
      id = put.ensures.id ∙ l.invariant.id;
    }
