-- `list_rows` writes the rows of the attributes, first to last: the laws of `Listing`, at a comma and at the end. Assumes nothing.
use Rattle.std.proofs.Common.{arith}
use Rattle.list_rows.proofs.Attributes.{comma-room, next, last}
use Rattle.list_rows.proofs.list_rows.Goals as goal

pub invariant_of-attribute : goal.invariant_of-attribute
invariant_of-attribute c =
    let v = comma-room _ _ _ _ _ _ _ _ _ _ c.loop-comma.invariant _ c.from.ensures c.loop-comma-test.true c.requires.room in
    record { within = (v.0, omega (arith, v.1, c.requires.among)) }

pub attr_rows-written-requires : goal.attr_rows-written-requires
attr_rows-written-requires c = (comma-room _ _ _ _ _ _ _ _ _ _ c.loop-comma.invariant _ c.from.ensures c.loop-comma-test.true c.requires.room).2

pub loop-comma-preserved : goal.loop-comma-preserved
loop-comma-preserved c = next _ _ _ _ _ _ _ _ _ _ c.loop-comma.invariant _ c.from.ensures c.loop-comma-test.true _ _ c.attr_rows-written.ensures

pub returns : goal.returns
returns c = last _ _ _ _ _ _ _ _ _ _ c.loop-comma.invariant c.loop-comma-test.false _ _ c.attr_rows-last.ensures
