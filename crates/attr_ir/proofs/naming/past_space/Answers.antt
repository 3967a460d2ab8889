-- `past_space` passes over one Whitespace, if the first token kept is one. Assumes nothing.
use Rattle.std.proofs.Common.{arith}
use Rattle.attr_ir.proofs.Values.{less-empty, less-blank, less-word}
use Rattle.attr_ir.proofs.naming.past_space.Goals as goal
use Rattle.attr_ir.proofs.naming.past_space.Goals.{else-start-places-via-then-start-places+else-places-start, else-start-places-via-else-start-places}

pub returns-then-places-start : goal.returns-then-places-start
returns-then-places-start c =
    let s = c.first_kept-start.ensures.part in
    record { low = omega (arith, s.part.low); mid = omega arith; high = omega arith; same = λ text pairs. less-blank _ _ _ _ s text pairs c.if-start-places.true c.if-places-start.true }

pub returns : goal.returns
returns c =
    let s = c.first_kept-start.ensures.part in
    record {
      low = s.part.low;
      mid = s.part.mid;
      high = omega arith;
      same = λ text pairs. elim c.else-start-places.branch [
        | else-start-places-via-then-start-places+else-places-start w ↦ less-word _ _ _ _ s text pairs w.if-start-places.true w.if-places-start.false
        | else-start-places-via-else-start-places w ↦ less-empty _ _ _ _ s text pairs w.if-start-places.false
      ];
    }
