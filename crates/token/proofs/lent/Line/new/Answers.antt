-- A line that no check refuses is one that may be lent.
use Rattle.std.proofs.Common.{arith, sym}
use Rattle.token.proofs.LineLaws.{lent}
use Rattle.token.specs.Line.{most_tokens}
use Rattle.token.proofs.lent.Line.new.Goals as goal

pub invariant_of-result : goal.invariant_of-result
invariant_of-result c = record { lent = lent most_tokens _ _ _ (omega arith) (sym c.in_ok-check_line.ensures) }
