-- `some_misplaced` compares each start with the end before it, and the last end with the text. The loop's invariant (`passed`): the rest decides as the whole does. Assumes nothing.
use Rattle.std.proofs.Common.{◌*◌, ◌≡◌}
use lib.ListN.{drop}
use Rattle.token.proofs.Checks.{passed}
use Rattle.token.specs.Line.{misplaced}
use Rattle.token.proofs.line.some_misplaced.Given as goal

abbrev pub invariant-loop-offset : goal.invariant-loop-offset
invariant-loop-offset l = passed l.size l.end (drop (2 * l.offset-index) l.pairs) ≡ misplaced l.size 0 l.pairs
