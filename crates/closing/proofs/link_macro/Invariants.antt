-- `link_macro` gives what the look at all tokens but the last decides. The loop keeps that the look from the next token on, with what has been
-- seen, gives the same. Assumes nothing.
use mathlib.Core.Path.{◌≡◌}
use Rattle.closing.proofs.LinkLaws.{on_from}
use Rattle.closing.specs.Link.{link_macro}
use Rattle.closing.proofs.link_macro.Given as goal

abbrev pub invariant-loop-i : goal.invariant-loop-i
invariant-loop-i l = on_from l.kinds l.pairs l.seen l.i ≡ link_macro l.kinds l.pairs
