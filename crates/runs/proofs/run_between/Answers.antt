-- `run_between` is the definition: a run, or the empty one. Assumes nothing.
use borrow.Author.Tests.{lt-ltb, le-ltb}
use Rattle.runs.proofs.run_between.Goals as goal

pub returns-then-from-to : goal.returns-then-from-to
returns-then-from-to c = rw (lt-ltb _ _ c.if-from-to.true)

pub returns : goal.returns
returns c = rw (le-ltb _ _ c.if-from-to.false)
