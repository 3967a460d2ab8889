-- `name_of` gives the first name that is the same, by the tests that failed before it. Assumes nothing.
use Rattle.std.proofs.Common.{sym}
use Rattle.attr_ir.specs.Ir.{name_of}
use Rattle.attr_ir.proofs.naming.name_of.Goals as goal
use Rattle.attr_ir.proofs.naming.name_of.Goals.{then-name_is-via-then-name_is, then-name_is-via-else-name_is+then-name_is-2, then-name_is-5-via-then-name_is-5, then-name_is-5-via-else-name_is-5+then-name_is-6}

pub returns-then-name_is : goal.returns-then-name_is
unfolding name_of
returns-then-name_is c =
    elim c.then-name_is.branch [
      | then-name_is-via-then-name_is w ↦ sym (rw (← w.if-name_is.ensures))
      | then-name_is-via-else-name_is+then-name_is-2 w ↦ sym (rw (← w.if-name_is.ensures, ← w.if-name_is-2.ensures))
    ]

pub returns-then-name_is-3 : goal.returns-then-name_is-3
unfolding name_of
returns-then-name_is-3 c = sym (rw (← c.if-name_is.ensures, ← c.if-name_is-2.ensures, ← c.if-name_is-3.ensures))

pub returns-then-name_is-4 : goal.returns-then-name_is-4
unfolding name_of
returns-then-name_is-4 c = sym (rw (← c.if-name_is.ensures, ← c.if-name_is-2.ensures, ← c.if-name_is-3.ensures, ← c.if-name_is-4.ensures))

pub returns-then-name_is-5 : goal.returns-then-name_is-5
unfolding name_of
returns-then-name_is-5 c =
    elim c.then-name_is-5.branch [
      | then-name_is-5-via-then-name_is-5 w ↦ sym (rw (← c.if-name_is.ensures, ← c.if-name_is-2.ensures, ← c.if-name_is-3.ensures, ← c.if-name_is-4.ensures, ← w.if-name_is-5.ensures))
      | then-name_is-5-via-else-name_is-5+then-name_is-6 w ↦ sym (rw (← c.if-name_is.ensures, ← c.if-name_is-2.ensures, ← c.if-name_is-3.ensures, ← c.if-name_is-4.ensures, ← w.if-name_is-5.ensures, ← w.if-name_is-6.ensures))
    ]

pub returns : goal.returns
unfolding name_of
returns c = sym (rw (← c.if-name_is.ensures, ← c.if-name_is-2.ensures, ← c.if-name_is-3.ensures, ← c.if-name_is-4.ensures, ← c.if-name_is-5.ensures, ← c.if-name_is-6.ensures))
