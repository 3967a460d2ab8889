-- `customize` goes through the parts. The loop's invariant: the set is held, and the parts still to come make of it what all
-- parts make of the set at the start. Assumes nothing.
use Prim.Native.Nat.{◌+◌, ◌-◌, ◌≤◌}
use mathlib.Core.Bool.{true}
use mathlib.Core.Path.{◌≡◌}
use Rattle.std.proofs.Common.{length}
use Rattle.substitutions.specs.Held.{held}
use Rattle.customize_subs.specs.Text.{split}
use Rattle.customize_subs.specs.Customizing.{through}
use Rattle.customize_subs.proofs.Places.{parts_from}
use Rattle.customize_subs.proofs.customize.Given as goal

abbrev pub invariant-loop-start : goal.invariant-loop-start
invariant-loop-start l = (l.start ≤ length l.text + 1) × ((held l.next ≡ true) × (through l.mode l.next (parts_from l.start l.text) ≡ through l.mode l.initial.next (split l.text)))

abbrev pub decreases-loop-start : goal.decreases-loop-start
decreases-loop-start l = length l.text + 1 - l.start
