-- `take_flags` lets each place take its kind's flag. The loop's invariant: the flags still there, and the places still to come,
-- leave what the whole leaves. Assumes nothing.
use Prim.Native.Nat.{◌<◌}
use mathlib.Core.Path.{◌≡◌}
use lib.ListN.{drop}
use Rattle.substitutions.specs.Loops.{left}
use Rattle.substitutions.proofs.rules.take_flags.Given as goal

abbrev pub invariant-loop-i : goal.invariant-loop-i
invariant-loop-i l = (l.f < 128) × (left l.f (drop l.i l.fn.set.places) ≡ left l.fn.set.flags l.fn.set.places)
