-- `find` asks of one place after the other. The loop's invariant: it was told no at each place before. Assumes nothing.
use Rattle.std.proofs.Common.{ℕ, ◌≤◌, ◌<◌}
use mathlib.Core.Bool.{false}
use Rattle.runs.specs.Places.{place_at}
use Rattle.runs.proofs.places.Places.find.Given as goal

abbrev pub invariant-loop-i : goal.invariant-loop-i
invariant-loop-i g l = (j : ℕ) → l.self.from.0 ≤ j → j < l.i → goal.F-post g l.wanted (place_at j) false
