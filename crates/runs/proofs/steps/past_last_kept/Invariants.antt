-- `past_last_kept` steps along the run. The loop's invariant (`Reading`): what is kept before the places left ends at the place noted. What falls is how many
-- places are left. Assumes nothing.
use Rattle.std.proofs.Common.{◌≡◌, ◌-◌}
use Rattle.runs.proofs.Ranges.{Reading}
use Rattle.runs.proofs.steps.past_last_kept.Given as goal

abbrev pub invariant-loop-left : goal.invariant-loop-left
invariant-loop-left l = record { kinds : l.left.kinds.now ≡ l.kinds; to : l.left.to ≡ l.to; reading : Reading l.kinds l.fn.from.0 l.to.0 l.left.from.0 l.past.0 }

abbrev pub decreases-loop-left : goal.decreases-loop-left
decreases-loop-left l = l.to.0 - l.left.from.0
