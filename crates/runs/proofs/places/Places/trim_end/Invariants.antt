-- `trim_end` finds the last kept token that is not Whitespace. The loop's invariant (`Right`): what is left before here, trimmed, is the whole, trimmed. Assumes nothing.
use Rattle.runs.proofs.Ranges.{Right}
use Rattle.runs.specs.Run.{trim_end}
use Rattle.runs.proofs.places.Places.trim_end.Given as goal

abbrev pub invariant-loop-at : goal.invariant-loop-at
invariant-loop-at l = Right trim_end l.self.kinds.now l.self.from.0 l.self.to.0 l.at
