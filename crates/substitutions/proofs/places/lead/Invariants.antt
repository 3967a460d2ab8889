-- `lead` puts a kind first. The loop's invariant: what is passed has moved by one place, and the rest is pushed by what is
-- carried. Assumes nothing.
use mathlib.Core.Path.{◌≡◌}
use mathlib.Core.List.{◌++◌}
use lib.ListN.{take, drop}
use Rattle.substitutions.specs.Moves.{led}
use Rattle.substitutions.specs.Loops.{pushed}
use Rattle.substitutions.proofs.places.lead.Given as goal

abbrev pub invariant-loop-place : goal.invariant-loop-place
invariant-loop-place l = take l.place-index l.place-items ++ pushed l.carried l.kind (drop l.place-index l.place-items) ≡ led l.kind l.fn.places
