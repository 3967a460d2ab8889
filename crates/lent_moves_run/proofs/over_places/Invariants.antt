-- `over_places` counts at most 256 sets and their answers for each number. Assumes nothing.
use Prim.Native.Nat.{◌*◌, ◌≤◌}
use Rattle.lent_moves_run.proofs.over_places.Given as goal

abbrev pub invariant-loop-number : goal.invariant-loop-number
invariant-loop-number l = (l.count.held ≤ 256 * l.number) × ((l.count.refused ≤ 256 * l.number) × (l.count.differ ≤ 10752 * l.number))
