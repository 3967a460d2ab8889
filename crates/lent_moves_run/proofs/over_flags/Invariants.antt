-- `over_flags` counts at most one set and 42 answers for each byte. Assumes nothing.
use Prim.Native.Nat.{◌*◌, ◌≤◌}
use Rattle.lent_moves_run.proofs.over_flags.Given as goal

abbrev pub invariant-loop-n : goal.invariant-loop-n
invariant-loop-n l = (l.count.held ≤ l.n) × ((l.count.refused ≤ l.n) × (l.count.differ ≤ 42 * l.n))
