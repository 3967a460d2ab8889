-- `over_kinds` counts at most 6 for each kind. Assumes nothing.
use Prim.Native.Nat.{◌*◌, ◌≤◌}
use Rattle.lent_moves_run.proofs.over_kinds.Given as goal

abbrev pub invariant-loop-sub : goal.invariant-loop-sub
invariant-loop-sub l = l.differ ≤ 6 * l.sub-index
