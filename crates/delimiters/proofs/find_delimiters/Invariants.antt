-- `find_delimiters` gives the definition's count, its dividing commas and how many were taken back. Each turn of its token loop is the definition's
-- step; the loop that rejoins keeps what is so once no more than `remain` stretches are left. Assumes nothing.
use Prim.Native.Nat.{◌+◌, ◌-◌, min}
use mathlib.Core.Path.{◌≡◌}
use lib.ListN.{length}
use Rattle.delimiters.proofs.Turns.{Going}
use Rattle.delimiters.proofs.find_delimiters.Given as goal

abbrev pub invariant-loop-stretches : goal.invariant-loop-stretches
invariant-loop-stretches l = Going l.kinds l.fn.commas l.commas (min l.stretches l.remain) (l.rejoined + (l.stretches - l.remain)) l.double l.single (l.i + 1)

abbrev pub decreases-loop-stretches : goal.decreases-loop-stretches
decreases-loop-stretches l = l.stretches - l.remain

abbrev pub invariant-tokens : goal.invariant-tokens
invariant-tokens l = Going l.kinds l.fn.commas l.commas l.stretches l.rejoined l.double l.single l.i × (l.counted ≡ length l.kinds - 1)
