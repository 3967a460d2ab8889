-- `unclaimed_flags` gives the flags without a place: by bit 7, none for the normal set, else by the walk over the places. Assumes nothing.
use native.Mathlib.Omega.{arith}
use mathlib.Core.Path.{sym, ◌∙◌}
use Rattle.substitutions.proofs.AnswersLaws.{left-big, left-small, leaves, normal-same}
use Rattle.substitutions.proofs.unclaimed_flags.Goals as goal

pub returns-then-set-ge128 : goal.returns-then-set-ge128
returns-then-set-ge128 c = left-big c.args.set (omega arith)

pub returns-then-eq : goal.returns-then-eq
returns-then-eq c = normal-same c.args.set c.normal.result c.normal.ensures (sym c.eq.ensures ∙ c.if-eq.true)

pub returns : goal.returns
returns c = leaves _ _ _ c.take_flags.ensures (left-small c.args.set (omega arith))
