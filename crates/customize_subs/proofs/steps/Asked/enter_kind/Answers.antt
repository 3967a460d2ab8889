-- `enter_kind` is the set given where the move leaves it as it is, else the move. Assumes nothing.
use mathlib.Core.Path.{sym, ◌∙◌}
use Rattle.customize_subs.proofs.CustomizingLaws.{no-op-same}
use Rattle.customize_subs.proofs.steps.Asked.enter_kind.Goals as goal

pub returns-then-is_no_op : goal.returns-then-is_no_op
returns-then-is_no_op c =
    let a = c.args in
    no-op-same a.self.mode a.self.strategy _ a.set (sym c.is_no_op.ensures ∙ c.if-is_no_op.true)
