-- `enter_all` enters one kind after the other. The loop's invariant: the kinds still to come make of the set what all make of the set given. Assumes nothing.
use mathlib.Core.Path.{◌∙◌}
use Rattle.customize_subs.proofs.CustomizingLaws.{entered-next, entered-over}
use Rattle.customize_subs.proofs.steps.Asked.enter_all.Goals as goal

pub loop-sub-preserved : goal.loop-sub-preserved
loop-sub-preserved c = entered-next c.args.self.mode c.args.self.strategy c.loop-sub.next _ c.args.kinds.now c.loop-sub.sub-index _ c.loop-sub-test.true c.enter_kind-next.ensures ∙ c.loop-sub.invariant

pub returns : goal.returns
returns c = entered-over c.args.self.mode c.args.self.strategy c.loop-sub.next c.args.kinds.now c.loop-sub.sub-index c.loop-sub-test.false ∙ c.loop-sub.invariant
