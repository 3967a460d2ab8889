-- `enter_all` enters one kind after the other. The loop's invariant: the kinds still to come make of the set what all make of the set given. Assumes nothing.
use mathlib.Core.List.{map}
use mathlib.Core.Path.{◌≡◌}
use lib.ListN.{drop}
use Rattle.substitutions.specs.Kinds.{number_of}
use Rattle.customize_subs.specs.Customizing.{entered}
use Rattle.customize_subs.proofs.steps.Asked.enter_all.Given as goal

abbrev pub invariant-loop-sub : goal.invariant-loop-sub
invariant-loop-sub l = entered l.fn.self.mode l.fn.self.strategy (map number_of (drop l.sub-index l.kinds)) l.next ≡ entered l.fn.self.mode l.fn.self.strategy (map number_of l.kinds) l.fn.set
