-- `has_modifier` looks for a + or -. The loop's invariant: one is found already or the rest holds one, exactly where the whole does. Assumes nothing.
use mathlib.Core.Bool.{◌||◌}
use mathlib.Core.Path.{◌≡◌}
use lib.ListN.{drop}
use Rattle.customize_subs.specs.Text.{modified}
use Rattle.customize_subs.proofs.parts.has_modifier.Given as goal

abbrev pub invariant-loop-b : goal.invariant-loop-b
invariant-loop-b l = (l.found || modified (drop l.b-index l.text)) ≡ modified l.text
