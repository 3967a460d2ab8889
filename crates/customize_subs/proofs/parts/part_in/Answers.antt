-- `part_in` gives the part as the mode reads it, by the mode that was matched. Assumes nothing.
use mathlib.Core.Path.{ap, ◌∙◌}
use Rattle.customize_subs.specs.Text.{back, spaced}
use Rattle.customize_subs.proofs.parts.part_in.Goals as goal

pub returns-in-Sheet : goal.returns-in-Sheet
unfolding spaced
returns-in-Sheet c = rw c.in-Sheet.is (c.drop_spaces.ensures ∙ ap back c.skip_spaces.ensures)
