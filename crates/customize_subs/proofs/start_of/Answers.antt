-- `start_of` begins with the set given or with the empty set, by whether the text holds a modifier, its first byte being looked at first. Assumes nothing.
use mathlib.Core.Path.{sym, ◌∙◌}
use Rattle.customize_subs.specs.Customizing.{start_of}
use Rattle.customize_subs.proofs.TextLaws.{modified-begins}
use Rattle.customize_subs.proofs.start_of.Goals as goal
use Rattle.customize_subs.proofs.start_of.Goals.{then-begins_modified, else-begins_modified}

pub returns-then-has_modifier : goal.returns-then-has_modifier
unfolding start_of
returns-then-has_modifier c =
    elim c.if-begins_modified.branch [
      | then-begins_modified w ↦ rw (modified-begins c.args.text.now (sym c.begins_modified.ensures ∙ w.if-begins_modified.true))
      | else-begins_modified w ↦ rw (sym w.has_modifier.ensures ∙ sym w.value-is ∙ c.if-has_modifier.true)
    ]
