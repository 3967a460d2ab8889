-- `drop_spaces` takes spaces off the end. The loop's invariant: what is left gives the same without its spaces. Assumes nothing.
use borrow.Author.Rules.{rules}
use mathlib.Core.Path.{◌∙◌}
use Rattle.customize_subs.proofs.TextLaws.{back_more, back_over, back_none}
use Rattle.customize_subs.proofs.parts.drop_spaces.Goals as goal

pub loop-rest-preserved : goal.loop-rest-preserved
loop-rest-preserved c = back_more c.loop-rest.rest.now (search rules) (search rules) ∙ c.loop-rest.invariant

pub returns-in_default : goal.returns-in_default
returns-in_default c = back_none c.loop-rest.rest.now (search rules) ∙ c.loop-rest.invariant

pub returns-in_default-2 : goal.returns-in_default-2
returns-in_default-2 c = back_over c.loop-rest.rest.now (search rules) (search rules) ∙ c.loop-rest.invariant
