-- `is_sound` decides `sound`, since a set is sound where no flag is left over. Assumes nothing.
use borrow.Author.Rules.{rules}
use mathlib.Core.Path.{sym, ◌∙◌}
use Rattle.substitutions.proofs.HeldLaws.{sound-is}
use Rattle.substitutions.proofs.AnswersLaws.{leaves-none}
use Rattle.substitutions.proofs.Substitutions.is_sound.Goals as goal

pub returns : goal.returns
returns c = c.eq.ensures ∙ leaves-none _ _ c.unclaimed_flags.ensures ∙ sym (sound-is c.args.self (search rules))
