-- What src/steps.rt knows of a move before it makes it. `CustomizingLaws` and `SetOfNameLaws` tie it to `Customizing`.
use Rattle.std.specs.Prelude.{ℕ, Bool, false, not, [], ◌∷◌}
use Rattle.substitutions.specs.declared.Substitutions.{Substitutions}
use Rattle.substitutions.specs.declared.Mode.{Mode}
use Rattle.substitutions.specs.declared.Mode.TheVariants.{Port, Sheet}
use Rattle.substitutions.specs.Kinds.{flagged}
use Rattle.substitutions.specs.Moves.{set, empty_set}
use Rattle.subs_names.specs.declared.StepOrGroup.{StepOrGroup}
use Rattle.subs_names.specs.declared.StepOrGroup.TheVariants.{None, Normal, Verbatim, SpecialChars, Callouts, Quotes, Attributes, Replacements, Macros, PostReplacements}
use Rattle.substitutions.specs.declared.Move.{Move}
use Rattle.substitutions.specs.declared.Move.TheVariants.{Insert, Prepend, Remove}

-- A move that leaves the set as it is: an insert of what is in it, a remove of what is not.
abbrev pub is_no_op : Move → ℕ → Substitutions → Bool
is_no_op Insert k s = flagged k s.flags
is_no_op Prepend k s = false
is_no_op Remove k s = not (flagged k s.flags)

-- The set of a name alone.
abbrev pub set_of_name : Mode → StepOrGroup → Substitutions
set_of_name m None = empty_set
set_of_name m Normal = set (1 ∷ 2 ∷ 3 ∷ 4 ∷ 5 ∷ 6 ∷ 0 ∷ []) 63
set_of_name Port Verbatim = set (1 ∷ 4 ∷ 0 ∷ 0 ∷ 0 ∷ 0 ∷ 0 ∷ []) 9
set_of_name Sheet Verbatim = set (1 ∷ 7 ∷ 0 ∷ 0 ∷ 0 ∷ 0 ∷ 0 ∷ []) 65
set_of_name m SpecialChars = set (1 ∷ 0 ∷ 0 ∷ 0 ∷ 0 ∷ 0 ∷ 0 ∷ []) 1
set_of_name m Quotes = set (2 ∷ 0 ∷ 0 ∷ 0 ∷ 0 ∷ 0 ∷ 0 ∷ []) 2
set_of_name m Attributes = set (3 ∷ 0 ∷ 0 ∷ 0 ∷ 0 ∷ 0 ∷ 0 ∷ []) 4
set_of_name m Replacements = set (4 ∷ 0 ∷ 0 ∷ 0 ∷ 0 ∷ 0 ∷ 0 ∷ []) 8
set_of_name m Macros = set (5 ∷ 0 ∷ 0 ∷ 0 ∷ 0 ∷ 0 ∷ 0 ∷ []) 16
set_of_name m PostReplacements = set (6 ∷ 0 ∷ 0 ∷ 0 ∷ 0 ∷ 0 ∷ 0 ∷ []) 32
set_of_name m Callouts = set (7 ∷ 0 ∷ 0 ∷ 0 ∷ 0 ∷ 0 ∷ 0 ∷ []) 64
