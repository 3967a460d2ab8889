-- A kind's name is found again, as the name of that kind.
use Rattle.std.specs.Prelude.{◌≡◌, refl, Some}
use Rattle.substitutions.specs.declared.Subs.{Subs}
use Rattle.substitutions.specs.declared.Subs.TheVariants as kind
use Rattle.subs_names.specs.declared.StepOrGroup.{StepOrGroup}
use Rattle.subs_names.specs.declared.StepOrGroup.TheVariants as step
use Rattle.subs_names.specs.Names.{same, lookup_of}
use Rattle.subs_names.specs.KindNames.{name_of}

abbrev pub step_of : Subs → StepOrGroup
step_of kind.SpecialChars = step.SpecialChars
step_of kind.InlineFormatting = step.Quotes
step_of kind.AttrRefs = step.Attributes
step_of kind.CharReplacement = step.Replacements
step_of kind.Macros = step.Macros
step_of kind.PostReplacement = step.PostReplacements
step_of kind.Callouts = step.Callouts

pub name-found : (sub : Subs) → lookup_of (name_of sub) ≡ Some (step_of sub)
unfolding lookup_of same
name-found kind.SpecialChars = refl
name-found kind.InlineFormatting = refl
name-found kind.AttrRefs = refl
name-found kind.CharReplacement = refl
name-found kind.Macros = refl
name-found kind.PostReplacement = refl
name-found kind.Callouts = refl
