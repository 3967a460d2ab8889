-- The names of the kinds.
use Rattle.std.specs.Prelude.{ℕ, List}
use Rattle.substitutions.specs.declared.Subs.{Subs}
use Rattle.substitutions.specs.declared.Subs.TheVariants.{SpecialChars, InlineFormatting, AttrRefs, CharReplacement, Macros, PostReplacement, Callouts}
use Rattle.subs_names.specs.Names.{specialchars, quotes, attributes, replacements, macros, post_replacements, callouts}

-- Kinds 1 to 7: specialchars, quotes, attributes, replacements, macros, post_replacements, callouts.
abbrev pub name_of : Subs → List ℕ
name_of SpecialChars = specialchars
name_of InlineFormatting = quotes
name_of AttrRefs = attributes
name_of CharReplacement = replacements
name_of Macros = macros
name_of PostReplacement = post_replacements
name_of Callouts = callouts
