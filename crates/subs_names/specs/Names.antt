-- The names that a part of the subs text may have, byte for byte.
use Rattle.std.specs.Prelude.{ℕ, Bool, true, false, cond, ◌&&◌, List, [], ◌∷◌, eqb, Option, Some}
use Rattle.std.specs.Prelude as found
use Rattle.subs_names.specs.declared.StepOrGroup.{StepOrGroup}
use Rattle.subs_names.specs.declared.StepOrGroup.TheVariants.{None, Normal, Verbatim, SpecialChars, Callouts, Quotes, Attributes, Replacements, Macros, PostReplacements}

abbrev pub none : List ℕ
none = 110 ∷ 111 ∷ 110 ∷ 101 ∷ []

abbrev pub normal : List ℕ
normal = 110 ∷ 111 ∷ 114 ∷ 109 ∷ 97 ∷ 108 ∷ []

abbrev pub verbatim : List ℕ
verbatim = 118 ∷ 101 ∷ 114 ∷ 98 ∷ 97 ∷ 116 ∷ 105 ∷ 109 ∷ []

abbrev pub specialchars : List ℕ
specialchars = 115 ∷ 112 ∷ 101 ∷ 99 ∷ 105 ∷ 97 ∷ 108 ∷ 99 ∷ 104 ∷ 97 ∷ 114 ∷ 115 ∷ []

abbrev pub callouts : List ℕ
callouts = 99 ∷ 97 ∷ 108 ∷ 108 ∷ 111 ∷ 117 ∷ 116 ∷ 115 ∷ []

abbrev pub quotes : List ℕ
quotes = 113 ∷ 117 ∷ 111 ∷ 116 ∷ 101 ∷ 115 ∷ []

abbrev pub attributes : List ℕ
attributes = 97 ∷ 116 ∷ 116 ∷ 114 ∷ 105 ∷ 98 ∷ 117 ∷ 116 ∷ 101 ∷ 115 ∷ []

abbrev pub replacements : List ℕ
replacements = 114 ∷ 101 ∷ 112 ∷ 108 ∷ 97 ∷ 99 ∷ 101 ∷ 109 ∷ 101 ∷ 110 ∷ 116 ∷ 115 ∷ []

abbrev pub macros : List ℕ
macros = 109 ∷ 97 ∷ 99 ∷ 114 ∷ 111 ∷ 115 ∷ []

abbrev pub post_replacements : List ℕ
post_replacements = 112 ∷ 111 ∷ 115 ∷ 116 ∷ 95 ∷ 114 ∷ 101 ∷ 112 ∷ 108 ∷ 97 ∷ 99 ∷ 101 ∷ 109 ∷ 101 ∷ 110 ∷ 116 ∷ 115 ∷ []

-- Names are exact.
unfoldable pub same : List ℕ → List ℕ → Bool
same [] [] = true
same [] (b ∷ bs) = false
same (a ∷ l) [] = false
same (a ∷ l) (b ∷ bs) = eqb a b && same l bs

-- The seven kinds, none, normal and verbatim; any other name is not in the list.
unfoldable pub lookup_of : List ℕ → Option StepOrGroup
lookup_of name =
    cond (same name none) (Some None)
    (cond (same name normal) (Some Normal)
    (cond (same name verbatim) (Some Verbatim)
    (cond (same name specialchars) (Some SpecialChars)
    (cond (same name callouts) (Some Callouts)
    (cond (same name quotes) (Some Quotes)
    (cond (same name attributes) (Some Attributes)
    (cond (same name replacements) (Some Replacements)
    (cond (same name macros) (Some Macros)
    (cond (same name post_replacements) (Some PostReplacements)
    found.None)))))))))
