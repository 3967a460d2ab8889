-- Sheet mode: what a subs text makes of the order in which a block's substitution steps are taken, over lists of steps and of
-- bytes and nothing else. `SheetLaws` ties the sets to it, `SheetExamples` computes examples.
--
-- Where each line comes from. "Documentation" is the AsciiDoc language documentation on applying substitutions to blocks, told
-- from memory: the page could not be reached. Words in quotes are document 01's, and a line that quotes it alone claims nothing
-- of the documentation.
use Rattle.std.specs.Prelude.{ℕ, ◌-◌, Bool, false, cond, ◌||◌, List, [], ◌∷◌, ◌++◌, eqb, ltb, length, take, drop, Option, Some}
use Rattle.subs_names.specs.declared.StepOrGroup.{StepOrGroup}
use Rattle.subs_names.specs.declared.StepOrGroup.TheVariants.{None, Normal, Verbatim, SpecialChars, Callouts, Quotes, Attributes, Replacements, Macros, PostReplacements}
use Rattle.std.specs.Prelude as looked_up
use Rattle.subs_names.specs.Names.{lookup_of}
use Rattle.customize_subs.specs.Text.{split, spaced, modified, first_of, last_of}

-- Documentation: none is no step, normal is every step but callouts, verbatim is special characters and callouts.
-- The numbers and their order are "the seven kinds, none (no kind), normal (kinds 1 to 6)", "verbatim is 1 and 7".
abbrev pub steps_of : StepOrGroup → List ℕ
steps_of SpecialChars = 1 ∷ []
steps_of Quotes = 2 ∷ []
steps_of Attributes = 3 ∷ []
steps_of Replacements = 4 ∷ []
steps_of Macros = 5 ∷ []
steps_of PostReplacements = 6 ∷ []
steps_of Callouts = 7 ∷ []
steps_of Normal = 1 ∷ 2 ∷ 3 ∷ 4 ∷ 5 ∷ 6 ∷ []
steps_of Verbatim = 1 ∷ 7 ∷ []
steps_of None = []

-- Whether a step is there.
unfoldable pub has : ℕ → List ℕ → Bool
has k [] = false
has k (x ∷ xs) = eqb x k || has k xs

-- Documentation: `+name` puts the step last. "Insert does nothing if the flag is set": a step that is there keeps its place.
unfoldable pub put_last : ℕ → List ℕ → List ℕ
put_last k order = cond (has k order) order (order ++ (k ∷ []))

-- Documentation: `-name` takes the step out.
unfoldable pub take_out : ℕ → List ℕ → List ℕ
take_out k [] = []
take_out k (x ∷ xs) = cond (eqb x k) (take_out k xs) (x ∷ take_out k xs)

-- Documentation: `name+` puts the step first. "Prepend moves or puts the kind first."
unfoldable pub put_first : ℕ → List ℕ → List ℕ
put_first k order = k ∷ take_out k order

-- "A group is still entered kind by kind, in group order, by the part's move."
unfoldable pub in_turn : (ℕ → List ℕ → List ℕ) → List ℕ → List ℕ → List ℕ
in_turn move [] order = order
in_turn move (k ∷ ks) order = in_turn move ks (move k order)

abbrev pub appended : List ℕ → List ℕ → List ℕ
appended steps order = in_turn put_last steps order

abbrev pub prepended : List ℕ → List ℕ → List ℕ
prepended steps order = in_turn put_first steps order

abbrev pub removed : List ℕ → List ℕ → List ℕ
removed steps order = in_turn take_out steps order

-- "a part whose name is not in the list is passed over"
abbrev pub by_name : (List ℕ → List ℕ → List ℕ) → Option StepOrGroup → List ℕ → List ℕ
by_name move (Some name) order = move (steps_of name) order
by_name move looked_up.None order = order

-- "under 4 bytes is skipped. Leading + inserts, else trailing + prepends, else leading − removes, else insert." (bytes 43, 45)
unfoldable pub on_part : List ℕ → List ℕ → List ℕ
on_part part order =
    cond (ltb (length part) 4) order
    (cond (eqb (first_of part) 43) (by_name appended (lookup_of (drop 1 part)) order)
    (cond (eqb (last_of part) 43) (by_name prepended (lookup_of (take (length part - 1) part)) order)
    (cond (eqb (first_of part) 45) (by_name removed (lookup_of (drop 1 part)) order)
    (by_name appended (lookup_of part) order))))

-- "spaces (byte 32) are taken off both ends of each part before its length is tested"; one part after the other.
unfoldable pub on_parts : List (List ℕ) → List ℕ → List ℕ
on_parts [] order = order
on_parts (part ∷ parts) order = on_parts parts (on_part (spaced part) order)

-- Documentation: the text is a list of names with commas between; a plain list replaces the block's steps, + and − alter them.
-- "If the text holds any + or − (bytes 43, 45), begin with the set given, else the empty set. Split at commas".
unfoldable pub sheet_order : List ℕ → List ℕ → List ℕ
sheet_order order text = on_parts (split text) (cond (modified text) order [])
