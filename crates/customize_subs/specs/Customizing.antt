-- What the subs text makes of a set, and what `from_meta` answers. Where port mode (the Rust's) and sheet mode differ, a
-- definition by cases on the mode says so; all else is the same for both.
use Rattle.std.specs.Prelude.{ℕ, ◌-◌, Bool, true, false, cond, ◌&&◌, List, [], ◌∷◌, eqb, ltb, length, take, drop, Option, Some}
use Rattle.refusals.specs.Refusals.{subs_text_too_long}
use Rattle.substitutions.specs.declared.Substitutions.{Substitutions}
use Rattle.substitutions.specs.declared.SetAnswer.{SetAnswer}
use Rattle.substitutions.specs.declared.Mode.{Mode}
use Rattle.substitutions.specs.declared.Mode.TheVariants.{Port, Sheet}
use Rattle.substitutions.specs.Moves.{empty_set, moved, refusal_of, answer}
use Rattle.subs_names.specs.declared.StepOrGroup.{StepOrGroup}
use Rattle.subs_names.specs.declared.StepOrGroup.TheVariants.{None, Normal, Verbatim, SpecialChars, Callouts, Quotes, Attributes, Replacements, Macros, PostReplacements}
use Rattle.std.specs.Prelude as looked_up
use Rattle.substitutions.specs.declared.Move.{Move}
use Rattle.substitutions.specs.declared.Move.TheVariants.{Insert, Prepend, Remove}
use Rattle.subs_names.specs.Names.{lookup_of}
use Rattle.customize_subs.specs.Text.{split, spaced, modified, first_of, last_of}

-- Where the modes differ: spaces are taken off both ends of each part before its length is tested, in sheet mode;
abbrev pub part_of : Mode → List ℕ → List ℕ
part_of Port part = part
part_of Sheet part = spaced part

-- verbatim is 1 and 4, in sheet mode 1 and 7;
abbrev pub verbatim_of : Mode → List ℕ
verbatim_of Port = 1 ∷ 4 ∷ []
verbatim_of Sheet = 1 ∷ 7 ∷ []

-- and insert may fill the first six places, in sheet mode all seven (`moved`, `room`).
abbrev pub move_of : Mode → Move → ℕ → Substitutions → Substitutions
move_of m how k s = moved m how k s

-- The kinds of a name: none has no kind, normal kinds 1 to 6.
abbrev pub kinds_of : Mode → StepOrGroup → List ℕ
kinds_of m None = []
kinds_of m Normal = 1 ∷ 2 ∷ 3 ∷ 4 ∷ 5 ∷ 6 ∷ []
kinds_of m Verbatim = verbatim_of m
kinds_of m SpecialChars = 1 ∷ []
kinds_of m Quotes = 2 ∷ []
kinds_of m Attributes = 3 ∷ []
kinds_of m Replacements = 4 ∷ []
kinds_of m Macros = 5 ∷ []
kinds_of m PostReplacements = 6 ∷ []
kinds_of m Callouts = 7 ∷ []

-- A group is taken kind by kind in that order, by the part's move.
unfoldable pub entered : Mode → Move → List ℕ → Substitutions → Substitutions
entered m how [] s = s
entered m how (k ∷ ks) s = entered m how ks (move_of m how k s)

-- A part whose name is not in the list is passed over.
abbrev pub entered_name : Mode → Move → Option StepOrGroup → Substitutions → Substitutions
entered_name m how (Some step) s = entered m how (kinds_of m step) s
entered_name m how looked_up.None s = s

-- Leading + inserts, else trailing + prepends, else leading − removes, else insert; the name is what is left.
unfoldable pub strategy_of : List ℕ → Move
strategy_of part = cond (eqb (first_of part) 43) Insert (cond (eqb (last_of part) 43) Prepend (cond (eqb (first_of part) 45) Remove Insert))

unfoldable pub name_of : List ℕ → List ℕ
name_of part =
    cond (eqb (first_of part) 43) (drop 1 part)
    (cond (eqb (last_of part) 43) (take (length part - 1) part)
    (cond (eqb (first_of part) 45) (drop 1 part) part))

-- A part under 4 bytes is skipped.
unfoldable pub stepped : Mode → Substitutions → List ℕ → Substitutions
stepped m s part = cond (ltb (length part) 4) s (entered_name m (strategy_of part) (lookup_of (name_of part)) s)

-- The parts one after the other.
unfoldable pub through : Mode → Substitutions → List (List ℕ) → Substitutions
through m s [] = s
through m s (part ∷ parts) = through m (stepped m s (part_of m part)) parts

-- If the text holds any + or −, begin with the set given, else with the empty set.
unfoldable pub start_of : Substitutions → List ℕ → Substitutions
start_of s text = cond (modified text) s empty_set

-- No subs attribute: the set given; a text of 0 bytes is not that.
unfoldable pub meta_of : Mode → Substitutions → Bool → List ℕ → Substitutions
meta_of m s false text = s
meta_of m s true text = through m (start_of s text) (split text)

-- The checks in their order: a subs text over 65,535 bytes is 9 (with no subs attribute there is no subs text), then those of
-- the set.
unfoldable pub meta_refusal : Mode → Substitutions → Bool → List ℕ → ℕ
meta_refusal m s present text = cond (present && ltb 65535 (length text)) subs_text_too_long (refusal_of m s)

-- What `from_meta` answers, in port mode and in sheet mode.
unfoldable pub meta_answer : Mode → Substitutions → Bool → List ℕ → SetAnswer
meta_answer m s present text = answer (meta_refusal m s present text) s (meta_of m s present text)

abbrev pub port_meta : Substitutions → Bool → List ℕ → SetAnswer
port_meta = meta_answer Port

abbrev pub sheet_meta : Substitutions → Bool → List ℕ → SetAnswer
sheet_meta = meta_answer Sheet
