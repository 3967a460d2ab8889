-- Examples of `Sheet`, in one list, proved by one fact: the order given, the text, and the order that comes of it.
use Rattle.std.specs.Prelude.{ℕ, ◌≡◌, refl, Bool, true, ◌&&◌, List, [], ◌∷◌, ◌++◌}
use Rattle.subs_names.specs.Names.{same, lookup_of, callouts, verbatim, normal, quotes, macros, attributes, replacements}
use Rattle.customize_subs.specs.Text.{on_first, split, front, blank, back, spaced, modified}
use Rattle.customize_subs.specs.Sheet.{has, take_out, put_last, put_first, in_turn, on_part, on_parts, sheet_order}

pub record SheetExample : Type 0 where
  pub given : List ℕ
  pub text : List ℕ
  pub made : List ℕ

abbrev gives : List ℕ → List ℕ → List ℕ → SheetExample
gives order text made = record { given = order; text = text; made = made }

-- A paragraph's order and a listing's.
abbrev paragraph : List ℕ
paragraph = 1 ∷ 2 ∷ 3 ∷ 4 ∷ 5 ∷ 6 ∷ []

abbrev listing : List ℕ
listing = 1 ∷ 7 ∷ []

abbrev pub sheet_examples : List SheetExample
sheet_examples =
    -- `quotes, macros`: a plain list replaces what was there, and a text of 0 bytes leaves nothing
    gives paragraph (quotes ++ (44 ∷ 32 ∷ macros)) (2 ∷ 5 ∷ [])
    ∷ gives paragraph [] []
    -- `+callouts`: last; `+quotes`: it is there
    ∷ gives paragraph (43 ∷ callouts) (1 ∷ 2 ∷ 3 ∷ 4 ∷ 5 ∷ 6 ∷ 7 ∷ [])
    ∷ gives paragraph (43 ∷ quotes) paragraph
    -- `macros+`: moved to the front
    ∷ gives paragraph (macros ++ (43 ∷ [])) (5 ∷ 1 ∷ 2 ∷ 3 ∷ 4 ∷ 6 ∷ [])
    -- `verbatim+,+bogus`: step by step, so that callouts end up first; an unknown name is passed over
    ∷ gives paragraph (verbatim ++ (43 ∷ 44 ∷ 43 ∷ 98 ∷ 111 ∷ 103 ∷ 117 ∷ 115 ∷ [])) (7 ∷ 1 ∷ 2 ∷ 3 ∷ 4 ∷ 5 ∷ 6 ∷ [])
    -- `-verbatim`, and `+normal`
    ∷ gives listing (45 ∷ verbatim) []
    ∷ gives listing (43 ∷ normal) (1 ∷ 7 ∷ 2 ∷ 3 ∷ 4 ∷ 5 ∷ 6 ∷ [])
    -- `attributes+,+replacements,-callouts`
    ∷ gives listing (attributes ++ (43 ∷ 44 ∷ 43 ∷ replacements) ++ (44 ∷ 45 ∷ callouts)) (3 ∷ 1 ∷ 4 ∷ [])
    ∷ []

abbrev sheet_right : SheetExample → Bool
sheet_right c = same (sheet_order c.given c.text) c.made

unfoldable pub all_ordered : List SheetExample → Bool
all_ordered [] = true
all_ordered (c ∷ cs) = sheet_right c && all_ordered cs

pub sheet-examples-hold : all_ordered sheet_examples ≡ true
unfolding all_ordered sheet_order on_parts on_part in_turn put_first put_last take_out has modified spaced back blank front split on_first lookup_of same
sheet-examples-hold = refl
