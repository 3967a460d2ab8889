-- "Where a call is turned away": the numbers, each with what it is for. Checks run downward.
use Rattle.std.specs.Prelude.{ℕ, List, [], ◌∷◌}

-- line: "no tokens"
abbrev pub no_tokens : ℕ
no_tokens = 1

-- line: "over 4,096 tokens"
abbrev pub too_many_tokens : ℕ
too_many_tokens = 2

-- text of a line: "over 65,535 bytes"
abbrev pub text_too_long : ℕ
text_too_long = 3

-- pairs: "not two numbers for each kind"
abbrev pub pairs_not_two : ℕ
pairs_not_two = 4

-- kinds: "some kind over 50"
abbrev pub kind_too_large : ℕ
kind_too_large = 5

-- pairs: "one starts before the previous ends, or ends past the text"
abbrev pub pairs_not_in_order : ℕ
pairs_not_in_order = 6

-- row buffer: "under 6 × tokens" (document 02, slip 2)
abbrev pub rows_too_short : ℕ
rows_too_short = 7

-- closing bracket: "none as defined below"
abbrev pub no_closing_bracket : ℕ
no_closing_bracket = 8

-- subs text: "over 65,535 bytes"
abbrev pub subs_text_too_long : ℕ
subs_text_too_long = 9

-- set: "not held"
abbrev pub set_not_held : ℕ
set_not_held = 10

-- set, sheet mode: "held but not sound"
abbrev pub set_not_sound : ℕ
set_not_sound = 11

-- line of an anchor, after 1 to 6 and after "no anchor": it "runs out, does not close as said, or has an id of no bytes" (document 02, slip 1)
abbrev pub anchor_malformed : ℕ
anchor_malformed = 12

-- all of them, in the order of the table
abbrev pub numbers : List ℕ
numbers =
    no_tokens ∷ too_many_tokens ∷ text_too_long ∷ pairs_not_two ∷ kind_too_large ∷ pairs_not_in_order ∷ rows_too_short ∷ no_closing_bracket ∷ subs_text_too_long ∷ set_not_held ∷ set_not_sound ∷ anchor_malformed ∷ []
