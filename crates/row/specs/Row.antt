-- Rows (document 01, "The line, the rows, the set"; document 02, slip 2).
use Rattle.std.specs.Prelude.{ℕ, ◌+◌, ◌*◌, ◌<◌, Bool, ◌≡◌, List, [], ◌∷◌, ◌++◌, leb, length}
use Rattle.std.proofs.lemmas.List.Edits.{sets}
use Rattle.token.specs.declared.Run.{Run}
use Rattle.token.specs.declared.quotes.QuoteMark.{QuoteMark}
use Rattle.token.specs.declared.quotes.QuoteMark.TheVariants as mark
use Rattle.token.specs.Line.{run, empty_run}
use Rattle.token.specs.Quotes.{mark_number}
use Rattle.row.specs.declared.Row.{Row}
use Rattle.row.specs.declared.tag.Tag.TheVariants as tag
use Rattle.row.specs.Tag.{tag_number}

-- "tag, then two runs, unused ones 0"; "A row becomes six numbers, the last being this mark for tags 2, 3, 4 and 8 where the run went through
-- unquoting, and 0 in all other rows." The mark is the number of the quotes that were taken off.
abbrev pub width : ℕ
width = 6

abbrev pub numbers : Row → List ℕ
numbers r = r.tag ∷ r.first.place.0 ∷ r.first.count ∷ r.second.place.0 ∷ r.second.count ∷ mark_number r.mark ∷ []

abbrev pub two_runs : (tag : ℕ) → (first second : Run) → QuoteMark → Row
two_runs t a b m = record { tag = t; first = a; second = b; mark = m }

-- a row of one run with its mark, and of one off which no quotes were taken
abbrev pub marked_run : (tag : ℕ) → Run → QuoteMark → Row
marked_run t r = two_runs t r empty_run

abbrev pub one_run : (tag : ℕ) → Run → Row
one_run t r = marked_run t r mark.None

-- "Tags: 1 empty positional; 2 positional run; 3 named, name then value, value under `attr_value`; 4 id; 5 role; 6 option; 7 diagnostic (place,
-- number, 0, 0); 8 named `subs` or `cols`, value under `none`."
abbrev pub empty_positional : Row
empty_positional = one_run (tag_number tag.EmptyPositional) empty_run

abbrev pub positional : Run → QuoteMark → Row
positional = marked_run (tag_number tag.Positional)

abbrev pub named : (name value : Run) → QuoteMark → Row
named = two_runs (tag_number tag.Named)

abbrev pub ident : Run → QuoteMark → Row
ident = marked_run (tag_number tag.Id)

abbrev pub role : Run → Row
role = one_run (tag_number tag.Role)

abbrev pub option : Run → Row
option = one_run (tag_number tag.Option)

abbrev pub diagnostic : (place number : ℕ) → Row
diagnostic p n = one_run (tag_number tag.Diagnostic) (run p n)

abbrev pub plain : (name value : Run) → QuoteMark → Row
plain = two_runs (tag_number tag.Plain)

-- the tags of these rows, in this order
abbrev pub tags : List ℕ
tags =
    empty_positional.tag ∷ (positional empty_run mark.None).tag ∷ (named empty_run empty_run mark.None).tag ∷ (ident empty_run mark.None).tag ∷ (role empty_run).tag
    ∷ (option empty_run).tag ∷ (diagnostic 0 0).tag ∷ (plain empty_run empty_run mark.None).tag ∷ []

-- the numbers of some rows, one row after the other
unfoldable pub all_numbers : List Row → List ℕ
all_numbers [] = []
all_numbers (r ∷ rs) = numbers r ++ all_numbers rs

-- the buffer with these rows in it, from row `at` on: "Other row numbers keep what they had."
unfoldable pub with_rows : List ℕ → ℕ → List Row → List ℕ
with_rows buffer at rs = sets buffer (width * at) (all_numbers rs)

-- What a call that writes rows from row `at` on leaves, and the number that it answers: that of the row past them.
pub record Wrote (before : List ℕ) (at : ℕ) (rs : List Row) (after : List ℕ) (r : ℕ) : Type 0 where
  pub count : r ≡ at + length rs
  pub buffer : after ≡ with_rows before at rs

-- refusal 7 is for a row buffer "under 6 × tokens"; this is its opposite, for a buffer of `room` numbers
abbrev pub room_for : (tokens room : ℕ) → Bool
room_for tokens room = leb (width * tokens) room

-- the numbers of the row fit the buffer's, which have 32 bits
abbrev pub small : ℕ → Type 0
small n = n < 4294967296

pub record Fits (r : Row) : Type 0 where
  pub first_place : small r.first.place.0
  pub first_count : small r.first.count
  pub second_place : small r.second.place.0
  pub second_count : small r.second.count
