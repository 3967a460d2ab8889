-- The four readings (document 01, "Lists and links"): what each entry answers, and what the row buffer holds on return.
use Rattle.std.specs.Prelude.{ℕ, zero, suc, ◌+◌, Bool, true, false, cond, not, List, [], ◌∷◌, ◌≡◌, eqb, length, Option, Some, None}
use Rattle.refusals.specs.Refusals.{rows_too_short, no_closing_bracket}
use Rattle.token.specs.Kind.{close_bracket, kind_at}
use Rattle.token.specs.Line.{Line, Token, check, refusal}
use Rattle.runs.specs.Run.{kept, quote_mark, unquote, run_of}
use Rattle.row.specs.declared.Row.{Row}
use Rattle.row.specs.Row.{positional, with_rows, room_for}
use Rattle.token.specs.declared.TokenPlace.{TokenPlace}
use Rattle.delimiters.specs.Delimit.{rejoined}
use Rattle.closing.specs.declared.LinkMacro.{LinkMacro}
use Rattle.closing.specs.declared.LinkMacro.TheVariants.{AsList, AsText}
use Rattle.closing.specs.Closing.{closing}
use Rattle.closing.specs.Link.{link_macro}
use Rattle.list_rows.specs.ListRows.{list_rows}
use Rattle.attr_list.specs.declared.entries.Entry.{Entry}
use Rattle.attr_list.specs.declared.entries.Entry.TheVariants.{Block, BlockMacro, Inline, Link}
use Rattle.attr_list.specs.Answer.{Answer, Refused, Read}

-- ---- what a reading gives

-- a refusal's number, or rows, how many tokens are consumed and how many commas were taken back
pub data Reading : Type 0 where
  refused : (number : ℕ) → Reading
  gives : (rows : List Row) → (consumed rejoined : ℕ) → Reading

-- "The answer gives rows written and tokens consumed", and after them how many commas were taken back.
abbrev pub answer_of : Reading → Answer
answer_of (refused n) = Refused n
answer_of (gives rows consumed rejoined) = Read (length rows) consumed rejoined

-- the buffer on return: the rows stand at its front, "Other row numbers keep what they had"; a refusal leaves them all
abbrev pub buffer_of : (given : List ℕ) → Reading → List ℕ
buffer_of given (refused n) = given
buffer_of given (gives rows consumed rejoined) = with_rows given 0 rows

-- the answer and the buffer on return are those of a reading
pub record Gives (given : List ℕ) (r : Reading) (a : Answer) (left : List ℕ) : Type 0 where
  pub answer : a ≡ answer_of r
  pub buffer : left ≡ buffer_of given r

-- the numbers of an answer: the refusal, 0 where there is none; rows written, tokens consumed and commas taken back, all 0 where it is refused
abbrev pub refusal_of : Answer → ℕ
refusal_of (Refused n) = n
refusal_of (Read rows consumed rejoined) = 0

abbrev pub rows_of : Answer → ℕ
rows_of (Refused n) = 0
rows_of (Read rows consumed rejoined) = rows

abbrev pub consumed_of : Answer → ℕ
consumed_of (Refused n) = 0
consumed_of (Read rows consumed rejoined) = consumed

abbrev pub rejoined_of : Answer → ℕ
rejoined_of (Refused n) = 0
rejoined_of (Read rows consumed rejoined) = rejoined

-- ---- a line that 1 to 7 do not refuse, and whose first token is not CloseBracket

-- "none is 8"; else the list's rows, all tokens through the closing bracket consumed, and the commas that delimiting took back
abbrev pub list_to : Line → (block : Bool) → Option TokenPlace → Reading
list_to l block None = refused no_closing_bracket
list_to l block (Some end) = gives (list_rows l block end.0) (end.0 + 1) (rejoined l.kinds)

-- a list; `full` says that it is the rest of a full line, `block` that the entry is the block entry
abbrev pub list_of : Line → (full block : Bool) → Reading
list_of l full block = list_to l block (closing full l.kinds)

-- the one row of a link's text, of the tokens kept
abbrev pub text_row : List Token → Row
text_row ts = positional (run_of (unquote ts)) (quote_mark ts)

-- "text, one tag 2 row, AttrRef dropped, unquoted, untrimmed, consumed through the bracket"; "Text whose closing token is not CloseBracket is 8": that
-- token stands at `end`. Text is not delimited: a link read as text reports 0 commas taken back.
abbrev pub text_to : Line → (end : ℕ) → Reading
text_to l end = cond (eqb (kind_at l.kinds end) close_bracket) (gives (text_row (kept l 0 end) ∷ []) (end + 1) 0) (refused no_closing_bracket)

-- "list (read as inline) or text"
abbrev pub link_to : Line → LinkMacro → Reading
link_to l AsList = list_of l false false
link_to l (AsText end) = text_to l end.0

abbrev pub read_by : Entry → Line → Reading
read_by Block l = list_of l true true
read_by BlockMacro l = list_of l true false
read_by Inline l = list_of l false false
read_by Link l = link_to l (link_macro l.kinds l.pairs)

-- ---- any line

-- "First token CloseBracket, links too: no rows, 1 consumed, and no 8"; "A line read as empty by its first CloseBracket reports 0" commas taken back
abbrev pub unless_closed : (kinds : List ℕ) → Reading → Reading
unless_closed kinds r = cond (eqb (kind_at kinds 0) close_bracket) (gives [] 1 0) r

abbrev pub list_or_none : Line → (full block : Bool) → Reading
list_or_none l full block = unless_closed l.kinds (list_of l full block)

abbrev pub link_or_none : Line → Reading
link_or_none l = unless_closed l.kinds (read_by Link l)

-- 1 to 6 of a line of at most `most` tokens, then 7 of a row buffer of `room` numbers; 0 where none applies
unfoldable pub lent_refusal : (most : ℕ) → Line → (room : ℕ) → ℕ
lent_refusal most l room =
    check (not (eqb (refusal most l) 0)) (refusal most l) (check (not (room_for (length l.kinds) room)) rows_too_short 0)

abbrev pub unless_refused : (number : ℕ) → Reading → Reading
unless_refused zero r = r
unless_refused (suc n) r = refused (suc n)

-- what an entry that takes at most `most` tokens gives for a line and a row buffer of `room` numbers
unfoldable pub reading : (most : ℕ) → Entry → Line → (room : ℕ) → Reading
reading most e l room = unless_refused (lent_refusal most l room) (unless_closed l.kinds (read_by e l))
