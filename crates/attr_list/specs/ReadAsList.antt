-- Demand 3: no line is divided wrongly. One statement about a whole line that is read as a list, and the rows answered. It leaves one answer and one
-- buffer on return (`one_answer` of OneAnswerLaws).
use Rattle.std.specs.Prelude.{ℕ, ◌+◌, ◌*◌, ◌-◌, ◌≤◌, ◌<◌, false, ◌≡◌, List, ◌⊎◌, length, take, drop}
use Rattle.token.specs.Kind.{close_bracket, comma, kind_at}
use Rattle.token.specs.Line.{Line}
use Rattle.row.specs.declared.Row.{Row}
use Rattle.row.specs.Row.{width, all_numbers}
use Rattle.delimiters.specs.Count.{counted, counted_commas, Quote}
use Rattle.delimiters.specs.Delimit.{dividing, Stretch}
use Rattle.delimiters.specs.Pairs.{Inside, Uncrossed}
use Rattle.delimiters.specs.Divide.{times, covers, Ascending, how_many, Follow, Divides}
use Rattle.closing.specs.declared.LinkMacro.TheVariants.{AsList}
use Rattle.closing.specs.Closes.{ClosesList}
use Rattle.closing.specs.Link.{link_macro}
use Rattle.attr_list.specs.declared.entries.Entry.{Entry}
use Rattle.attr_list.specs.declared.entries.Entry.TheVariants.{Block, BlockMacro, Inline, Link}
use Rattle.attr_list.specs.Entry.{is_block, full_line}
use Rattle.list_rows.specs.ListRows.{rows_from}
use Rattle.attr_list.specs.Reading.{lent_refusal}

-- "A line is read as a list when the block, block macro or inline entry, or a link taken as a list, does not refuse it." A link whose first token is
-- CloseBracket is read as an empty list; any other is taken as the look at its tokens says.
abbrev pub TakenAsList : Entry → Line → Type 0
TakenAsList Block l = Unit {0}
TakenAsList BlockMacro l = Unit {0}
TakenAsList Inline l = Unit {0}
TakenAsList Link l = (kind_at l.kinds 0 ≡ close_bracket) ⊎ (link_macro l.kinds l.pairs ≡ AsList)

-- The closing bracket of the entry's list stands at `end`: "First token CloseBracket, links too: no rows, 1 consumed, and no 8, as for `]a`"; any
-- other list is closed by its entry's rule.
pub record ClosedAt (e : Entry) (kinds : List ℕ) (end : ℕ) : Type 0 where
  pub among : end < length kinds
  pub bracket : kind_at kinds end ≡ close_bracket
  pub first : kind_at kinds 0 ≡ close_bracket → end ≡ 0
  pub rule : (kind_at kinds 0 ≡ close_bracket → ⊥) → ClosesList (full_line e) kinds end

-- the rows that document 01 gives for these attributes of the line, first to last
abbrev pub rows_of_attributes : Entry → Line → List Stretch → List Row
rows_of_attributes e l attributes = (rows_from l (is_block e) false attributes).rows

-- The entry e, which takes at most `most` tokens, read the line l as a list: `rows` rows were answered, `consumed` tokens and `rejoined` commas taken
-- back; the row buffer had the numbers `given` before and has the numbers `left` on return.
pub record ReadAsList (most : ℕ) (e : Entry) (l : Line) (given : List ℕ) (rows consumed rejoined : ℕ) (left : List ℕ) : Type 0 where
  -- None of 1 to 7 refuses the line and the buffer, and the line is taken as a list.
  pub accepted : lent_refusal most l (length given) ≡ 0
  pub taken : TakenAsList e l
  -- The closing bracket stands at `end`, by the entry's rule, and is the last token consumed.
  pub end : ℕ
  pub closes : ClosedAt e l.kinds end
  pub consumed_through : consumed ≡ end + 1
  -- Which tokens are counted, the first `counted l.kinds` of the line: "all tokens but the last; the count ends at once at the first CloseBracket,
  -- itself not counted". So the last is not, no CloseBracket is, and the first that is not counted is the last of the line or a CloseBracket. All of
  -- them stand before the closing bracket.
  pub not_the_last : counted l.kinds ≤ length l.kinds - 1
  pub no_bracket : (p : ℕ) → p < counted l.kinds → kind_at l.kinds p ≡ close_bracket → ⊥
  pub count_ends : (counted l.kinds ≡ length l.kinds - 1) ⊎ (kind_at l.kinds (counted l.kinds) ≡ close_bracket)
  pub before_the_bracket : counted l.kinds ≤ end
  -- The dividing commas are counted commas, listed first to last.
  pub only_commas : (p : ℕ) → Divides l.kinds p → (p < counted l.kinds) × (kind_at l.kinds p ≡ comma)
  pub in_order : Ascending 0 (dividing l.kinds) (counted l.kinds)
  -- The commas taken back make, with the dividing commas, exactly the commas among the counted tokens, crossing pairs or not.
  pub taken_back : rejoined + length (dividing l.kinds) ≡ counted_commas l.kinds
  -- A counted comma inside no complete pair divides, crossing pairs or not.
  pub outside : (p : ℕ) → p < counted l.kinds → kind_at l.kinds p ≡ comma → ((q : Quote) → Inside l.kinds q p → ⊥) → Divides l.kinds p
  -- Where no single-quote pair crosses a double-quote pair, a comma inside a complete pair never divides.
  pub inside : Uncrossed l.kinds → (q : Quote) (p : ℕ) → Inside l.kinds q p → Divides l.kinds p → ⊥
  -- The attributes, in the order of the line: one more than dividing commas where a token is counted, none where none is. Each goes from a dividing
  -- comma to the next, the last to the closing bracket; one of no tokens is one of them.
  pub attributes : List Stretch
  pub attribute_count : length attributes ≡ how_many (counted l.kinds) (length (dividing l.kinds))
  pub follow : Follow 0 (dividing l.kinds) end attributes
  -- Each token before the closing bracket, and so each counted one, is in exactly one attribute or is exactly one dividing comma, never both.
  pub each_once : (p : ℕ) → p < end → covers p attributes + times p (dividing l.kinds) ≡ 1
  -- The rows are those of these attributes, first to last, and no others: so many are answered; their numbers are the first of the buffer on return,
  -- one row after the other; every number after them is what it was.
  pub row_count : rows ≡ length (rows_of_attributes e l attributes)
  pub numbers : take (width * rows) left ≡ all_numbers (rows_of_attributes e l attributes)
  pub others : drop (width * rows) left ≡ drop (width * rows) given
