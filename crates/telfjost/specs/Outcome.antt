-- What each function that C and Rust link answers and leaves, in its own result's numbers.
use Rattle.std.specs.Prelude.{ℕ, ◌≡◌, Bool, List, length, Option, Result}
use Rattle.refusals.specs.declared.Refusal.{Refusal}
use Rattle.token.specs.Line.{Line, most_tokens}
use Rattle.attr_list.specs.Answer.{Answer}
use Rattle.attr_list.specs.declared.entries.Entry.{Entry}
use Rattle.attr_list.specs.Reading.{reading, answer_of, buffer_of, refusal_of, rows_of, consumed_of, rejoined_of}
use Rattle.attr_list.specs.ReadAsList.{TakenAsList, ReadAsList}
use Rattle.attr_list.specs.Block as block
use Rattle.attr_list.specs.Told.{told, told_line}
use Rattle.attr_list.specs.declared.Read as code
use Rattle.viewer.specs.Limit.{viewer_tokens}
use Rattle.anchor.specs.declared.Anchor.{Anchor}
use Rattle.anchor.specs.Anchor.{anchor}
use Rattle.anchor.specs.Numbers.{Numbers, numbers_of}
use Rattle.telfjost.specs.declared.anchors.TelfjostAnchor.{TelfjostAnchor}
use Rattle.telfjost.specs.declared.TelfjostBool.{TelfjostBool}
use Rattle.telfjost.specs.declared.TelfjostList.{TelfjostList}

-- whether a line is a block attribute list: the refusal, 0 for none, and 1 for yes
pub record BlockOutcome (l : Line) (r : TelfjostBool) : Type 0 where
  pub refusal : r.refusal ≡ block.refusal_of (block.block_line l)
  pub yes : r.yes ≡ block.yes_of (block.block_line l)

-- the numbers of what `is_block_attr_list` gives
abbrev pub BlockNumbers : Result Bool Refusal → TelfjostBool → Type 0
BlockNumbers a r = (r.refusal ≡ block.refusal_of (told_line a)) × (r.yes ≡ block.yes_of (told_line a))

-- the numbers of an answer
pub record NumbersOf (a : Answer) (r : TelfjostList) : Type 0 where
  pub refusal : r.refusal ≡ refusal_of a
  pub rows : r.rows ≡ rows_of a
  pub consumed : r.consumed ≡ consumed_of a
  pub rejoined : r.rejoined ≡ rejoined_of a

abbrev pub ListNumbers : Result code.Read Refusal → TelfjostList → Type 0
ListNumbers a r = NumbersOf (told a) r

-- The entry e, of a reader that takes at most `most` tokens, was lent the line l and a row buffer of the numbers `given`; the function answered r and
-- left the numbers `left`.
pub record OutcomeWithin (most : ℕ) (e : Entry) (l : Line) (given : List ℕ) (r : TelfjostList) (left : List ℕ) : Type 0 where
  -- the one answer, number by number, and every number of the buffer on return
  pub numbers : NumbersOf (answer_of (reading most e l (length given))) r
  pub buffer : left ≡ buffer_of given (reading most e l (length given))
  -- never divided wrongly, said of these numbers
  pub list : r.refusal ≡ 0 → TakenAsList e l → ReadAsList most e l given r.rows r.consumed r.rejoined left

-- the main reader's functions, and the small viewer's
abbrev pub ListOutcome : Entry → Line → (given : List ℕ) → TelfjostList → (left : List ℕ) → Type 0
ListOutcome = OutcomeWithin most_tokens

abbrev pub ViewerOutcome : Entry → Line → (given : List ℕ) → TelfjostList → (left : List ℕ) → Type 0
ViewerOutcome = OutcomeWithin viewer_tokens

-- ---- anchors

-- the eight numbers of an answer
abbrev pub anchor_numbers : TelfjostAnchor → Numbers
anchor_numbers r =
    record {
      refusal = r.refusal;
      anchor = r.anchor;
      id_place = r.id_place;
      id_count = r.id_count;
      text_place = r.text_place;
      text_count = r.text_count;
      consumed = r.consumed;
      discard = r.discard;
    }

-- the numbers of what `parse_anchor` gives
abbrev pub AnchorNumbers : Result (Option Anchor) Refusal → TelfjostAnchor → Type 0
AnchorNumbers a r = anchor_numbers r ≡ numbers_of a

-- the functions' answer, all eight numbers: of a whole line, or within a line
abbrev pub AnchorOutcome : (is_entire_line : Bool) → Line → TelfjostAnchor → Type 0
AnchorOutcome is_entire_line l r = anchor_numbers r ≡ anchor is_entire_line l
