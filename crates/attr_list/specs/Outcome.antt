-- What an entry answers and leaves: the contract of each.
use Rattle.std.specs.Prelude.{ℕ, ◌≡◌, List, length}
use Rattle.token.specs.Line.{Line}
use Rattle.attr_list.specs.declared.entries.Entry.{Entry}
use Rattle.attr_list.specs.Answer.{Answer, Refused, Read}
use Rattle.attr_list.specs.Reading.{answer_of, buffer_of, reading}
use Rattle.attr_list.specs.ReadAsList.{TakenAsList, ReadAsList}

-- demand 3, of an answer that is no refusal, where the line is taken as a list
abbrev pub WhenReadAsList : (most : ℕ) → Entry → Line → (given : List ℕ) → Answer → (left : List ℕ) → Type 0
WhenReadAsList most e l given (Refused n) left = Unit {0}
WhenReadAsList most e l given (Read rows consumed rejoined) left = TakenAsList e l → ReadAsList most e l given rows consumed rejoined left

-- The entry e, which takes at most `most` tokens, was lent the line l and a row buffer of the numbers `given`; it answered r and left the numbers `left`.
pub record Outcome (most : ℕ) (e : Entry) (l : Line) (given : List ℕ) (r : Answer) (left : List ℕ) : Type 0 where
  -- the one answer, and every number of the buffer on return
  pub answer : r ≡ answer_of (reading most e l (length given))
  pub buffer : left ≡ buffer_of given (reading most e l (length given))
  -- never divided wrongly
  pub list : WhenReadAsList most e l given r left
