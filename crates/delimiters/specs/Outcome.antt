-- What `find_delimiters` answers for the kinds of a line, and what it leaves in the slice that is lent for the commas.
use Rattle.std.specs.Prelude.{ℕ, ◌-◌, ◌≤◌, ◌≡◌, List, length, take}
use Rattle.delimiters.specs.declared.Delimited.{Delimited}
use Rattle.delimiters.specs.Count.{counted}
use Rattle.delimiters.specs.Delimit.{dividing, rejoined}
use Rattle.delimiters.specs.Stored.{stored}

pub record Outcome (kinds lent : List ℕ) (r : Delimited) (left : List ℕ) : Type 0 where
  -- how many tokens are counted, how many of their commas divide, and how many were taken back
  pub count : r.counted ≡ counted kinds
  pub number : r.commas ≡ length (dividing kinds)
  pub back : r.rejoined ≡ rejoined kinds
  -- the dividing commas stand at the front of the slice, first to last
  pub places : take r.commas left ≡ dividing kinds
  -- every number of the slice
  pub slice : left ≡ stored kinds lent
  -- no more commas divide than tokens are counted, and the last token is not counted
  pub few : r.commas ≤ r.counted
  pub within : r.counted ≤ length kinds - 1
