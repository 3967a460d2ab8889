-- What an entry answers.
use Rattle.std.specs.Prelude.{ℕ}

-- the number with which a call is refused, or how many rows are written, how many tokens are consumed and how many commas were taken back
pub data Answer : Type 0 where
  Refused : (number : ℕ) → Answer
  Read : (rows consumed rejoined : ℕ) → Answer
