-- A line on loan: the line that three lent slices are, and what is known of one that is not refused.
use Rattle.std.specs.Prelude.{ℕ, ◌+◌, ◌*◌, ◌≤◌, ◌<◌, ◌≡◌, List, length, get_or}
use Rattle.std.specs.Borrow.{Bor}
use Rattle.token.specs.Line.{Line, line_of, most_tokens, most_bytes}

-- "A line is lent as kinds, text bytes, and pairs of byte offset and length, one per token"
abbrev pub line : (kinds text pairs : Bor (List ℕ)) → Line
line kinds text pairs = line_of kinds.now text.now pairs.now

-- at most 4,096 tokens and 65,535 bytes; two numbers for each token, none past the text
pub record Lent (kinds text pairs : List ℕ) : Type 0 where
  pub some : 0 < length kinds
  pub few : length kinds ≤ most_tokens
  pub short : length text ≤ most_bytes
  pub paired : length pairs ≡ 2 * length kinds
  pub within : (p : ℕ) → p < length kinds → get_or pairs (2 * p) 0 + get_or pairs (2 * p + 1) 0 ≤ length text
