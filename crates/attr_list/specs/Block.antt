-- Whether a line is a block attribute list. Document 01 ports `is_block_attr_list` and gives no rule of its own: this is the Rust's.
use Rattle.std.specs.Prelude.{ℕ, ◌-◌, Bool, cond, not, ◌&&◌, eqb, List, length}
use Rattle.token.specs.Kind.{backslash, close_bracket, open_bracket, kind_at}
use Rattle.token.specs.Line.{Line, most_tokens, refusal}

-- the number with which a line is refused, or whether it is a block attribute list
pub data BlockLine : Type 0 where
  Refused : (number : ℕ) → BlockLine
  Is : Bool → BlockLine

-- the kind of the token that is the nth from the end
abbrev pub from_end : ℕ → List ℕ → ℕ
from_end n kinds = kind_at kinds (length kinds - n)

-- the first token is OpenBracket, the last CloseBracket, the one before the last not Backslash, the second not OpenBracket
unfoldable pub is_block_attr_list : List ℕ → Bool
is_block_attr_list kinds =
    eqb (kind_at kinds 0) open_bracket && eqb (from_end 1 kinds) close_bracket && not (eqb (from_end 2 kinds) backslash)
    && not (eqb (kind_at kinds 1) open_bracket)

-- "`is_block_attr_list` uses 1 to 6, then yes or no."
unfoldable pub block_line : Line → BlockLine
block_line l = cond (eqb (refusal most_tokens l) 0) (Is (is_block_attr_list l.kinds)) (Refused (refusal most_tokens l))

-- the numbers of each case: the refusal, 0 where there is none, and 1 for yes
abbrev pub refusal_of : BlockLine → ℕ
refusal_of (Refused n) = n
refusal_of (Is b) = 0

abbrev pub yes_of : BlockLine → ℕ
yes_of (Refused n) = 0
yes_of (Is b) = cond b 1 0
