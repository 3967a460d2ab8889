-- What checking a line answers: the line itself, or the refusal of the first check that applies; and a token of a checked line.
use Rattle.std.specs.Prelude.{◌≡◌, Result, Ok, Err}
use Rattle.refusals.specs.declared.Refusal.{Refusal}
use Rattle.refusals.specs.Numbered.{number_of}
use Rattle.token.specs.declared.lent.Line as lent
use Rattle.token.specs.declared.lent.Token as lent-token
use Rattle.token.specs.Line.{Line, Token, token_at, most_tokens, refusal}
use Rattle.token.specs.Lent.{line}

-- the line that a checked one is
abbrev pub line_in : lent.Line → Line
line_in l = line l.kinds l.text l.pairs

-- the checked line t is the line l, which no check refuses
pub record Taken (l : Line) (t : lent.Line) : Type 0 where
  pub accepted : refusal most_tokens l ≡ 0
  pub same : line_in t ≡ l

abbrev pub Checked : Line → Result lent.Line Refusal → Type 0
Checked l (Ok t) = Taken l t
Checked l (Err r) = number_of r ≡ refusal most_tokens l

-- the token that a token of a checked line is
abbrev pub token_in : lent-token.Token → Token
token_in t = token_at (line_in t.line) t.place.0
