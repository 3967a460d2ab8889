-- The closing bracket in words: nothing here knows how it is looked for.
use Rattle.std.specs.Prelude.{Option, None, Some, ℕ, ◌-◌, ◌≤◌, ◌<◌, Bool, true, false, ◌≡◌, List, length}
use Rattle.token.specs.Kind.{backslash, close_bracket, kind_at}
use Rattle.delimiters.specs.Delimit.{dividing}
use Rattle.token.specs.declared.TokenPlace.{TokenPlace}
use Rattle.closing.specs.Closing.{last_begins}

-- a CloseBracket at q, after the token at `from`, that stands after a Backslash
pub record Escaped (kinds : List ℕ) (from q : ℕ) : Type 0 where
  pub later : from < q
  pub after : kind_at kinds (q - 1) ≡ backslash

-- the token at p closes: it is a CloseBracket; it is the token at `from`, or its preceding token is not Backslash; each CloseBracket before it, from
-- `from` on, has Backslash before it
pub record ClosesAt (kinds : List ℕ) (from p : ℕ) : Type 0 where
  pub low : from ≤ p
  pub high : p < length kinds
  pub bracket : kind_at kinds p ≡ close_bracket
  pub free : from < p → kind_at kinds (p - 1) ≡ backslash → ⊥
  pub first : (q : ℕ) → from ≤ q → q < p → kind_at kinds q ≡ close_bracket → Escaped kinds from q

-- no token closes: each CloseBracket from `from` on has Backslash before it, and the token at `from` is none
abbrev pub NoneCloses : (kinds : List ℕ) → (from : ℕ) → Type 0
NoneCloses kinds from = (q : ℕ) → from ≤ q → q < length kinds → kind_at kinds q ≡ close_bracket → Escaped kinds from q

abbrev pub Found : (kinds : List ℕ) → (from : ℕ) → Option TokenPlace → Type 0
Found kinds from (Some p) = ClosesAt kinds from p.0
Found kinds from None = NoneCloses kinds from

-- the last token closes: it is a CloseBracket
pub record ClosesLast (kinds : List ℕ) (p : ℕ) : Type 0 where
  pub last : p ≡ length kinds - 1
  pub bracket : kind_at kinds p ≡ close_bracket

-- where no token closes, the last is no CloseBracket
abbrev pub FoundLast : (kinds : List ℕ) → Option TokenPlace → Type 0
FoundLast kinds (Some p) = ClosesLast kinds p.0
FoundLast kinds None = kind_at kinds (length kinds - 1) ≡ close_bracket → ⊥

-- The list that is the rest of a full line is closed by the last token. Any other is closed by the token after the last dividing comma if it is
-- CloseBracket, else (or from the first token, if no comma divides) by the next CloseBracket whose preceding token is not Backslash.
abbrev pub ClosesList : (full_line : Bool) → (kinds : List ℕ) → (end : ℕ) → Type 0
ClosesList true kinds end = ClosesLast kinds end
ClosesList false kinds end = ClosesAt kinds (last_begins 0 (dividing kinds)) end
