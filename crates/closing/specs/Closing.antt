-- The closing bracket of a list (document 01, "Lists and links").
use Rattle.std.specs.Prelude.{Option, None, Some, ℕ, suc, ◌+◌, ◌-◌, Bool, true, false, cond, not, ◌&&◌, List, [], ◌∷◌, eqb, length, get_or, drop}
use Rattle.refusals.specs.Refusals.{no_closing_bracket}
use Rattle.token.specs.Kind.{backslash, close_bracket}
use Rattle.delimiters.specs.Delimit.{dividing}
use Rattle.token.specs.declared.TokenPlace.{TokenPlace}

-- The number and the place of each case: 0 and where the bracket stands; "none is 8", and no place.
pub record Numbers : Type 0 where
  pub refusal : ℕ
  pub place : ℕ

abbrev pub numbers_of : Option TokenPlace → Numbers
numbers_of (Some p) = record { refusal = 0; place = p.0 }
numbers_of None = record { refusal = no_closing_bracket; place = 0 }

abbrev pub at : ℕ → Option TokenPlace
at p = Some (record { 0 = p })

-- "Block and block macro: the last token closes; any other kind there is 8."
unfoldable pub last_bracket : List ℕ → Option TokenPlace
last_bracket kinds = cond (eqb (get_or kinds (length kinds - 1) 0) close_bracket) (at (length kinds - 1)) None

-- "the next CloseBracket whose preceding token is not Backslash", among the tokens from place p on; `before` is the kind of the token before them
unfoldable pub unescaped : (before p : ℕ) → List ℕ → Option TokenPlace
unescaped before p [] = None
unescaped before p (k ∷ ks) = cond (eqb k close_bracket && not (eqb before backslash)) (at p) (unescaped k (suc p) ks)

-- "Inline: the token after the last dividing comma closes if it is CloseBracket, else (or from the first token, if no comma divides) the next
-- CloseBracket whose preceding token is not Backslash": that token, the comma's next or the first, stands at `from`.
unfoldable pub next_bracket : (kinds : List ℕ) → (from : ℕ) → Option TokenPlace
next_bracket kinds from =
    cond (eqb (get_or kinds from 0) close_bracket) (at from) (unescaped (get_or kinds from 0) (suc from) (drop (suc from) kinds))

-- where the last attribute begins: after the last dividing comma, or with the first token, if no comma divides
unfoldable pub last_begins : (from : ℕ) → (commas : List ℕ) → ℕ
last_begins from [] = from
last_begins from (c ∷ cs) = last_begins (c + 1) cs

-- the block and block macro entries read a full line, the inline entry does not
abbrev pub closing : (full_line : Bool) → (kinds : List ℕ) → Option TokenPlace
closing true kinds = last_bracket kinds
closing false kinds = next_bracket kinds (last_begins 0 (dividing kinds))
