-- Kept tokens and runs (document 01, "Tokens and runs").
use Rattle.std.specs.Prelude.{ℕ, suc, ◌+◌, ◌-◌, Bool, cond, not, List, [], ◌∷◌, eqb, ltb, length}
use Rattle.token.specs.declared.Run.{Run}
use Rattle.token.specs.declared.quotes.QuoteMark.{QuoteMark}
use Rattle.token.specs.declared.quotes.QuoteMark.TheVariants as mark
use Rattle.token.specs.declared.quotes.Unquoted.{Unquoted}
use Rattle.token.specs.Kind.{attr_ref, comma, double_quote, dots, equal_signs, hash, percent, single_quote, whitespace}
use Rattle.token.specs.Line.{Line, Token, tokens, run, empty_run}
use Rattle.token.specs.Quotes.{mark_number, marked}

-- ---- a token's kind and length

abbrev pub of_kind : ℕ → Token → Bool
of_kind k t = eqb t.kind k

abbrev pub is_attr_ref : Token → Bool
is_attr_ref = of_kind attr_ref

abbrev pub is_comma : Token → Bool
is_comma = of_kind comma

abbrev pub is_double_quote : Token → Bool
is_double_quote = of_kind double_quote

abbrev pub is_dots : Token → Bool
is_dots = of_kind dots

abbrev pub is_equals : Token → Bool
is_equals = of_kind equal_signs

abbrev pub is_hash : Token → Bool
is_hash = of_kind hash

abbrev pub is_percent : Token → Bool
is_percent = of_kind percent

abbrev pub is_single_quote : Token → Bool
is_single_quote = of_kind single_quote

abbrev pub is_whitespace : Token → Bool
is_whitespace = of_kind whitespace

-- a token of length 1
abbrev pub of_one : Token → Bool
of_one t = eqb (length t.lexeme) 1

-- ---- parts of a list of tokens

unfoldable pub without : (Token → Bool) → List Token → List Token
without p [] = []
without p (t ∷ ts) =
    let rest = without p ts in
    cond (p t) rest (t ∷ rest)

-- the tokens before the first for which p holds, all where there is none
unfoldable pub up_to : (Token → Bool) → List Token → List Token
up_to p [] = []
up_to p (t ∷ ts) =
    let rest = up_to p ts in
    cond (p t) [] (t ∷ rest)

-- the first token for which p holds, and all after it
unfoldable pub onward : (Token → Bool) → List Token → List Token
onward p [] = []
onward p (t ∷ ts) =
    let rest = onward p ts in
    cond (p t) (t ∷ ts) rest

-- the last token of t ∷ ts, and all but the last
unfoldable pub last_of : Token → List Token → Token
last_of t [] = t
last_of t (u ∷ us) = last_of u us

unfoldable pub front : Token → List Token → List Token
front t [] = []
front t (u ∷ us) = t ∷ front u us

-- "AttrRef is dropped": the tokens kept of the places from `from` up to and without `to`
unfoldable pub kept : Line → ℕ → ℕ → List Token
kept l from to = without is_attr_ref (tokens l from (to - from))

-- ---- "`trim` takes Whitespace off both ends."

unfoldable pub trim_start : List Token → List Token
trim_start [] = []
trim_start (t ∷ ts) =
    let rest = trim_start ts in
    cond (is_whitespace t) rest (t ∷ ts)

-- a token is left if any after it is, or if it is not Whitespace
unfoldable pub leave : Token → List Token → List Token
leave t [] = cond (is_whitespace t) [] (t ∷ [])
leave t (u ∷ us) = t ∷ u ∷ us

unfoldable pub trim_end : List Token → List Token
trim_end [] = []
trim_end (t ∷ ts) = leave t (trim_end ts)

unfoldable pub trim : List Token → List Token
trim ts = trim_end (trim_start ts)

-- ---- "`unquote` takes the first and last token if there are two or more and both are DoubleQuote or both SingleQuote."
-- "Taking off quotes must also report which were taken: 0 none, 1 double, 2 single."

-- the mark of two quotes of this kind; of any other kind, none
abbrev pub mark_of : (kind : ℕ) → QuoteMark
mark_of k = cond (eqb k double_quote) mark.Double (cond (eqb k single_quote) mark.Single mark.None)

-- which quotes a first and a last token are: two of one kind
abbrev pub quotes_of : (first last : Token) → QuoteMark
quotes_of t u = cond (eqb u.kind t.kind) (mark_of t.kind) mark.None

-- which quotes are taken off these tokens
unfoldable pub quote_mark : List Token → QuoteMark
quote_mark [] = mark.None
quote_mark (t ∷ []) = mark.None
quote_mark (t ∷ u ∷ us) = quotes_of t (last_of u us)

-- the mark is not 0
unfoldable pub quoted : List Token → Bool
quoted ts = not (eqb (mark_number (quote_mark ts)) 0)

-- all but the first and the last
unfoldable pub inside : List Token → List Token
inside [] = []
inside (t ∷ []) = []
inside (t ∷ u ∷ us) = front u us

unfoldable pub unquote : List Token → List Token
unquote ts = cond (quoted ts) (inside ts) ts

-- ---- "A run is a place and a count, first kept token to last."

unfoldable pub run_of : List Token → Run
run_of [] = empty_run
run_of (t ∷ ts) = run t.place (suc ((last_of t ts).place - t.place))

-- what `unquote` answers: the run of the tokens that are left, and which quotes were taken off
abbrev pub unquoted : List Token → Unquoted
unquoted ts = marked (run_of (unquote ts)) (quote_mark ts)

-- "AttrRef tokens inside are skipped by whoever reads it": the tokens of a run
abbrev pub in_run : Line → Run → List Token
in_run l r = kept l r.place.0 (r.place.0 + r.count)

-- the place of the first of some tokens, or `end` where there is none
unfoldable pub first_place : ℕ → List Token → ℕ
first_place end [] = end
first_place end (t ∷ ts) = t.place

-- the place of the first of a kind, or `end` where there is none
abbrev pub place_of_kind : (kind end : ℕ) → List Token → ℕ
place_of_kind kind end ts = first_place end (onward (of_kind kind) ts)

-- the run of the places from `from` up to and without `to`, where the first and the last are kept
abbrev pub between : (from to : ℕ) → Run
between from to = cond (ltb from to) (run from (to - from)) empty_run
