-- Lines whose answers are computed: as a whole line, and inline.
use Rattle.std.specs.Prelude.{ℕ, ◌+◌, true, false, ◌≡◌, refl, List, [], ◌∷◌, map, replicate}
use Rattle.refusals.specs.Refusals.{no_tokens, kind_too_large, pairs_not_in_order, anchor_malformed}
use Rattle.token.specs.Kind.{attr_ref, backslash, close_bracket, comma, digits, discard, dots, double_quote, hash, single_quote, whitespace, word}
use Rattle.token.specs.Line.{Line, line_of, some_over, misplaced, refusal, run, empty_run}
use Rattle.anchor.specs.Numbers.{Numbers, refused, no_anchor, found}
use Rattle.anchor.specs.Anchor.{bytes_of, text_end, text_run, counts_as_discard, with_text, with_id, unrefused, anchor}

-- the kinds of a line and the lengths of its tokens, which follow one another; what it gives
pub record Case : Type 0 where
  pub kinds : List ℕ
  pub lengths : List ℕ
  pub whole : Numbers
  pub inline : Numbers

abbrev ones : List ℕ
ones = 1 ∷ 1 ∷ 1 ∷ 1 ∷ 1 ∷ 1 ∷ 1 ∷ []

unfoldable pub pairs_from : (offset : ℕ) → (kinds lengths : List ℕ) → List ℕ
pairs_from offset [] lengths = []
pairs_from offset (k ∷ ks) [] = []
pairs_from offset (k ∷ ks) (n ∷ ns) = offset ∷ n ∷ pairs_from (offset + n) ks ns

abbrev pub line : (kinds lengths : List ℕ) → Line
line kinds lengths = line_of kinds (replicate 9 97) (pairs_from 0 kinds lengths)

-- an id of the first n tokens alone, and with a reference text of m tokens behind its Comma
abbrev pub alone : (n consumed : ℕ) → Numbers
alone n consumed = found (run 0 n) empty_run consumed false

abbrev pub both : (n m : ℕ) → Numbers
both n m = found (run 0 n) (run (n + 1) m) (n + 1 + m + 2) false

abbrev pub discarded : (n m : ℕ) → Numbers
discarded n m = found (run 0 n) (run (n + 1) m) (n + 1 + m + 2) true

abbrev pub malformed : Numbers
malformed = refused anchor_malformed

abbrev pub cases : List Case
cases =
    -- `a]]`, `a]`, `a]bb`
    record { kinds = word ∷ close_bracket ∷ close_bracket ∷ []; lengths = ones; whole = alone 1 3; inline = alone 1 3 }
    ∷ record { kinds = word ∷ close_bracket ∷ []; lengths = ones; whole = alone 1 2; inline = alone 1 2 }
    ∷ record { kinds = word ∷ close_bracket ∷ word ∷ word ∷ []; lengths = ones; whole = alone 1 3; inline = alone 1 3 }
    -- `a{x}]]`: AttrRef is kept; `{x}]]`, where it has no bytes, and where it has
    ∷ record { kinds = word ∷ attr_ref ∷ close_bracket ∷ close_bracket ∷ []; lengths = ones; whole = alone 2 4; inline = alone 2 4 }
    ∷ record { kinds = attr_ref ∷ close_bracket ∷ close_bracket ∷ []; lengths = 0 ∷ 1 ∷ 1 ∷ []; whole = malformed; inline = malformed }
    ∷ record { kinds = attr_ref ∷ close_bracket ∷ close_bracket ∷ []; lengths = 3 ∷ 1 ∷ 1 ∷ []; whole = alone 1 3; inline = alone 1 3 }
    -- a word of no bytes before an AttrRef that has bytes
    ∷ record { kinds = word ∷ attr_ref ∷ close_bracket ∷ close_bracket ∷ []; lengths = 0 ∷ 3 ∷ 1 ∷ 1 ∷ []; whole = alone 2 4; inline = alone 2 4 }
    -- `a,b]]`; `a, b]]`: the Whitespace belongs to the text; of two the first counts
    ∷ record { kinds = word ∷ comma ∷ word ∷ close_bracket ∷ close_bracket ∷ []; lengths = ones; whole = both 1 1; inline = both 1 1 }
    ∷ record { kinds = word ∷ comma ∷ whitespace ∷ word ∷ close_bracket ∷ close_bracket ∷ []; lengths = ones; whole = discarded 1 2; inline = discarded 1 2 }
    ∷ record { kinds = word ∷ comma ∷ whitespace ∷ whitespace ∷ word ∷ close_bracket ∷ close_bracket ∷ []; lengths = ones; whole = discarded 1 3; inline = discarded 1 3 }
    -- `a, ]]`, and the same with a Discard
    ∷ record { kinds = word ∷ comma ∷ whitespace ∷ close_bracket ∷ close_bracket ∷ []; lengths = ones; whole = discarded 1 1; inline = discarded 1 1 }
    ∷ record { kinds = word ∷ comma ∷ discard ∷ close_bracket ∷ close_bracket ∷ []; lengths = ones; whole = discarded 1 1; inline = discarded 1 1 }
    -- `a,{x}]]`
    ∷ record { kinds = word ∷ comma ∷ attr_ref ∷ close_bracket ∷ close_bracket ∷ []; lengths = ones; whole = both 1 1; inline = both 1 1 }
    -- `a,]]`: no text; `a,]]]`: the whole line's text is the first bracket
    ∷ record { kinds = word ∷ comma ∷ close_bracket ∷ close_bracket ∷ []; lengths = ones; whole = alone 1 4; inline = alone 1 4 }
    ∷ record { kinds = word ∷ comma ∷ close_bracket ∷ close_bracket ∷ close_bracket ∷ []; lengths = ones; whole = both 1 1; inline = alone 1 4 }
    -- `a,b]]c`, `a,b]c]]`
    ∷ record { kinds = word ∷ comma ∷ word ∷ close_bracket ∷ close_bracket ∷ word ∷ []; lengths = ones; whole = malformed; inline = both 1 1 }
    ∷ record { kinds = word ∷ comma ∷ word ∷ close_bracket ∷ word ∷ close_bracket ∷ close_bracket ∷ []; lengths = ones; whole = both 1 3; inline = malformed }
    -- `a,b\]]`: "with no escape"
    ∷ record { kinds = word ∷ comma ∷ word ∷ backslash ∷ close_bracket ∷ close_bracket ∷ []; lengths = ones; whole = both 1 2; inline = both 1 2 }
    -- `a,b]\]]`: the Backslash parts the two brackets
    ∷ record { kinds = word ∷ comma ∷ word ∷ close_bracket ∷ backslash ∷ close_bracket ∷ close_bracket ∷ []; lengths = ones; whole = both 1 3; inline = malformed }
    -- `a,b]`, `a`, `a,`, `a,]`
    ∷ record { kinds = word ∷ comma ∷ word ∷ close_bracket ∷ []; lengths = ones; whole = malformed; inline = malformed }
    ∷ record { kinds = word ∷ []; lengths = ones; whole = malformed; inline = malformed }
    ∷ record { kinds = word ∷ comma ∷ []; lengths = ones; whole = malformed; inline = malformed }
    ∷ record { kinds = word ∷ comma ∷ close_bracket ∷ []; lengths = ones; whole = malformed; inline = malformed }
    -- `9]]`, `"a]]`, `'a]]`, ` a]]`, `]]`, `,a]]`, `,`
    ∷ record { kinds = digits ∷ close_bracket ∷ close_bracket ∷ []; lengths = ones; whole = no_anchor; inline = no_anchor }
    ∷ record { kinds = double_quote ∷ word ∷ close_bracket ∷ close_bracket ∷ []; lengths = ones; whole = no_anchor; inline = no_anchor }
    ∷ record { kinds = single_quote ∷ word ∷ close_bracket ∷ close_bracket ∷ []; lengths = ones; whole = no_anchor; inline = no_anchor }
    ∷ record { kinds = whitespace ∷ word ∷ close_bracket ∷ close_bracket ∷ []; lengths = ones; whole = no_anchor; inline = no_anchor }
    ∷ record { kinds = close_bracket ∷ close_bracket ∷ []; lengths = ones; whole = no_anchor; inline = no_anchor }
    ∷ record { kinds = comma ∷ word ∷ close_bracket ∷ close_bracket ∷ []; lengths = ones; whole = no_anchor; inline = no_anchor }
    ∷ record { kinds = comma ∷ []; lengths = ones; whole = no_anchor; inline = no_anchor }
    -- `#a]]`, `.a]]`
    ∷ record { kinds = hash ∷ word ∷ close_bracket ∷ close_bracket ∷ []; lengths = ones; whole = alone 2 4; inline = alone 2 4 }
    ∷ record { kinds = dots ∷ word ∷ close_bracket ∷ close_bracket ∷ []; lengths = ones; whole = alone 2 4; inline = alone 2 4 }
    -- the checks come first: no token; a kind of 51 behind a Comma; a token past the text where none closes
    ∷ record { kinds = []; lengths = []; whole = refused no_tokens; inline = refused no_tokens }
    ∷ record { kinds = comma ∷ 51 ∷ []; lengths = ones; whole = refused kind_too_large; inline = refused kind_too_large }
    ∷ record { kinds = word ∷ word ∷ []; lengths = 1 ∷ 9 ∷ []; whole = refused pairs_not_in_order; inline = refused pairs_not_in_order }
    ∷ []

abbrev pub computed : Case → Case
computed c = record { kinds = c.kinds; lengths = c.lengths; whole = anchor true (line c.kinds c.lengths); inline = anchor false (line c.kinds c.lengths) }

pub cases-hold : map computed cases ≡ cases
unfolding pairs_from refusal some_over misplaced bytes_of text_end text_run counts_as_discard with_text with_id unrefused anchor
cases-hold = refl
