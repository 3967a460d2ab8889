-- Lines whose closing bracket and whose link reading are computed; none is a line of document 01's bench.
use Rattle.std.specs.Prelude.{Option, None, ℕ, ◌≡◌, refl, List, [], ◌∷◌, map}
use Rattle.token.specs.Kind.{backslash, close_bracket, comma, double_quote, equal_signs, open_bracket, word}
use Rattle.token.specs.declared.TokenPlace.{TokenPlace}
use Rattle.closing.specs.declared.LinkMacro.{LinkMacro}
use Rattle.closing.specs.declared.LinkMacro.TheVariants.{AsList}
use Rattle.closing.specs.Closing.{at, last_bracket, unescaped, next_bracket}
use Rattle.closing.specs.Link.{turn, text, look_from, link_macro}

-- ---- the closing bracket

-- the kinds of a line and where its last attribute begins; the bracket that closes it by the last token, and by the next bracket
pub record Case : Type 0 where
  pub kinds : List ℕ
  pub from : ℕ
  pub last : Option TokenPlace
  pub next : Option TokenPlace

abbrev pub cases : List Case
cases =
    -- `a]`
    record { kinds = word ∷ close_bracket ∷ []; from = 0; last = at 1; next = at 1 }
    -- `a\]b]`: the bracket at 2 is escaped
    ∷ record { kinds = word ∷ backslash ∷ close_bracket ∷ word ∷ close_bracket ∷ []; from = 0; last = at 4; next = at 4 }
    -- `a,]b]`, from the token after the comma
    ∷ record { kinds = word ∷ comma ∷ close_bracket ∷ word ∷ close_bracket ∷ []; from = 2; last = at 4; next = at 2 }
    -- `a\]`: the last token closes though it is escaped; no next one does
    ∷ record { kinds = word ∷ backslash ∷ close_bracket ∷ []; from = 0; last = at 2; next = None }
    -- `a,b`
    ∷ record { kinds = word ∷ comma ∷ word ∷ []; from = 2; last = None; next = None }
    ∷ []

abbrev pub computed : Case → Case
computed c = record { kinds = c.kinds; from = c.from; last = last_bracket c.kinds; next = next_bracket c.kinds c.from }

pub cases-hold : map computed cases ≡ cases
unfolding last_bracket unescaped next_bracket
cases-hold = refl

-- ---- links

-- the kinds of a link's tokens and the pairs of their offsets and lengths; what its brackets hold
pub record Link : Type 0 where
  pub kinds : List ℕ
  pub pairs : List ℕ
  pub holds : LinkMacro

-- the pairs of tokens that are one byte long each, and follow one another
abbrev pub eight : List ℕ
eight = 0 ∷ 1 ∷ 1 ∷ 1 ∷ 2 ∷ 1 ∷ 3 ∷ 1 ∷ 4 ∷ 1 ∷ 5 ∷ 1 ∷ 6 ∷ 1 ∷ 7 ∷ 1 ∷ []

abbrev pub links : List Link
links =
    -- `a=b]`
    record { kinds = word ∷ equal_signs ∷ word ∷ close_bracket ∷ []; pairs = eight; holds = AsList }
    -- `a==b]`, where `==` is one token
    ∷ record { kinds = word ∷ equal_signs ∷ word ∷ close_bracket ∷ []; pairs = 0 ∷ 1 ∷ 1 ∷ 2 ∷ 3 ∷ 1 ∷ 4 ∷ 1 ∷ []; holds = text 3 }
    -- `"a=b"]`
    ∷ record { kinds = double_quote ∷ word ∷ equal_signs ∷ word ∷ double_quote ∷ close_bracket ∷ []; pairs = eight; holds = text 5 }
    -- `\"a=b"]`: the first quote is escaped
    ∷ record { kinds = backslash ∷ double_quote ∷ word ∷ equal_signs ∷ word ∷ double_quote ∷ close_bracket ∷ []; pairs = eight; holds = AsList }
    -- `[a]b]`
    ∷ record { kinds = open_bracket ∷ word ∷ close_bracket ∷ word ∷ close_bracket ∷ []; pairs = eight; holds = text 4 }
    -- `[[a]]b]`: "Nesting is a flag, no depth"
    ∷ record { kinds = open_bracket ∷ open_bracket ∷ word ∷ close_bracket ∷ close_bracket ∷ word ∷ close_bracket ∷ []; pairs = eight; holds = text 4 }
    -- `[\]a]b]`: an escaped bracket ends the nesting too
    ∷ record { kinds = open_bracket ∷ backslash ∷ close_bracket ∷ word ∷ close_bracket ∷ word ∷ close_bracket ∷ []; pairs = eight; holds = text 4 }
    -- `\[a]b]`: an escaped one begins none
    ∷ record { kinds = backslash ∷ open_bracket ∷ word ∷ close_bracket ∷ word ∷ close_bracket ∷ []; pairs = eight; holds = text 3 }
    -- `a\]b]`
    ∷ record { kinds = word ∷ backslash ∷ close_bracket ∷ word ∷ close_bracket ∷ []; pairs = eight; holds = text 4 }
    -- `a]=]`
    ∷ record { kinds = word ∷ close_bracket ∷ equal_signs ∷ close_bracket ∷ []; pairs = eight; holds = text 1 }
    -- `a=`: the last token is not looked at
    ∷ record { kinds = word ∷ equal_signs ∷ []; pairs = eight; holds = text 1 }
    ∷ []

abbrev pub looked : Link → Link
looked l = record { kinds = l.kinds; pairs = l.pairs; holds = link_macro l.kinds l.pairs }

pub links-hold : map looked links ≡ links
unfolding turn look_from link_macro
links-hold = refl
