-- Lines delimited: what the definitions give, computed. None is a line of document 01's bench, save `",'",']`, of whose commas laws speak.
use Rattle.std.specs.Prelude.{ℕ, zero, suc, ◌<◌, ◌≡◌, refl, List, [], ◌∷◌, map, length, get_or}
use Rattle.std.proofs.Common.{arith, inl, inr, lit<}
use Rattle.token.specs.Kind.{backslash, close_bracket, comma, double_quote, single_quote, word}
use Rattle.delimiters.specs.Count.{counted, counted_commas, Quote, double, single}
use Rattle.delimiters.specs.Delimit.{start, at_comma, rejoin, rejoin_times, rejoin_to, note, at_quote, step, after, dividing, rejoined, Stretch, parted, attributes}
use Rattle.delimiters.specs.Pairs.{before, Pair, Cross, Inside, Uncrossed}
use Rattle.delimiters.specs.Divide.{Divides}

-- the kinds of a line and the place of its closing bracket; how many tokens and how many of their commas are counted, the dividing commas, how many
-- were taken back, and the attributes
pub record Case : Type 0 where
  pub kinds : List ℕ
  pub end : ℕ
  pub count : ℕ
  pub of_commas : ℕ
  pub commas : List ℕ
  pub back : ℕ
  pub attrs : List Stretch

abbrev pub to : ℕ → ℕ → Stretch
to a b = record { from = a; to = b }

-- `",'",']`
abbrev pub crossing : List ℕ
crossing = double_quote ∷ comma ∷ single_quote ∷ double_quote ∷ comma ∷ single_quote ∷ close_bracket ∷ []

abbrev pub cases : List Case
cases =
    -- `,]`: a comma alone divides two attributes of no tokens
    record { kinds = comma ∷ close_bracket ∷ []; end = 1; count = 1; of_commas = 1; commas = 0 ∷ []; back = 0; attrs = to 0 0 ∷ to 1 1 ∷ [] }
    -- `a,b,c]`
    ∷ record { kinds = word ∷ comma ∷ word ∷ comma ∷ word ∷ close_bracket ∷ []; end = 5; count = 5; of_commas = 2; commas = 1 ∷ 3 ∷ []; back = 0; attrs = to 0 1 ∷ to 2 3 ∷ to 4 5 ∷ [] }
    -- `a]b,c]`: the count ends at the first bracket, and no comma is counted
    ∷ record { kinds = word ∷ close_bracket ∷ word ∷ comma ∷ word ∷ close_bracket ∷ []; end = 5; count = 1; of_commas = 0; commas = []; back = 0; attrs = to 0 5 ∷ [] }
    -- `"a,'b",c,'d]`: the pairs cross; the comma at 2 and the one at 8 are rejoined, the one at 6 is not
    ∷ record {
      kinds = double_quote ∷ word ∷ comma ∷ single_quote ∷ word ∷ double_quote ∷ comma ∷ word ∷ comma ∷ single_quote ∷ word ∷ close_bracket ∷ [];
      end = 11;
      count = 11;
      of_commas = 3;
      commas = 6 ∷ [];
      back = 2;
      attrs = to 0 6 ∷ to 7 11 ∷ [];
    }
    -- `a\],b]`: the count ends at an escaped bracket too, and the comma after it does not divide
    ∷ record { kinds = word ∷ backslash ∷ close_bracket ∷ comma ∷ word ∷ close_bracket ∷ []; end = 5; count = 2; of_commas = 0; commas = []; back = 0; attrs = to 0 5 ∷ [] }
    -- `a",b]`: an odd last quote makes no pair
    ∷ record { kinds = word ∷ double_quote ∷ comma ∷ word ∷ close_bracket ∷ []; end = 4; count = 4; of_commas = 1; commas = 2 ∷ []; back = 0; attrs = to 0 2 ∷ to 3 4 ∷ [] }
    -- `"a,b","c,d",e]`: first with second, third with fourth
    ∷ record {
      kinds = double_quote ∷ word ∷ comma ∷ word ∷ double_quote ∷ comma ∷ double_quote ∷ word ∷ comma ∷ word ∷ double_quote ∷ comma ∷ word ∷ close_bracket ∷ [];
      end = 13;
      count = 13;
      of_commas = 4;
      commas = 5 ∷ 11 ∷ [];
      back = 2;
      attrs = to 0 5 ∷ to 6 11 ∷ to 12 13 ∷ [];
    }
    -- `",a,',b,',",c]`: a second quote rejoins all that came since its first, and only that
    ∷ record {
      kinds = double_quote ∷ comma ∷ word ∷ comma ∷ single_quote ∷ comma ∷ word ∷ comma ∷ single_quote ∷ comma ∷ double_quote ∷ comma ∷ word ∷ close_bracket ∷ [];
      end = 13;
      count = 13;
      of_commas = 6;
      commas = 11 ∷ [];
      back = 5;
      attrs = to 0 11 ∷ to 12 13 ∷ [];
    }
    -- `",'",']`: both commas are inside a pair, and one is taken back
    ∷ record { kinds = crossing; end = 6; count = 6; of_commas = 2; commas = 4 ∷ []; back = 1; attrs = to 0 4 ∷ to 5 6 ∷ [] }
    -- `',"',"]`: so with the kinds exchanged
    ∷ record { kinds = single_quote ∷ comma ∷ double_quote ∷ single_quote ∷ comma ∷ double_quote ∷ close_bracket ∷ []; end = 6; count = 6; of_commas = 2; commas = 4 ∷ []; back = 1; attrs = to 0 4 ∷ to 5 6 ∷ [] }
    ∷ []

-- a case with what the definitions give
abbrev pub computed : Case → Case
computed c =
    record {
      kinds = c.kinds;
      end = c.end;
      count = counted c.kinds;
      of_commas = counted_commas c.kinds;
      commas = dividing c.kinds;
      back = rejoined c.kinds;
      attrs = attributes c.kinds c.end;
    }

pub cases-hold : map computed cases ≡ cases
unfolding counted counted_commas start at_comma rejoin rejoin_times rejoin_to note at_quote step after dividing rejoined parted attributes
cases-hold = refl

-- ---- `",'",']`: its pairs cross, and the comma at 4 is inside one and divides, while the comma at 1 is inside the other and does not

pub double-pair : Pair crossing double 0 3
unfolding counted before
double-pair =
    record {
      half = 0;
      opens = record { in_count = lit< tt; holds = refl; number = refl };
      closes = record { in_count = lit< tt; holds = refl; number = refl };
    }

pub single-pair : Pair crossing single 2 5
unfolding counted before
single-pair =
    record {
      half = 0;
      opens = record { in_count = lit< tt; holds = refl; number = refl };
      closes = record { in_count = lit< tt; holds = refl; number = refl };
    }

pub pairs-cross : Cross 2 5 0 3
pairs-cross = inl (inr ((λ w. omega (arith, w.after_first)), record { after_first = lit< tt; before_second = lit< tt }))

pub crossed : Uncrossed crossing → ⊥
crossed h = h 2 5 0 3 single-pair double-pair pairs-cross

pub four-inside : Inside crossing single 4
four-inside = record { first = 2; second = 5; pair = single-pair; between = record { after_first = lit< tt; before_second = lit< tt } }

pub four-divides : Divides crossing 4
unfolding counted start at_comma rejoin rejoin_times rejoin_to note at_quote step after dividing
four-divides = record { index = 0; listed = lit< tt; is = refl }

pub one_inside : Inside crossing double 1
one_inside = record { first = 0; second = 3; pair = double-pair; between = record { after_first = lit< tt; before_second = lit< tt } }

pub one-joined : Divides crossing 1 → ⊥
unfolding counted start at_comma rejoin rejoin_times rejoin_to note at_quote step after dividing
one-joined w = go w.index w.listed w.is
  where
    go : (j : ℕ) → j < length (dividing crossing) → get_or (dividing crossing) j 0 ≡ 1 → ⊥
    go zero lt e = omega arith
    go (suc j) lt e = omega arith

-- so it is not true of all lines that a comma inside a pair does not divide
pub not-always-joined : ((kinds : List ℕ) (q : Quote) (p : ℕ) → Inside kinds q p → Divides kinds p → ⊥) → ⊥
not-always-joined h = h crossing single 4 four-inside four-divides
