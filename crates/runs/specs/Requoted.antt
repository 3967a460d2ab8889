-- How the author's tokens are had back of what is left of them and of which quotes were taken off (document 02, slip 2: "so that it can write it back as
-- the author had it").
use Rattle.std.specs.Prelude.{Bool, true, ◌≡◌, List, [], ◌∷◌, ◌++◌}
use Rattle.token.specs.declared.quotes.QuoteMark.{QuoteMark}
use Rattle.token.specs.declared.quotes.QuoteMark.TheVariants.{None, Double, Single}
use Rattle.token.specs.Line.{Token}
use Rattle.runs.specs.Run.{is_double_quote, is_single_quote}

-- the author's tokens are those that are left between two quotes
pub record Between (quote : Token → Bool) (given left : List Token) : Type 0 where
  pub first : Token
  pub last : Token
  pub opens : quote first ≡ true
  pub closes : quote last ≡ true
  pub tokens : given ≡ first ∷ (left ++ (last ∷ []))

-- the author's tokens `given` are those that are `left` between two quotes of the mark's kind, or those that are left where the mark is 0
abbrev pub Requoted : QuoteMark → (given left : List Token) → Type 0
Requoted None given left = given ≡ left
Requoted Double given left = Between is_double_quote given left
Requoted Single given left = Between is_single_quote given left
