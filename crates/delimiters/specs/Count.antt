-- The tokens that are counted, the commas among them, and the two kinds of quote.
use Rattle.std.specs.Prelude.{ℕ, suc, cond, List, [], ◌∷◌, eqb, take, count_by}
use Rattle.token.specs.Kind.{close_bracket, comma, double_quote, single_quote}

-- "Count all tokens but the last; the count ends at once at the first CloseBracket, itself not counted."
unfoldable pub counted : List ℕ → ℕ
counted [] = 0
counted (k ∷ []) = 0
counted (k ∷ l ∷ ks) = cond (eqb k close_bracket) 0 (suc (counted (l ∷ ks)))

-- "exactly the commas counted": how many commas are among the tokens counted, by the kinds alone
unfoldable pub counted_commas : List ℕ → ℕ
counted_commas kinds = count_by (λ k. eqb k comma) (take (counted kinds) kinds)

-- "Quotes and commas go by token kind alone."
pub data Quote : Type 0 where
  double single : Quote

abbrev pub quote_kind : Quote → ℕ
quote_kind double = double_quote
quote_kind single = single_quote
