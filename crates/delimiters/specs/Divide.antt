-- What holds of every line: nothing is lost or read twice, and no comma divides or joins that should not.
use Rattle.std.specs.Prelude.{ℕ, zero, suc, ◌+◌, ◌≤◌, ◌<◌, cond, ◌&&◌, ◌≡◌, List, [], ◌∷◌, eqb, ltb, leb, length, get_or}
use Rattle.token.specs.Kind.{comma, close_bracket, kind_at}
use Rattle.delimiters.specs.Count.{counted, counted_commas, Quote}
use Rattle.delimiters.specs.Delimit.{dividing, rejoined, Stretch, attributes}
use Rattle.delimiters.specs.Pairs.{Inside, Uncrossed}

-- how many of the commas stand at place p
unfoldable pub times : ℕ → List ℕ → ℕ
times p [] = 0
times p (c ∷ cs) = cond (eqb c p) (suc (times p cs)) (times p cs)

-- how many of the stretches cover place p
unfoldable pub covers : ℕ → List Stretch → ℕ
covers p [] = 0
covers p (s ∷ ss) = cond (leb s.from p && ltb p s.to) (suc (covers p ss)) (covers p ss)

-- the places ascend, the first not before f, the last before n
abbrev pub Ascending : ℕ → List ℕ → ℕ → Type 0
Ascending f [] n = f ≤ n
Ascending f (c ∷ cs) n = (f ≤ c) × Ascending (c + 1) cs n

-- "The stretches left are the attributes, none if nothing is counted": where tokens are counted there is one attribute more than dividing commas
abbrev pub how_many : (counted commas : ℕ) → ℕ
how_many zero commas = 0
how_many (suc n) commas = suc commas

-- These stretches follow one another in the line: the first begins at place f, each goes up to the next of the commas and the next begins after it;
-- the one after the last comma goes on to `end`.
abbrev pub Follow : (f : ℕ) → (commas : List ℕ) → (end : ℕ) → List Stretch → Type 0
Follow f commas end [] = Unit {0}
Follow f [] end (s ∷ ss) = (s.from ≡ f) × (s.to ≡ end)
Follow f (c ∷ cs) end (s ∷ ss) = (s.from ≡ f) × (s.to ≡ c) × Follow (c + 1) cs end ss

-- the comma at place p is a dividing one
pub record Divides (kinds : List ℕ) (p : ℕ) : Type 0 where
  pub index : ℕ
  pub listed : index < length (dividing kinds)
  pub is : get_or (dividing kinds) index 0 ≡ p

-- `end` can be the place of the closing bracket: it holds one, and where the first token is one it is that
pub record Closes (kinds : List ℕ) (end : ℕ) : Type 0 where
  pub bracket : kind_at kinds end ≡ close_bracket
  pub first : kind_at kinds 0 ≡ close_bracket → end ≡ 0

-- A line whose closing bracket stands at `end`:
pub record Divided (kinds : List ℕ) (end : ℕ) : Type 0 where
  -- the count does not go past the closing bracket
  pub within : counted kinds ≤ end
  -- each token before it, counted or not, is in exactly one attribute or is exactly one dividing comma, never both
  pub each_once : (p : ℕ) → p < end → covers p (attributes kinds end) + times p (dividing kinds) ≡ 1
  -- there are so many attributes, in the order of the line
  pub how-many : length (attributes kinds end) ≡ how_many (counted kinds) (length (dividing kinds))
  pub follow : Follow 0 (dividing kinds) end (attributes kinds end)
  -- the dividing commas are listed first to last, each once
  pub in_order : Ascending 0 (dividing kinds) (counted kinds)
  -- a dividing comma is a counted comma
  pub only_commas : (p : ℕ) → Divides kinds p → (p < counted kinds) × (kind_at kinds p ≡ comma)
  -- with the dividing commas, the commas taken back are exactly the commas counted, crossing pairs or not
  pub taken_back : rejoined kinds + length (dividing kinds) ≡ counted_commas kinds
  -- a counted comma inside no complete pair divides, crossing pairs or not
  pub outside : (p : ℕ) → p < counted kinds → kind_at kinds p ≡ comma → ((q : Quote) → Inside kinds q p → ⊥) → Divides kinds p
  -- where no single-quote pair crosses a double-quote pair, one inside a complete pair never divides
  pub inside : Uncrossed kinds → (q : Quote) (p : ℕ) → Inside kinds q p → Divides kinds p → ⊥
