-- The numbers of the slice that is lent for the commas: each counted comma is stored behind the commas that stand between stretches then. A comma
-- that is rejoined later leaves its place there until another is stored over it; all other numbers stay.
use Rattle.std.specs.Prelude.{ℕ, zero, suc, cond, List, eqb, length, set}
use Rattle.token.specs.Kind.{comma, kind_at}
use Rattle.delimiters.specs.Count.{counted}
use Rattle.delimiters.specs.Delimit.{after}

-- when the first i tokens are counted
unfoldable pub stored_after : List ℕ → List ℕ → ℕ → List ℕ
stored_after kinds lent zero = lent
stored_after kinds lent (suc i) =
    cond (eqb (kind_at kinds i) comma) (set (stored_after kinds lent i) (length (after kinds i).commas) i) (stored_after kinds lent i)

-- as the count ends
unfoldable pub stored : List ℕ → List ℕ → List ℕ
stored kinds lent = stored_after kinds lent (counted kinds)
