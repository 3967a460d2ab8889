-- Delimiting (`find_delimiters`): the counted commas that divide a line, how many were taken back, and the attributes between those that divide.
use Rattle.std.specs.Prelude.{ℕ, zero, suc, ◌+◌, ◌-◌, cond, List, [], ◌∷◌, ◌++◌, eqb, length, take}
use Rattle.token.specs.Kind.{comma, double_quote, single_quote, kind_at}
use Rattle.delimiters.specs.Count.{counted, Quote, double, single}

-- ---- the stretches as the count goes

-- The stretches are told by the commas between them.
pub record State : Type 0 where
  -- the places of those commas, first to last
  pub commas : List ℕ
  -- how many stretches the first quote of each kind noted; 0 while none of the kind waits for its second
  pub noted : Quote → ℕ
  -- how many stretches were rejoined
  pub rejoined : ℕ

-- how many stretches there are: one more than commas between them
abbrev pub stretches : State → ℕ
stretches s = suc (length s.commas)

-- "The first token counted begins a stretch": no comma yet, and no quote.
unfoldable pub start : State
start = record { commas = []; noted = λ q. 0; rejoined = 0 }

-- "a comma ends one and begins the next, which counts though still empty": the comma at place i.
unfoldable pub at_comma : ℕ → State → State
at_comma i s = record { commas = s.commas ++ (i ∷ []); noted = s.noted; rejoined = s.rejoined }

-- "rejoins the last stretch, with the comma between, to the one before it": the last comma goes, and one stretch more is rejoined.
unfoldable pub rejoin : State → State
rejoin s = record { commas = take (length s.commas - 1) s.commas; noted = s.noted; rejoined = suc s.rejoined }

unfoldable pub rejoin_times : ℕ → State → State
rejoin_times zero s = s
rejoin_times (suc n) s = rejoin_times n (rejoin s)

-- "while more than that remain": once for each stretch more than n (`rejoin-while` of StepLaws says it as a loop).
unfoldable pub rejoin_to : ℕ → State → State
rejoin_to n s = rejoin_times (stretches s - n) s

-- "The kinds are noted apart": n for the one kind, the other as it was.
abbrev pub put : Quote → ℕ → (Quote → ℕ) → Quote → ℕ
put double n f double = n
put double n f single = f single
put single n f double = f double
put single n f single = n

unfoldable pub note : Quote → ℕ → State → State
note q n s = record { commas = s.commas; noted = put q n s.noted; rejoined = s.rejoined }

-- "A first quote of a kind notes how many stretches there are; the second rejoins .. while more than that remain": a quote, by what is noted of its
-- kind. Nothing is noted before a first one, nor after a second.
unfoldable pub at_quote : Quote → ℕ → State → State
at_quote q zero s = note q (stretches s) s
at_quote q (suc n) s = note q 0 (rejoin_to (suc n) s)

-- the token of kind k at place i
unfoldable pub step : ℕ → ℕ → State → State
step i k s =
    cond (eqb k comma) (at_comma i s)
    (cond (eqb k double_quote) (at_quote double (s.noted double) s)
    (cond (eqb k single_quote) (at_quote single (s.noted single) s)
    s))

-- when the first i tokens are counted
unfoldable pub after : List ℕ → ℕ → State
after kinds zero = start
after kinds (suc i) = step i (kind_at kinds i) (after kinds i)

-- "A counted comma divides when the stretches at its two sides are still apart as the count ends": the places of these, first to last.
unfoldable pub dividing : List ℕ → List ℕ
dividing kinds = (after kinds (counted kinds)).commas

-- "how many commas were rejoined, tied to the rule's own steps: one for each stretch that a second quote rejoins"
unfoldable pub rejoined : List ℕ → ℕ
rejoined kinds = (after kinds (counted kinds)).rejoined

-- ---- the attributes

-- the tokens from place `from` up to place `to`, without the one there
pub record Stretch : Type 0 where
  pub from : ℕ
  pub to : ℕ

-- the stretches between the commas, the first beginning at place f, the last going on to `end`
unfoldable pub parted : ℕ → List ℕ → ℕ → List Stretch
parted f [] end = record { from = f; to = end } ∷ []
parted f (c ∷ cs) end = record { from = f; to = c } ∷ parted (c + 1) cs end

-- "The stretches left are the attributes, none if nothing is counted; the last goes on to the closing bracket", which stands at `end`.
unfoldable pub attributes : List ℕ → ℕ → List Stretch
attributes kinds end = cond (eqb (counted kinds) 0) [] (parted 0 (dividing kinds) end)
