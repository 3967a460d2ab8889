-- What is noted of a kind of quote, as the code has it: nothing, or how many stretches its first quote noted.
use Rattle.std.specs.Prelude.{ℕ, ◌<◌, ◌≡◌, Option, None, Some}

-- the same as the definition's number: 0 while none of the kind waits for its second
abbrev pub Noted : Option ℕ → ℕ → Type 0
Noted None n = n ≡ 0
Noted (Some first) n = (0 < first) × (n ≡ first)

-- What a quote does, by what is noted of its kind: the first notes all stretches, and asks for nothing; after the second nothing is noted, and no more
-- than the first noted are to remain.
abbrev pub AtQuote : (noted : Option ℕ) → (stretches : ℕ) → (left remain : Option ℕ) → Type 0
AtQuote None n left remain = (left ≡ Some n) × (remain ≡ None)
AtQuote (Some first) n left remain = (left ≡ None) × (remain ≡ Some first)
