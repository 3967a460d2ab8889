-- What is read of the tokens kept of some places, and the places of some tokens of a line.
use Rattle.std.specs.Prelude.{ℕ, ◌≡◌, List}
use Rattle.token.specs.Line.{Token, line_of}
use Rattle.runs.specs.declared.places.Places as read
use Rattle.runs.specs.declared.places.Tokens as tokens
use Rattle.runs.specs.Run.{kept}

-- r is f of the tokens kept of the places p, whatever the line's text
abbrev pub OfKept : {A : Type 0} → (List Token → A) → read.Places → A → Type 0
OfKept f p r = (text pairs : List ℕ) → r ≡ f (kept (line_of p.kinds.now text pairs) p.from.0 p.to.0)

abbrev pub places_in : tokens.Tokens → read.Places
places_in t = record { kinds = t.line.kinds; from = t.from; to = t.to; within = t.within }
