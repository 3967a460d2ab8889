-- Where the tokens of an answer stand: what a caller may use of an answer about places from..to, and that the tokens there are f of the tokens kept
-- from..to, whatever the line's text.
use Rattle.std.specs.Prelude.{ℕ, ◌+◌, ◌-◌, ◌≤◌, ◌<◌, ◌≡◌, Bool, true, false, List, [], get_or}
use Rattle.token.specs.declared.Run.{Run}
use Rattle.token.specs.declared.TokenPlace.{TokenPlace}
use Rattle.token.specs.Kind.{attr_ref}
use Rattle.token.specs.Line.{Line, Token, line_of, token_at}
use Rattle.runs.specs.Run.{kept, up_to, onward, in_run}

abbrev pub all : List Token → List Token
all ts = ts

-- the first and the last of the places from..to hold kept tokens, where there is a place
pub record Ends (kinds : List ℕ) (from to : ℕ) : Type 0 where
  pub first : from < to → get_or kinds from 0 ≡ attr_ref → ⊥
  pub last : from < to → get_or kinds (to - 1) 0 ≡ attr_ref → ⊥

-- the places r..s within from..to hold f of the tokens kept from..to
pub record Narrowed (f : List Token → List Token) (kinds : List ℕ) (from to r s : ℕ) : Type 0 where
  pub low : from ≤ r
  pub mid : r ≤ s
  pub high : s ≤ to
  pub same : (text pairs : List ℕ) → kept (line_of kinds text pairs) r s ≡ f (kept (line_of kinds text pairs) from to)

-- r is the place of the first of them, or `to` where there is none
pub record StartsAt (f : List Token → List Token) (kinds : List ℕ) (from to r : ℕ) : Type 0 where
  pub part : Narrowed f kinds from to r to
  pub first : r < to → get_or kinds r 0 ≡ attr_ref → ⊥

-- s is the place past the last of them, or `from` where there is none
pub record EndsAt (f : List Token → List Token) (kinds : List ℕ) (from to s : ℕ) : Type 0 where
  pub part : Narrowed f kinds from to from s
  pub last : from < s → get_or kinds (s - 1) 0 ≡ attr_ref → ⊥

-- the run r holds f of the tokens kept from..to
pub record Part (f : List Token → List Token) (kinds : List ℕ) (from to : ℕ) (r : Run) : Type 0 where
  pub within : r.place.0 + r.count ≤ to
  pub few : r.count ≤ to - from
  pub low : 0 < r.count → from ≤ r.place.0
  pub same : (text pairs : List ℕ) → in_run (line_of kinds text pairs) r ≡ f (kept (line_of kinds text pairs) from to)
  pub ends : Ends kinds r.place.0 (r.place.0 + r.count)

-- r is the place of the first kept token for which p holds, or `to` where there is none: the tokens kept before it, the tokens kept from it on
pub record FoundIn (l : Line) (p : Token → Bool) (from to r : ℕ) : Type 0 where
  pub before : kept l from r ≡ up_to p (kept l from to)
  pub after : kept l r to ≡ onward p (kept l from to)
  pub none : onward p (kept l from r) ≡ []
  pub kept : r < to → get_or l.kinds r 0 ≡ attr_ref → ⊥
  pub here : r < to → p (token_at l r) ≡ true

-- the same, whatever the line's text
pub record FoundAt (p : Token → Bool) (kinds : List ℕ) (from to r : ℕ) : Type 0 where
  pub low : from ≤ r
  pub high : r ≤ to
  pub found : (text pairs : List ℕ) → FoundIn (line_of kinds text pairs) p from to r

-- ---- the search for the first place of some sort

abbrev pub place_at : ℕ → TokenPlace
place_at i = record { 0 = i }

-- r is the first of the places from..to of which `tells` says true, or `to` where it says false of each
pub record FirstOf (tells : TokenPlace → Bool → Type 0) (from to r : ℕ) : Type 0 where
  pub low : from ≤ r
  pub high : r ≤ to
  pub before : (i : ℕ) → from ≤ i → i < r → tells (place_at i) false
  pub here : r < to → tells (place_at r) true
