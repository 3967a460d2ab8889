-- The one step along a run that is read token by token.
use Rattle.std.specs.Prelude.{◌+◌, ◌≡◌}
use Rattle.runs.specs.declared.places.Places as left
use Rattle.runs.specs.Places.{all, StartsAt}

-- q is r after the step: over the same kinds, up to the same end, at the first token kept after the one that r stands at, or at the end
abbrev pub Stepped : (r q : left.Places) → Type 0
Stepped r q = (q.kinds ≡ r.kinds) × (q.to ≡ r.to) × StartsAt all r.kinds.now (r.from.0 + 1) r.to.0 q.from.0
