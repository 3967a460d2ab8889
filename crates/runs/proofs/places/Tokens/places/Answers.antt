-- `places` gives the same kinds and places; that they are within is known in one way only. Assumes nothing.
use Rattle.std.proofs.Common.{List, ℕ, ◌≤◌, ◌≡◌, length}
use Rattle.std.proofs.Math.Bridge.{le_prop}
use Rattle.std.specs.Borrow.{Bor}
use Rattle.runs.specs.declared.places.Places as read
use Rattle.token.specs.declared.TokenPlace.{TokenPlace}
use Rattle.runs.proofs.places.Tokens.places.Goals as goal

same : (ks : Bor (List ℕ)) (from to : TokenPlace) (w v : (from.0 ≤ to.0) × (to.0 ≤ length ks.now)) → ◌≡◌ {A = read.Places} (record { kinds = ks; from = from; to = to; within = w }) (record { kinds = ks; from = from; to = to; within = v })
same ks from to w v = λ i. record { kinds = ks; from = from; to = to; within = (le_prop w.0 v.0 i, le_prop w.1 v.1 i) }

pub returns : goal.returns
returns c = same _ _ _ _ _
