-- `close` copies what stands behind the place onto it, and empties the last place. Assumes nothing.
use Prim.Native.Nat.{ℕ}
use mathlib.Core.List.{List}
use mathlib.Core.Path.{ap, ◌∙◌}
use borrow.Author.Rules.{rules}
use lib.ListN.{set}
use Rattle.substitutions.proofs.PlacesLaws.{closed-copied}
use Rattle.substitutions.proofs.places.close.Goals as goal

pub returns : goal.returns
returns c = ap (λ (p : List ℕ). set p 6 0) c.copy_within.ensures.after ∙ closed-copied c.args.places c.args.at (search rules) c.requires
