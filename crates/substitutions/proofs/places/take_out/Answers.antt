-- `take_out` closes the first place that has the kind, where there is one. Assumes nothing.
use mathlib.Core.Path.{sym, ◌∙◌}
use Rattle.substitutions.proofs.PlacesLaws.{without-at, without-none}
use Rattle.substitutions.proofs.places.take_out.Goals as goal

pub returns-in-Some : goal.returns-in-Some
returns-in-Some c =
    rw c.from.ensures.0 at (c.close.ensures ∙ without-at c.from.result c.args.places c.in-Some.at (sym c.first_with.ensures ∙ c.in-Some.is))

pub returns-in-None : goal.returns-in-None
returns-in-None c = rw c.from.ensures.0 at (without-none c.from.result c.args.places (sym c.first_with.ensures ∙ c.in-None.is))
