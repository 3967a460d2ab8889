-- `fill` puts the kind into the first empty place among the first n, where there is one. Assumes nothing.
use mathlib.Core.Path.{sym, ◌∙◌}
use Rattle.substitutions.specs.Kinds.{number_of}
use Rattle.substitutions.proofs.PlacesLaws.{filled-at, filled-none}
use Rattle.substitutions.proofs.places.fill.Goals as goal

pub returns-in-Some : goal.returns-in-Some
returns-in-Some c =
    let a = c.args in
    rw c.from.ensures.0 (filled-at a.n (number_of a.sub) a.places c.in-Some.at (sym c.first_with.ensures ∙ c.in-Some.is))

pub returns-in_default : goal.returns-in_default
returns-in_default c = filled-none c.args.n (number_of c.args.sub) c.args.places (sym c.first_with.ensures ∙ c.in_default.is)
