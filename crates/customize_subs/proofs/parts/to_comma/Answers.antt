-- `to_comma` tells the place that the search found, or the length. Assumes nothing.
use mathlib.Core.Path.{sym, ap, ◌∙◌}
use native.Mathlib.Omega.{arith}
use Rattle.std.specs.Option.{unwrap_or}
use Rattle.std.proofs.Common.{length}
use Rattle.customize_subs.proofs.TextLaws.{comma-found}
use Rattle.customize_subs.proofs.parts.to_comma.Goals as goal

pub returns-clause-value : goal.returns-clause-value
returns-clause-value c =
    let t = c.args.text.now in
    c.unwrap_or.ensures ∙ ap (λ r. unwrap_or r (length t)) c.first_comma.ensures ∙ (comma-found t).0

pub returns-clause-within : goal.returns-clause-within
returns-clause-within c =
    let t = c.args.text.now in
    omega (arith, c.unwrap_or.ensures ∙ ap (λ r. unwrap_or r (length t)) c.first_comma.ensures, (comma-found t).1)
