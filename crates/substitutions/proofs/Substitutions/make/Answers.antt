-- `make` refuses or gives what the move gives. Assumes nothing.
use mathlib.Core.Path.{sym, ◌∙◌}
use Rattle.substitutions.specs.Kinds.{number_of}
use Rattle.substitutions.specs.Moves.{moved, refusal_of}
use Rattle.substitutions.proofs.AnswersLaws.{handed-on, turned-away, moved_to, made}
use Rattle.substitutions.proofs.Substitutions.make.Goals as goal

pub returns-in_err-check : goal.returns-in_err-check
returns-in_err-check c =
    let a = c.args in
    handed-on a.self c.from_residual.result _ c.from_residual.ensures.1 ∙ turned-away _ (refusal_of a.mode a.self) a.self (moved a.mode a.strategy (number_of a.sub) a.self) c.in_err-check.ensures ∙ made a.strategy a.mode a.self a.sub

pub returns : goal.returns
returns c =
    let a = c.args in
    moved_to (refusal_of a.mode a.self) a.self c.make.result (moved a.mode a.strategy (number_of a.sub) a.self) (sym c.in_ok-check.ensures) c.make.ensures ∙ made a.strategy a.mode a.self a.sub
