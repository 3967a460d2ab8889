-- `check` gives 10, in sheet mode 11, or nothing: held and sound are read off the flags left over. Assumes nothing.
use borrow.Author.Rules.{rules}
use mathlib.Core.Path.{sym, ap, ◌∙◌}
use Rattle.substitutions.specs.Loops.{few}
use Rattle.substitutions.proofs.AnswersLaws.{few-left, refusal-10, refusal-port, refusal-sheet, refusal-11}
use Rattle.substitutions.proofs.Substitutions.check.Goals as goal

pub returns-in-Port : goal.returns-in-Port
returns-in-Port c =
    rw c.in-Port.is (refusal-port c.args.self (search rules) (few-left _ _ _ c.in-Some.ensures c.at_most_one.ensures ∙ c.if-at_most_one.true))

pub returns-then-left-eq0 : goal.returns-then-left-eq0
returns-then-left-eq0 c =
    rw c.in-Sheet.is (refusal-sheet c.args.self (search rules) (few-left _ _ _ c.in-Some.ensures c.at_most_one.ensures ∙ c.if-at_most_one.true) (sym c.in-Some.ensures ∙ c.if-left-eq0.true))

pub returns-else-left-eq0 : goal.returns-else-left-eq0
returns-else-left-eq0 c =
    rw c.in-Sheet.is (refusal-11 c.args.self (search rules) (few-left _ _ _ c.in-Some.ensures c.at_most_one.ensures ∙ c.if-at_most_one.true) (λ z. c.if-left-eq0.false (c.in-Some.ensures ∙ z)))

pub returns-in_default : goal.returns-in_default
returns-in_default c =
    refusal-10 c.args.self (search rules) c.args.mode (few-left _ _ _ c.in-Some.ensures c.at_most_one.ensures ∙ c.if-at_most_one.false)

pub returns-in_default-2 : goal.returns-in_default-2
unfolding few
returns-in_default-2 c = refusal-10 c.args.self (search rules) c.args.mode (ap few (sym c.in_default.ensures))
