-- `from_meta` refuses, or gives the set given where there is no subs attribute, or what the parts make of the starting set. Assumes nothing.
use mathlib.Core.Path.{sym, ap, ◌∙◌}
use Rattle.substitutions.specs.Held.{held}
use Rattle.substitutions.proofs.AnswersLaws.{accepted, handed-on}
use Rattle.customize_subs.proofs.MetaLaws.{start-held}
use Rattle.customize_subs.proofs.OutcomeLaws.{long, refused-short, short, absent-same, present-made}
use Rattle.customize_subs.proofs.from_meta.Goals as goal

pub returns-then-is_too_long : goal.returns-then-is_too_long
returns-then-is_too_long c = long c.args.mode c.args.set c.args.text (sym c.is_too_long.ensures ∙ c.if-is_too_long.true)

pub returns-in_err-check : goal.returns-in_err-check
returns-in_err-check c =
    rw (handed-on c.args.set c.from_residual.result _ c.from_residual.ensures.1) (refused-short c.args.mode c.args.set c.args.text (sym c.is_too_long.ensures ∙ c.if-is_too_long.false) _ c.in_err-check.ensures)

pub customize-requires : goal.customize-requires
customize-requires c =
    let a = c.args in
    ap held c.start_of.ensures ∙ start-held a.set c.in-Some.text.now (accepted a.mode a.set (sym c.in_ok-check.ensures))

pub returns-in-Some : goal.returns-in-Some
returns-in-Some c =
    present-made c.args.mode c.args.set c.args.text c.in-Some.text c.in-Some.is (short c.args.text c.in-Some.text c.in-Some.is (sym c.is_too_long.ensures ∙ c.if-is_too_long.false)) c.start_of.result _ c.in_ok-check.ensures c.start_of.ensures c.customize.ensures

pub returns-in-None : goal.returns-in-None
returns-in-None c = absent-same c.args.mode c.args.set c.args.text c.in-None.is c.in_ok-check.ensures
