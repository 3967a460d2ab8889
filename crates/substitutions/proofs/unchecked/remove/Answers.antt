-- `unchecked::remove` is the definition's remove, by the flag that was tested and the gap that was closed. Assumes nothing.
use native.Mathlib.Omega.{arith}
use mathlib.Core.Path.{refl, sym, ◌∙◌}
use Rattle.substitutions.specs.Kinds.{number_of}
use Rattle.substitutions.proofs.KindsLaws.{kind-within}
use Rattle.substitutions.proofs.AnswersLaws.{remove-none, remove-one}
use Rattle.substitutions.proofs.unchecked.remove.Goals as goal

pub returns-then-not-is_flagged : goal.returns-then-not-is_flagged
returns-then-not-is_flagged c = remove-none c.args.set _ _ refl (sym c.is_flagged.ensures ∙ c.if-not-is_flagged.true)

pub overflow_sub-result : goal.overflow_sub-result
overflow_sub-result c =
    let a = c.args in
    let f = sym c.is_flagged.ensures ∙ c.if-not-is_flagged.false in
    omega (arith, kind-within a.set.flags a.sub (omega arith) f, c.flag.ensures.value)

pub returns : goal.returns
returns c =
    let a = c.args in
    let k = number_of a.sub in
    remove-one a.set k k refl _ _ (sym c.is_flagged.ensures ∙ c.if-not-is_flagged.false) c.take_out.ensures c.flag.ensures.value
