-- `unchecked::prepend` is the definition's prepend, by the flag that was tested and the places that were pushed. Assumes nothing.
use native.Mathlib.Omega.{arith}
use mathlib.Core.Path.{refl, sym, ◌∙◌}
use Rattle.substitutions.specs.Kinds.{number_of}
use Rattle.substitutions.proofs.KindsLaws.{kind-added}
use Rattle.substitutions.proofs.AnswersLaws.{prepend-flagged, prepend-new}
use Rattle.substitutions.proofs.unchecked.prepend.Goals as goal

pub returns-then-is_flagged : goal.returns-then-is_flagged
returns-then-is_flagged c =
    let a = c.args in
    let k = number_of a.sub in
    prepend-flagged a.set k k refl _ (sym c.is_flagged.ensures ∙ c.if-is_flagged.true) c.lead-led.ensures

pub overflow_add-result : goal.overflow_add-result
overflow_add-result c = omega (arith, kind-added c.args.set.flags c.flag.result c.args.sub _ (omega arith) c.is_flagged.ensures c.if-is_flagged.false c.flag.ensures.value)

pub returns : goal.returns
returns c =
    let a = c.args in
    let k = number_of a.sub in
    prepend-new a.set k k refl _ _ (sym c.is_flagged.ensures ∙ c.if-is_flagged.false) c.lead-led.ensures c.flag.ensures.value
