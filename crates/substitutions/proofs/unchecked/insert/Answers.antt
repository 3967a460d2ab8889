-- `unchecked::insert` is the definition's insert, by the flag that was tested and the places that were filled. Assumes nothing.
use native.Mathlib.Omega.{arith}
use mathlib.Core.Path.{refl, sym, ◌∙◌}
use Rattle.substitutions.specs.Kinds.{number_of}
use Rattle.substitutions.proofs.KindsLaws.{kind-added}
use Rattle.substitutions.proofs.AnswersLaws.{insert-none, insert-one}
use Rattle.substitutions.proofs.unchecked.insert.Goals as goal

pub returns-then-is_flagged : goal.returns-then-is_flagged
returns-then-is_flagged c = insert-none c.args.set _ _ refl _ (sym c.is_flagged.ensures ∙ c.if-is_flagged.true)

pub overflow_add-result : goal.overflow_add-result
overflow_add-result c = omega (arith, kind-added c.args.set.flags c.flag.result c.args.sub _ (omega arith) c.is_flagged.ensures c.if-is_flagged.false c.flag.ensures.value)

pub returns : goal.returns
returns c =
    let a = c.args in
    let k = number_of a.sub in
    let n = c.places_to_fill in
    insert-one a.set k k refl n.result _ _ _ n.ensures.value (sym c.is_flagged.ensures ∙ c.if-is_flagged.false) c.fill.ensures c.flag.ensures.value
