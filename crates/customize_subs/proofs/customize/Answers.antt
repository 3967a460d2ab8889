-- `customize` goes through the parts: each is one step, by its length as the mode reads it, and by the name that is found. Assumes nothing.
use native.Mathlib.Omega.{arith}
use mathlib.Core.Path.{refl, sym, ap, ◌∙◌}
use Rattle.substitutions.specs.Held.{held}
use Rattle.customize_subs.specs.Customizing.{through}
use Rattle.customize_subs.proofs.TextLaws.{parts_all}
use Rattle.customize_subs.proofs.CustomizingLaws.{part-short, part-named, left-long, turn-cut, turns-over}
use Rattle.customize_subs.proofs.MetaLaws.{stepped-held}
use Rattle.customize_subs.proofs.customize.Goals as goal

pub loop-start-init : goal.loop-start-init
loop-start-init c =
    let a = c.args in
    (omega arith, (c.requires, ap (through a.mode a.set) (parts_all a.text.now)))

pub loop-start-preserved-then-part-lt4 : goal.loop-start-preserved-then-part-lt4
loop-start-preserved-then-part-lt4 c =
    let l = c.loop-start in
    let t = c.args.text.now in
    let n = c.to_comma-size in
    let stepped = part-short c.args.mode l.next _ _ c.part_in-part.ensures c.if-part-lt4.true in
    (omega (arith, n.ensures.within, left-long t l.start), (l.invariant.1.0, turn-cut t l.start c.args.mode l.next n.result (omega arith) n.ensures.value _ stepped ∙ l.invariant.1.1))

pub loop-start-preserved-in_default : goal.loop-start-preserved-in_default
loop-start-preserved-in_default c =
    let l = c.loop-start in
    let t = c.args.text.now in
    let n = c.to_comma-size in
    let s = c.strategy_and_name-strategy in
    let stepped = part-named c.args.mode l.next _ _ c.part_in-part.ensures s.result.0 _ _ (omega arith) s.ensures.strategy s.ensures.name (sym c.in_default.is ∙ c.look_up.ensures) in
    (omega (arith, n.ensures.within, left-long t l.start), (l.invariant.1.0, turn-cut t l.start c.args.mode l.next n.result (omega arith) n.ensures.value _ stepped ∙ l.invariant.1.1))

pub loop-start-preserved : goal.loop-start-preserved
loop-start-preserved c =
    let l = c.loop-start in
    let t = c.args.text.now in
    let n = c.to_comma-size in
    let s = c.strategy_and_name-strategy in
    let stepped = c.enter-next.ensures ∙ part-named c.args.mode l.next _ _ c.part_in-part.ensures s.result.0 _ _ (omega arith) s.ensures.strategy s.ensures.name (sym c.in-Some.is ∙ c.look_up.ensures) in
    (omega (arith, n.ensures.within, left-long t l.start), (ap held stepped ∙ stepped-held c.args.mode l.next _ l.invariant.1.0, turn-cut t l.start c.args.mode l.next n.result (omega arith) n.ensures.value _ stepped ∙ l.invariant.1.1))

pub returns : goal.returns
returns c =
    let l = c.loop-start in
    let a = c.args in
    sym (turns-over a.mode l.next a.text.now l.start c.loop-start-test.false) ∙ l.invariant.1.1
