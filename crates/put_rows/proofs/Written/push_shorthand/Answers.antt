-- `push_shorthand` writes a row for each symbol: the laws of `Shorting`, at its begin, at a symbol with nothing after it, at a second id, at another symbol and at its
-- end. Assumes nothing.
use Rattle.std.proofs.Common.{arith, refl, ap, ◌≡◌, ◌∙◌, false}
use lib.Dec.{eqb}
use mathlib.Core.Bool.{◌&&◌, ◌||◌}
use lib.ListN.{get_or}
use Rattle.token.specs.Kind.{hash}
use Rattle.row.specs.Tag.{tag_number}
use Rattle.put_rows.proofs.Shorts.{second-id, no-hash, first-id, has-id, hash-id, shorting-last, shorting-second, shorting-next, shorting-end}
use Rattle.put_rows.proofs.Outcomes.{told}
use Rattle.put_rows.proofs.Written.push_shorthand.Goals as goal
use Rattle.put_rows.proofs.Written.push_shorthand.Goals.{else-hash-via-then-hash+else-has, else-hash-via-else-hash, then-has-2, else-has-2}

pub returns-then-tokens-start : goal.returns-then-tokens-start
returns-then-tokens-start c =
    let l = c.loop-symbol in
    let f = c.first_kept-start in
    let put = c.put_diagnostic.ensures in
    told _ _ _ _ _ _ refl _ (shorting-last _ _ _ _ _ _ _ _ l.symbol.0 l.rows l.written.rows l.written.id l.invariant c.loop-symbol-test.true f.result.0 f.ensures.part c.if-tokens-start.true _ _ put)
    (omega (arith, put.wrote.count, l.invariant.few, l.invariant.low, c.loop-symbol-test.true))

pub returns-then-has : goal.returns-then-has
returns-then-has c =
    let l = c.loop-symbol in
    let f = c.first_kept-start in
    let put = c.put_diagnostic-then-has.ensures in
    told _ _ _ _ _ _ refl _
    (shorting-second _ _ _ _ _ _ _ _ l.symbol.0 l.rows l.written.rows l.written.id l.invariant c.loop-symbol-test.true f.result.0 f.ensures.part c.if-tokens-start.false (second-id _ _ c.if-hash.true c.if-has.true) _ _ put)
    (omega (arith, put.wrote.count, l.invariant.few, l.invariant.low, c.loop-symbol-test.true))

pub loop-symbol-preserved : goal.loop-symbol-preserved
loop-symbol-preserved c =
    let l = c.loop-symbol in
    let f = c.first_kept-start in
    let no : (eqb (get_or c.args.tokens.line.kinds.now l.symbol.0 0) hash && l.written.id) ≡ false = elim c.else-hash.branch [ else-hash-via-then-hash+else-has w ↦ first-id _ _ w.if-has.false | else-hash-via-else-hash w ↦ no-hash _ _ w.if-hash.false ] in
    let ids : c.if-has-2.next ≡ (eqb (get_or c.args.tokens.line.kinds.now l.symbol.0 0) hash || l.written.id) = elim c.if-has-2.branch [ then-has-2 w ↦ w.next-is ∙ has-id _ _ w.if-has-2.true | else-has-2 w ↦ w.next-is ∙ hash-id _ _ w.if-has-2.false ] in
    shorting-next _ _ _ _ _ _ _ _ l.symbol.0 l.rows l.written.rows l.written.id l.invariant c.loop-symbol-test.true f.result.0 f.ensures.part c.if-tokens-start.false no
    c.find_stop-end.result.0 c.find_stop-end.ensures _ (c.run_of.ensures.run _ _) _ (c.from.ensures ∙ ap tag_number c.symbol_tag.ensures) _ c.one_run.ensures _ ids _ _ c.put_one-written.ensures

pub returns : goal.returns
returns c =
    let l = c.loop-symbol in
    told _ _ _ _ _ _ refl _ (shorting-end _ _ _ _ _ _ _ _ l.symbol.0 l.rows l.written.rows l.written.id l.invariant c.loop-symbol-test.false) (omega (arith, l.invariant.few, l.invariant.high, l.invariant.low))
