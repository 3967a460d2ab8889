-- `find_delimiters` gives the definition's count, its dividing commas and how many were taken back. Each turn of its token loop is the definition's
-- step; the loop that rejoins keeps what is so once no more than `remain` stretches are left. Assumes nothing.
use native.Mathlib.Omega.{arith}
use mathlib.Core.Path.{◌≡◌, sym, ◌∙◌}
use mathlib.Core.Logic.{inl, inr}
use Rattle.std.proofs.Common.{rules, ◌+◌}
use Rattle.std.proofs.lemmas.List.{get_or-take, length-take}
use Rattle.token.proofs.Matched.{matched}
use Rattle.delimiters.proofs.Turns.{going_start, within, going-moved, going-all, going-few, going-back, going-comma, going-double, going-single, going-other, found}
use Rattle.delimiters.proofs.find_delimiters.Goals as goal
use Rattle.delimiters.proofs.find_delimiters.Goals.{in-Ok-Comma, in-Ok-DoubleQuote, in-Ok-SingleQuote, in_default, in_default-2, else-tokens-test, then-tokens-test+in-Ok-CloseBracket}

pub tokens-init : goal.tokens-init
tokens-init c = (going_start c.args.kinds.now c.args.commas.now, omega arith)

-- each arm of the match does what the definition's step does
pub tokens-preserved-in_default-remain : goal.tokens-preserved-in_default-remain
tokens-preserved-in_default-remain c =
    let v = c.tokens.invariant.0 in
    let n = c.saturating_sub-counted.result in
    let lt = within n c.tokens.i c.args.kinds.now c.tokens-test.true in
    let e = get_or-take n c.args.kinds.now c.tokens.i 0 lt.0 in (
      going-all _ _ _ c.in_default-remain.is (elim c.match-try_from.branch [
        | in-Ok-Comma w ↦ going-moved c.tokens.i _ w.commas-is w.stretches-is w.remain-is w.double-is w.single-is (going-comma v (omega arith) lt.1 (matched (sym e ∙ w.in-Ok-Comma.ensures) w.in-Ok-Comma.field-0-is))
        | in-Ok-DoubleQuote w ↦ going-moved c.tokens.i _ w.commas-is w.stretches-is w.remain-is w.double-is w.single-is (going-double v (omega arith) lt.1 _ (matched (sym e ∙ w.in-Ok-DoubleQuote.ensures) w.in-Ok-DoubleQuote.field-0-is) w.at_quote-remain.ensures)
        | in-Ok-SingleQuote w ↦ going-moved c.tokens.i _ w.commas-is w.stretches-is w.remain-is w.double-is w.single-is (going-single v (omega arith) lt.1 _ (matched (sym e ∙ w.in-Ok-SingleQuote.ensures) w.in-Ok-SingleQuote.field-0-is) w.at_quote-remain-in-Ok-SingleQuote.ensures)
        | in_default w ↦ going-moved c.tokens.i _ w.commas-is w.stretches-is w.remain-is w.double-is w.single-is (going-other v (omega arith) lt.1 (λ f. search (rules, e)) (λ f. search (rules, e)) (λ f. search (rules, e)) (λ f. search (rules, e)))
        | in_default-2 w ↦ going-moved c.tokens.i _ w.commas-is w.stretches-is w.remain-is w.double-is w.single-is (going-other v (omega arith) lt.1 (λ f. search (rules, e)) (λ f. search (rules, e)) (λ f. search (rules, e)) (λ f. search (rules, e)))
      ]),
      c.tokens.invariant.1,
    )

-- only a quote leaves some that are to remain
pub loop-stretches-init : goal.loop-stretches-init
loop-stretches-init c =
    let v = c.tokens.invariant.0 in
    let n = c.saturating_sub-counted.result in
    let lt = within n c.tokens.i c.args.kinds.now c.tokens-test.true in
    let e = get_or-take n c.args.kinds.now c.tokens.i 0 lt.0 in
    going-few _ _ _ _ c.in-Some.is (elim c.match-try_from.branch [
      | in-Ok-Comma w ↦ absurd (search rules)
      | in-Ok-DoubleQuote w ↦ going-moved c.tokens.i _ w.commas-is w.stretches-is w.remain-is w.double-is w.single-is (going-double v (omega arith) lt.1 _ (matched (sym e ∙ w.in-Ok-DoubleQuote.ensures) w.in-Ok-DoubleQuote.field-0-is) w.at_quote-remain.ensures)
      | in-Ok-SingleQuote w ↦ going-moved c.tokens.i _ w.commas-is w.stretches-is w.remain-is w.double-is w.single-is (going-single v (omega arith) lt.1 _ (matched (sym e ∙ w.in-Ok-SingleQuote.ensures) w.in-Ok-SingleQuote.field-0-is) w.at_quote-remain-in-Ok-SingleQuote.ensures)
      | in_default w ↦ absurd (search rules)
      | in_default-2 w ↦ absurd (search rules)
    ])

pub loop-stretches-preserved : goal.loop-stretches-preserved
loop-stretches-preserved c =
    let at = c.loop-stretches in
    going-back at.stretches at.rejoined _ (c.tokens.i + 1) c.loop-stretches-test.true at.invariant

pub returns : goal.returns
returns c =
    let at = c.tokens in
    let n = c.saturating_sub-counted.result in
    let long = length-take n c.args.kinds.now in
    let done = found _ _ at.commas at.stretches at.rejoined at.double at.single at.i at.invariant.0 (omega arith) (omega (arith, long)) in
    elim c.tokens-test.branch [
      | else-tokens-test w ↦
          let e : c.tokens-test.counted ≡ at.i = omega (arith, at.invariant.1, long) in
          rw e (done (inl (omega (arith, long))))
      | then-tokens-test+in-Ok-CloseBracket w ↦
          let lt = within n at.i c.args.kinds.now w.tokens-test.true in
          rw w.counted-is (done (inr (matched (sym (get_or-take n c.args.kinds.now at.i 0 lt.0) ∙ w.in-Ok-CloseBracket.ensures) w.in-Ok-CloseBracket.field-0-is)))
    ]
