-- `link_macro` gives what the look at all tokens but the last decides. The loop keeps that the look from the next token on, with what has been
-- seen, gives the same. Assumes nothing.
use Rattle.std.proofs.Common.{arith, refl, sym, ap, ◌∙◌, ◌≡◌, ◌*◌, ◌+◌, length-take, get_or-take, ℕ, take, length, get_or, eqb}
use Rattle.closing.specs.Link.{holds_of, turn}
use Rattle.closing.proofs.LinkLaws.{look-start, look-held, look-on, look-end}
use Rattle.closing.proofs.link_macro.Goals as goal

pub loop-i-init : goal.loop-i-init
loop-i-init c = look-start c.args.kinds.now c.args.pairs.now

pub returns-in-Break : goal.returns-in-Break
returns-in-Break c =
    let a = c.args in
    let l = c.loop-i in
    let n = c.saturating_sub-last.result in
    let long = length-take n a.kinds.now in
    let k = ap (λ (k : ℕ). turn l.seen l.i k (eqb (get_or a.pairs.now (2 * l.i + 1) 0) 1)) (get_or-take n a.kinds.now l.i 0 (omega (arith, long, c.loop-i-test.true))) in
    ap holds_of (look-held a.kinds.now a.pairs.now l.seen l.i (omega (arith, long, c.loop-i-test.true, c.saturating_sub-last.ensures)) _ refl c.in-Break.link (sym c.in-Break.is ∙ c.turn_at.ensures.turn ∙ k) ∙ l.invariant)

pub loop-i-preserved : goal.loop-i-preserved
loop-i-preserved c =
    let a = c.args in
    let l = c.loop-i in
    let n = c.saturating_sub-last.result in
    let long = length-take n a.kinds.now in
    let k = ap (λ (k : ℕ). turn l.seen l.i k (eqb (get_or a.pairs.now (2 * l.i + 1) 0) 1)) (get_or-take n a.kinds.now l.i 0 (omega (arith, long, c.loop-i-test.true))) in
    look-on a.kinds.now a.pairs.now l.seen l.i (omega (arith, long, c.loop-i-test.true, c.saturating_sub-last.ensures)) _ refl c.in-Continue.next (sym c.in-Continue.is ∙ c.turn_at.ensures.turn ∙ k) ∙ l.invariant

pub returns : goal.returns
returns c =
    let a = c.args in
    let l = c.loop-i in
    let n = c.saturating_sub-last.result in
    let e : n ≡ l.i = omega (arith, length-take n a.kinds.now, c.loop-i-test.false, c.saturating_sub-last.ensures, l.auto) in
    rw e (ap holds_of (look-end a.kinds.now a.pairs.now l.seen l.i (omega (arith, e, c.saturating_sub-last.ensures)) ∙ l.invariant))
