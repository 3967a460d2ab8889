-- `take_flags` lets each place take its kind's flag. The loop's invariant: the flags still there, and the places still to come,
-- leave what the whole leaves. Assumes nothing.
use Prim.Native.Nat.{ℕ}
use borrow.Author.Rules.{rules}
use native.Mathlib.Omega.{arith}
use mathlib.Core.Path.{ap, sym, ◌∙◌}
use Rattle.substitutions.specs.Kinds.{flagged}
use Rattle.substitutions.proofs.KindsLaws.{number-high, kind-named, kind-none, kind-within}
use Rattle.substitutions.proofs.HeldLaws.{left-rest, left_over, left-bare, left-next, left_end}
use Rattle.substitutions.proofs.rules.take_flags.Goals as goal

pub returns-then-place-eq0 : goal.returns-then-place-eq0
returns-then-place-eq0 c =
    let l = c.loop-i in
    rw (c.then_some.ensures, ← l.invariant.1) (left-rest c.args.set.places l.i l.f _ (search rules) (omega arith) c.if-place-eq0.true c.all_empty.ensures)

pub returns-in_default : goal.returns-in_default
returns-in_default c =
    let l = c.loop-i in
    let s = c.args.set in
    sym (left_over s.places l.i (omega arith) l.f (kind-none _ _ (sym c.try_from.ensures ∙ c.in_default.is) c.if-place-eq0.false)) ∙ l.invariant.1

pub returns-then-not-is_flagged : goal.returns-then-not-is_flagged
returns-then-not-is_flagged c =
    let l = c.loop-i in
    let e = kind-named _ _ (sym c.try_from.ensures ∙ c.in-Ok.is) in
    let f = ap (λ (k : ℕ). flagged k l.f) e ∙ sym c.is_flagged.ensures ∙ c.if-not-is_flagged.true in
    sym (left-bare c.args.set.places l.i (omega arith) l.f c.if-place-eq0.false f) ∙ l.invariant.1

pub overflow_sub-f : goal.overflow_sub-f
overflow_sub-f c =
    let l = c.loop-i in
    omega (arith, kind-within l.f c.in-Ok.sub (omega arith) (sym c.is_flagged.ensures ∙ c.if-not-is_flagged.false), c.flag-taken.ensures.value)

pub loop-i-preserved : goal.loop-i-preserved
loop-i-preserved c =
    let l = c.loop-i in
    let e = kind-named _ _ (sym c.try_from.ensures ∙ c.in-Ok.is) in
    let f = ap (λ (k : ℕ). flagged k l.f) e ∙ sym c.is_flagged.ensures ∙ c.if-not-is_flagged.false in
    let n = left-next c.args.set.places l.i (omega arith) l.f c.if-place-eq0.false (omega (arith, e, number-high c.in-Ok.sub)) f in
    (omega arith, cc (n, e, c.flag-taken.ensures.value, l.invariant.1))

pub returns : goal.returns
returns c = sym (left_end c.args.set.places c.loop-i.i c.loop-i.f (omega arith)) ∙ c.loop-i.invariant.1
