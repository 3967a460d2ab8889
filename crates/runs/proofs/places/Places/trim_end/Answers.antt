-- `trim_end` passes back over AttrRef and Whitespace. Assumes nothing.
use Rattle.std.proofs.Common.{arith, sym, subst, ℕ, ◌+◌, ◌-◌, ◌≡◌, ◌∙◌, get_or}
use Rattle.runs.proofs.Ranges.{Right, right-start, right_end, right-passed, right-word, stopped}
use Rattle.runs.specs.Run.{trim_end}
use Rattle.runs.specs.Places.{EndsAt}
use Rattle.runs.proofs.KeptLaws.{trim_end-none}
use Rattle.runs.proofs.places.Places.trim_end.Goals as goal

pub loop-at-init : goal.loop-at-init
loop-at-init c = right-start _ _ _ _ (omega arith)

pub loop-at-preserved : goal.loop-at-preserved
loop-at-preserved c = right-passed _ _ _ _ (omega arith) (sym c.is_passed.ensures ∙ c.if-not-is_passed.false) c.loop-at.invariant

pub returns-then-not-is_passed : goal.returns-then-not-is_passed
returns-then-not-is_passed c =
    let e : c.loop-at.at ≡ c.loop-at.at - 1 + 1 = omega arith in
    let s = stopped (get_or c.args.self.kinds.now (c.loop-at.at - 1) 0) (sym c.is_passed.ensures ∙ c.if-not-is_passed.true) in
    subst (λ (n : ℕ). EndsAt trim_end c.args.self.kinds.now c.args.self.from.0 c.args.self.to.0 n) e (right-word _ _ _ _ (omega arith) s.0 c.loop-at.invariant s.1)

pub returns : goal.returns
returns c =
    let e : c.loop-at.at ≡ c.args.self.from.0 = omega arith in
    right_end _ _ _ _ _ (omega arith) trim_end-none (subst (λ (n : ℕ). Right trim_end c.args.self.kinds.now c.args.self.from.0 c.args.self.to.0 n) e c.loop-at.invariant)
