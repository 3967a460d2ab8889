-- `past_last_kept` steps along the run: the laws of `Reading`, at its begin, at a step and at its end. Assumes nothing.
use Rattle.std.proofs.Common.{◌∙◌, ap, arith}
use Rattle.runs.proofs.Ranges.{reading-start, reading-next, reading-end, starts-over}
use Rattle.runs.proofs.steps.past_last_kept.Goals as goal

pub loop-left-init : goal.loop-left-init
loop-left-init c =
    let s = c.skip_attr_refs-left.ensures in
    record { kinds = ap (λ r. r.now) s.kinds; to = s.to; reading = reading-start _ _ _ _ s.start }

pub step-left-requires : goal.step-left-requires
step-left-requires c = let e = ap (λ n. n.0) c.loop-left.invariant.to in omega (arith, e)

pub loop-left-smaller : goal.loop-left-smaller
loop-left-smaller c =
    let s = c.step-left.ensures.2.part in
    let e = ap (λ n. n.0) c.loop-left.invariant.to in
    omega (arith, s.low, s.mid, e)

pub loop-left-preserved : goal.loop-left-preserved
loop-left-preserved c =
    let s = c.step-left.ensures in
    let i = c.loop-left.invariant in
    record { kinds = ap (λ r. r.now) s.0 ∙ i.kinds; to = s.1 ∙ i.to; reading = reading-next _ _ _ _ c.loop-left.past.0 _ i.reading (omega arith) (starts-over i.kinds (ap (λ n. n.0) i.to) s.2) }

pub returns : goal.returns
returns c = reading-end _ _ _ c.loop-left.left.from.0 c.loop-left.past.0 c.loop-left.invariant.reading (omega arith)
