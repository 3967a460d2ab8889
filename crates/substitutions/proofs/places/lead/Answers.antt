-- `lead` puts a kind first. The loop's invariant: what is passed has moved by one place, and the rest is pushed by what is
-- carried. Assumes nothing.
use native.Mathlib.Omega.{arith}
use mathlib.Core.Path.{sym, ◌∙◌}
use Rattle.substitutions.specs.Moves.{led}
use Rattle.substitutions.proofs.PlacesLaws.{pushed-is, pushed-here, pushed-next, pushed-done}
use Rattle.substitutions.proofs.places.lead.Goals as goal

pub loop-place-init : goal.loop-place-init
unfolding led
loop-place-init c = pushed-is c.from-kind.result c.from-kind.result c.args.places

pub loop-place-preserved : goal.loop-place-preserved
loop-place-preserved c =
    let l = c.loop-place in
    let r = c.replace-carried.ensures in
    rw (r.value, r.after) (pushed-next l.place-items l.place-index c.from-kind.result 0 (omega arith) l.carried (λ e. c.if-carried-kind.false (r.value ∙ e)) ∙ l.invariant)

pub returns-after-loop-place : goal.returns-after-loop-place
returns-after-loop-place c =
    let l = c.loop-place in
    rw c.from-kind.ensures.0 at (sym (pushed-done l.place-items l.place-index l.carried c.from-kind.result (omega arith)) ∙ l.invariant)

pub returns-then-carried-kind : goal.returns-then-carried-kind
returns-then-carried-kind c =
    let l = c.loop-place in
    let r = c.replace-carried.ensures in
    rw (r.after, ← c.from-kind.ensures.0) (pushed-here l.place-items l.place-index c.from-kind.result 0 (omega arith) l.carried (sym r.value ∙ c.if-carried-kind.true) ∙ l.invariant)
