-- `has_modifier` looks for a + or -. The loop's invariant: one is found already or the rest holds one, exactly where the whole does. Assumes nothing.
use native.Mathlib.Omega.{arith}
use mathlib.Core.Bool.{Bool, ◌||◌, or-false}
use mathlib.Core.Path.{sym, ap, ◌∙◌}
use Rattle.customize_subs.specs.Text.{modified}
use Rattle.customize_subs.proofs.TextLaws.{modified-so-far, modified-end}
use Rattle.customize_subs.proofs.parts.has_modifier.Goals as goal

pub loop-b-preserved : goal.loop-b-preserved
loop-b-preserved c =
    let l = c.loop-b in
    let t = c.args.text.now in
    rw c.is_modifier-found.ensures (modified-so-far t l.b-index (omega arith) l.found (modified t) l.invariant)

pub returns : goal.returns
returns c =
    let l = c.loop-b in
    let t = c.args.text.now in
    sym (or-false l.found) ∙ ap (λ (x : Bool). l.found || x) (modified-end t l.b-index (omega arith)) ∙ l.invariant
