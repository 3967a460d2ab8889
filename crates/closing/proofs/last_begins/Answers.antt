-- `last_begins` gives where the definition's last attribute begins: after the last comma of the slice, if there is one. Assumes nothing.
use Prim.Native.Nat.{ℕ, ◌+◌}
use mathlib.Core.Path.{ap, ◌∙◌}
use Rattle.closing.proofs.ClosingLaws.{begins-after}
use Rattle.closing.proofs.last_begins.Goals as goal

pub returns-in-None : goal.returns-in-None
returns-in-None c = begins-after c.args.commas.now _ c.in-None.ensures.value

pub returns-in-Some : goal.returns-in-Some
returns-in-Some c = ap (λ (n : ℕ). n + 1) c.from.ensures ∙ begins-after c.args.commas.now _ c.in-Some.ensures.value
