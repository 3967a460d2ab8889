-- `skip_spaces` takes spaces off. The loop's invariant: what is left gives the same without its spaces. Assumes nothing.
use mathlib.Core.Path.{◌≡◌}
use lib.ListN.{length}
use Rattle.customize_subs.specs.Text.{front}
use Rattle.customize_subs.proofs.parts.skip_spaces.Given as goal

abbrev pub invariant-loop-rest : goal.invariant-loop-rest
invariant-loop-rest l = front l.rest ≡ front l.part

abbrev pub decreases-loop-rest : goal.decreases-loop-rest
decreases-loop-rest l = length l.rest
