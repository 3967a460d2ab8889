-- `closing_bracket` gives the entry's closing bracket: the last attribute begins after the last comma in the slice, which is the last dividing one.
-- Assumes nothing.
use native.Mathlib.Omega.{arith}
use mathlib.Core.Path.{◌≡◌, ap, ◌∙◌}
use Rattle.delimiters.specs.Delimit.{dividing}
use Rattle.closing.proofs.ClosingLaws.{begins-among}
use Rattle.closing.specs.Closing.{last_begins}
use Rattle.closing.proofs.closing_bracket.Goals as goal

pub next_bracket-requires : goal.next_bracket-requires
next_bracket-requires c =
    let e : c.last_begins.result.0 ≡ last_begins 0 (dividing c.args.kinds.now) = c.last_begins.ensures ∙ ap (last_begins 0) c.requires.commas in
    omega (arith, begins-among c.args.kinds.now c.requires.some)
