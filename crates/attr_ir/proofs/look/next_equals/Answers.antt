-- `next_equals` asks of the first kept token, if there is one. Assumes nothing.
use Rattle.std.proofs.Common.{le-ltb, ◌∙◌}
use Rattle.token.specs.Checked.{line_in}
use Rattle.attr_ir.proofs.Sights.{next-none, next-some}
use Rattle.runs.proofs.Ranges.{starts-of}
use Rattle.attr_ir.proofs.look.next_equals.Goals as goal

pub returns-then-place-after : goal.returns-then-place-after
returns-then-place-after c =
    let w = starts-of c.places.ensures c.first_kept-place.ensures.part in
    c.equals_sign.ensures ∙ next-some (line_in c.args.after.line) _ _ _ w c.if-place-after.true

pub returns-else-place-after : goal.returns-else-place-after
returns-else-place-after c =
    let w = starts-of c.places.ensures c.first_kept-place.ensures.part in
    le-ltb _ _ c.if-place-after.false ∙ next-none (line_in c.args.after.line) _ _ _ w c.if-place-after.false
