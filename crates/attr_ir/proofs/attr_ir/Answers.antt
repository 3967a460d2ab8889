-- `attr_ir` is the definition by how the attribute is read. Assumes nothing.
use Rattle.runs.specs.Run.{run_of, unquoted}
use Rattle.attr_ir.proofs.Irs.{ir-shorthand, ir-positional, ir-named}
use Rattle.runs.proofs.Ranges.{kept-of, part-of}
use Rattle.attr_ir.proofs.attr_ir.Goals as goal

pub returns-in-Shorthand : goal.returns-in-Shorthand
returns-in-Shorthand c =
    let run = kept-of c.places-places.ensures run_of c.run_of.ensures.run in
    let part = part-of c.places-places.ensures c.run_of.ensures.part in
    ir-shorthand _ _ _ _ _ _ _ c.look.ensures c.in-Shorthand.is _ run part

pub returns-in-Positional : goal.returns-in-Positional
returns-in-Positional c =
    let text = kept-of c.places-places.ensures unquoted c.unquote-text.ensures.text in
    let part = part-of c.places-places.ensures c.unquote-text.ensures.part in
    ir-positional _ _ _ _ _ _ _ c.look.ensures _ c.in-Positional.is _ text part _ c.to_cut.ensures

pub returns-in-Named : goal.returns-in-Named
returns-in-Named c = ir-named _ _ _ _ _ _ _ c.look.ensures c.in-Named.is _ c.parse_key_value_attr.ensures
