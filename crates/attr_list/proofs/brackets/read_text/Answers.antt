-- `read_text` writes the one row of a link's text, or refuses with 8 before it. Assumes nothing.
use Rattle.attr_list.proofs.Readings.{text-gives}
use Rattle.attr_list.proofs.brackets.read_text.Goals as goal

pub returns : goal.returns
returns c =
    let l = c.args.line in
    text-gives l.kinds.now l.text.now l.pairs.now c.args.end.0 c.args.rows.now c.if-line-end.false c.unquote.result c.unquoted.result _ c.unquoted.ensures (c.unquote.ensures.text l.text.now l.pairs.now) c.put.ensures
