-- The numbers are those of what `parse_attr_list` answers, and the buffer is the one that it leaves. Assumes nothing.
use Rattle.token.specs.Line.{line_of}
use Rattle.telfjost.proofs.Outcomes.{list-outcome}
use Rattle.telfjost.proofs.lists.parsed.Goals as goal

pub returns : goal.returns
returns c =
    let a = c.args in
    list-outcome a.entry (line_of a.kinds.now a.text.now a.pairs.now) a.rows.now _ c.from.result _ c.parse_attr_list.ensures c.from.ensures
