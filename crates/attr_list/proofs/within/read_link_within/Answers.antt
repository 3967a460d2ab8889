-- `read_link_within` reads as the look says. Assumes nothing.
use Rattle.attr_list.proofs.Readings.{text-among}
use Rattle.attr_list.proofs.within.read_link_within.Goals as goal

pub read_text-requires-clause-among : goal.read_text-requires-clause-among
read_text-requires-clause-among g c =
    let l = c.args.held.line in
    text-among l.kinds.now l.pairs.now c.link_macro.result c.link_macro.ensures l.lent.some c.in-AsText.end c.in-AsText.is
