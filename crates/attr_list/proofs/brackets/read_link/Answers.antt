-- `read_link` reads as the look says. Assumes nothing.
use Rattle.attr_list.proofs.Readings.{text-among}
use Rattle.attr_list.proofs.brackets.read_link.Goals as goal

pub read_text-requires : goal.read_text-requires
read_text-requires c =
    let l = c.args.held.line in
    record { room = c.requires; among = text-among l.kinds.now l.pairs.now c.link_macro.result c.link_macro.ensures l.lent.some c.in-AsText.end c.in-AsText.is }
