-- `look` goes from token to token until one decides. The loop's invariant (`Looking`): the tokens left are read as the whole is. Assumes nothing.
use Rattle.attr_ir.proofs.Sights.{Looking}
use Rattle.attr_ir.proofs.look.look.Given as goal

abbrev pub invariant-loop-i : goal.invariant-loop-i
invariant-loop-i l = Looking l.tokens.line.kinds.now l.tokens.line.text.now l.tokens.line.pairs.now l.tokens.from.0 l.tokens.to.0 l.block l.first l.noted l.i
