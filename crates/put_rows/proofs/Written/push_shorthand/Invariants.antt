-- `push_shorthand` writes a row for each symbol. The loop's invariant (`Shorting`): the rows written and those of the symbols left are those of the whole. What falls
-- is how many places are left. Assumes nothing.
use Prim.Native.Nat.{◌-◌}
use Rattle.put_rows.proofs.Shorts.{Shorting}
use Rattle.put_rows.proofs.Written.push_shorthand.Given as goal

abbrev pub invariant-loop-symbol : goal.invariant-loop-symbol
invariant-loop-symbol l = Shorting l.tokens.line.kinds.now l.tokens.line.text.now l.tokens.line.pairs.now l.tokens.from.0 l.tokens.to.0 l.fn.self.id l.initial.rows l.fn.self.rows l.symbol.0 l.rows l.written.rows l.written.id

abbrev pub decreases-loop-symbol : goal.decreases-loop-symbol
decreases-loop-symbol l = l.tokens.to.0 - l.symbol.0
