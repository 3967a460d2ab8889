-- `quotes_round` looks at the first and the last token of a run, which are kept, and at how many there are. Assumes nothing.
use Rattle.std.proofs.Common.{arith, ◌∙◌}
use Rattle.runs.proofs.Quotes.{quotes-short, quotes-alike, quotes-differ}
use Rattle.runs.proofs.quotes_round.Goals as goal

pub returns-then-r-lt2 : goal.returns-then-r-lt2
returns-then-r-lt2 c = λ text pairs. quotes-short _ _ _ c.requires.ends text pairs (omega arith)

pub returns-then-kinds-r : goal.returns-then-kinds-r
returns-then-kinds-r c = λ text pairs. quotes-differ _ _ _ c.requires.ends text pairs (omega arith) c.if-kinds-r.true

pub returns : goal.returns
returns c = λ text pairs. c.mark_of.ensures ∙ quotes-alike _ _ _ c.requires.ends text pairs (omega arith) c.if-kinds-r.false
