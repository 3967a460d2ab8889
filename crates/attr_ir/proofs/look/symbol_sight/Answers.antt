-- `symbol_sight` is the definition by whether there is a next token. Assumes nothing.
use Rattle.attr_ir.proofs.Sights.{symbol-none, symbol-short, symbol-note}
use Rattle.attr_ir.proofs.look.symbol_sight.Goals as goal

pub returns-then-after-next : goal.returns-then-after-next
returns-then-after-next c = λ text pairs. symbol-none _ _ _ _ c.first_kept-next.ensures.part _ text pairs c.if-after-next.true

pub returns-then-short : goal.returns-then-short
returns-then-short c = λ text pairs. symbol-short _ _ _ _ c.first_kept-next.ensures.part _ text pairs c.if-after-next.false c.if-short.true

pub returns : goal.returns
returns c = λ text pairs. symbol-note _ _ _ _ c.first_kept-next.ensures.part _ text pairs c.if-after-next.false c.if-short.false
