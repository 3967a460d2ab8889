-- `look` goes from token to token until one decides. Assumes nothing.
use Rattle.std.proofs.Common.{arith, sym, ◌∙◌}
use Rattle.attr_ir.proofs.Sights.{looking-start, looking-skip, looking-on, looking-is, looking-end}
use Rattle.attr_ir.proofs.look.look.Goals as goal

pub loop-i-init : goal.loop-i-init
loop-i-init c = looking-start _ _ _ _ _ _ (omega arith)

pub loop-i-preserved-then-tokens-i : goal.loop-i-preserved-then-tokens-i
loop-i-preserved-then-tokens-i c = looking-skip _ _ _ _ _ _ _ _ _ c.loop-i.invariant (omega arith) c.if-tokens-i.true

pub returns-in-Break : goal.returns-in-Break
returns-in-Break c = looking-is _ _ _ _ _ _ _ _ _ c.loop-i.invariant (omega arith) c.if-tokens-i.false _ (sym c.in-Break.is ∙ c.sight_at.ensures)

pub loop-i-preserved : goal.loop-i-preserved
loop-i-preserved c = looking-on _ _ _ _ _ _ _ _ _ c.loop-i.invariant (omega arith) c.if-tokens-i.false _ (sym c.in-Continue.is ∙ c.sight_at.ensures)

pub returns : goal.returns
returns c = looking-end _ _ _ _ _ _ _ _ _ c.loop-i.invariant (omega arith)
