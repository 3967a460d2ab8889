-- `equals_sign` asks for the kind and for the bytes. Assumes nothing.
use Rattle.std.proofs.Common.{sym, ap, ◌∙◌, ℕ, eqb}
use Rattle.token.specs.Line.{token_at}
use Rattle.token.specs.Checked.{line_in}
use Rattle.attr_ir.proofs.Sights.{equals-not-kind, equals-bytes}
use Rattle.attr_ir.proofs.look.equals_sign.Goals as goal

pub returns-then-kind : goal.returns-then-kind
unfolding token_at
returns-then-kind c = c.eq.ensures ∙ equals-bytes (line_in c.args.token.line) _ (sym c.kind.ensures ∙ c.if-kind.true) _ _ c.lexeme.ensures c.as_slice.ensures

pub returns-else-kind : goal.returns-else-kind
returns-else-kind c = ap (λ (k : ℕ). eqb k 23) c.kind.ensures ∙ equals-not-kind (line_in c.args.token.line) _ (λ e. c.if-kind.false (c.kind.ensures ∙ e))
