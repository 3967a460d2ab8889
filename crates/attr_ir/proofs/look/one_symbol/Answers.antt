-- `one_symbol` asks for the kind and for the length, which is the lexeme's. Assumes nothing.
use Rattle.std.proofs.Common.{ap, ◌∙◌, ◌||◌, ℕ, eqb, true, false}
use Rattle.token.specs.Kind.{dots, hash, percent}
use Rattle.attr_ir.proofs.Sights.{symbol-of}
use Rattle.attr_ir.proofs.look.one_symbol.Goals as goal

pub returns-then-symbol_kind : goal.returns-then-symbol_kind
returns-then-symbol_kind c = ap (λ (n : ℕ). eqb n 1) c.length.ensures ∙ symbol-of _ _ _ c.args.token.line.lent _ c.args.token.within true (c.if-symbol_kind.ensures ∙ ap (λ (k : ℕ). eqb k dots || eqb k hash || eqb k percent) c.kind.ensures)

pub returns-else-symbol_kind : goal.returns-else-symbol_kind
returns-else-symbol_kind c = c.if-symbol_kind.false ∙ symbol-of _ _ _ c.args.token.line.lent _ c.args.token.within false (c.if-symbol_kind.ensures ∙ ap (λ (k : ℕ). eqb k dots || eqb k hash || eqb k percent) c.kind.ensures)
