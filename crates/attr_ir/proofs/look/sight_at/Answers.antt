-- `sight_at` is the definition by the token's kind, and by the next kept token where that is asked for. Assumes nothing.
use Rattle.std.proofs.Common.{rules, tests, arith, sym, ap, ◌∙◌, ◌≡◌, ◌&&◌, ◌||◌, ℕ, true, false, eqb, eq-eqb, ne_eqb}
use Rattle.token.specs.Kind.{double_quote, single_quote}
use Rattle.token.proofs.Matched.{matched}
use Rattle.token.specs.Checked.{line_in}
use Rattle.token.specs.Line.{token_at}
use Rattle.runs.proofs.NamesLaws.{kind-of, one-long}
use Rattle.attr_ir.specs.Look.{symbol_sight}
use Rattle.attr_ir.proofs.Sights.{by-symbol, sight-quote, sight-other, space-equals, space-other, equals-first, equals-one, equals-more}
use Rattle.runs.proofs.Ranges.{kept-of}
use Rattle.attr_ir.proofs.look.sight_at.Goals as goal
use Rattle.attr_ir.proofs.look.sight_at.Goals.{then-block, else-block}

pub returns-then-one_symbol : goal.returns-then-one_symbol
returns-then-one_symbol c =
    let w = kept-of c.places.ensures (symbol_sight c.if-block.symbol_sight) c.symbol_sight.ensures _ _ in
    let short : c.if-block.symbol_sight ≡ (c.args.block && c.args.first) = elim c.if-block.branch [ then-block b ↦ b.symbol_sight-is ∙ sym (rw b.if-block.true) | else-block b ↦ b.symbol_sight-is ∙ sym (rw b.if-block.false) ] in
    by-symbol _ _ _ _ _ _ _ _ w short c.one_symbol.ensures c.if-one_symbol.true

pub returns-in-Ok-DoubleQuote : goal.returns-in-Ok-DoubleQuote
unfolding token_at
returns-in-Ok-DoubleQuote c =
    let q : (eqb c.kind.result double_quote || eqb c.kind.result single_quote) ≡ true = search (rules, tests) in
    let k = ap (λ (n : ℕ). eqb n double_quote || eqb n single_quote) c.kind.ensures in
    sight-quote _ _ _ _ _ (sym c.if-one_symbol.ensures) (sym k ∙ q)

pub returns-in-Ok-Whitespace : goal.returns-in-Ok-Whitespace
returns-in-Ok-Whitespace c =
    let k = matched (sym c.kind.ensures ∙ c.in-Ok-Whitespace.ensures) c.in-Ok-Whitespace.field-0-is in
    space-equals _ _ _ _ _ (kind-of (line_in c.args.left.line) _ _ k) _ c.next_equals.ensures c.if-next_equals.true

pub returns-in-Ok-Whitespace-2 : goal.returns-in-Ok-Whitespace-2
returns-in-Ok-Whitespace-2 c =
    let k = matched (sym c.kind.ensures ∙ c.in-Ok-Whitespace.ensures) c.in-Ok-Whitespace.field-0-is in
    space-other _ _ _ _ _ (kind-of (line_in c.args.left.line) _ _ k) _ c.next_equals.ensures c.if-next_equals.false

pub returns-in-Ok-EqualSigns : goal.returns-in-Ok-EqualSigns
returns-in-Ok-EqualSigns c =
    let k = matched (sym c.kind.ensures ∙ c.in-Ok-EqualSigns.ensures) c.in-Ok-EqualSigns.field-0-is in
    equals-first _ _ _ _ _ (kind-of (line_in c.args.left.line) _ _ k) c.if-first.true

pub returns-in-Ok-EqualSigns-2 : goal.returns-in-Ok-EqualSigns-2
returns-in-Ok-EqualSigns-2 c =
    let k = matched (sym c.kind.ensures ∙ c.in-Ok-EqualSigns.ensures) c.in-Ok-EqualSigns.field-0-is in
    let one = one-long _ _ _ c.args.left.line.lent c.args.left.from.0 (omega (arith, c.requires)) _ c.length.ensures ∙ eq-eqb _ 1 c.if-length-eq1.true in
    equals-one _ _ _ _ _ (kind-of (line_in c.args.left.line) _ _ k) c.if-first.false one

pub returns-in_default : goal.returns-in_default
returns-in_default c =
    let k = matched (sym c.kind.ensures ∙ c.in-Ok-EqualSigns.ensures) c.in-Ok-EqualSigns.field-0-is in
    let more = one-long _ _ _ c.args.left.line.lent c.args.left.from.0 (omega (arith, c.requires)) _ c.length.ensures ∙ ne_eqb _ 1 c.if-length-eq1.false in
    equals-more _ _ _ _ _ (kind-of (line_in c.args.left.line) _ _ k) c.if-first.false more

pub returns-in_default-2 : goal.returns-in_default-2
unfolding token_at
returns-in_default-2 c =
    let k = c.kind.ensures in
    let q : (eqb c.kind.result double_quote || eqb c.kind.result single_quote) ≡ false = search (rules, tests) in
    sight-other _ _ _ _ _ (sym c.if-one_symbol.ensures) (sym (ap (λ (n : ℕ). eqb n double_quote || eqb n single_quote) k) ∙ q) (λ e. search rules) (λ e. search rules)

pub returns-in_default-3 : goal.returns-in_default-3
unfolding token_at
returns-in_default-3 c =
    let k = c.kind.ensures in
    let q : (eqb c.kind.result double_quote || eqb c.kind.result single_quote) ≡ false = search (rules, tests) in
    sight-other _ _ _ _ _ (sym c.if-one_symbol.ensures) (sym (ap (λ (n : ℕ). eqb n double_quote || eqb n single_quote) k) ∙ q) (λ e. search rules) (λ e. search rules)
