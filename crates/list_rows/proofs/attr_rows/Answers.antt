-- `attr_rows` writes what `parse_attr` does: an attribute of no tokens is one row of tag 1, one of one Word a row of tag 2. Assumes nothing.
use Rattle.std.proofs.Common.{arith, refl, sym, ◌∙◌}
use Rattle.token.specs.Checked.{line_in}
use Rattle.list_rows.proofs.Attributes.{attributed, none_row, word_row}
use Rattle.list_rows.proofs.attr_rows.Goals as goal

pub returns-then-tokens : goal.returns-then-tokens
returns-then-tokens c =
    let t = c.args.tokens in
    let put = c.put_empty.ensures in
    attributed (line_in t.line) t.from.0 t.to.0 c.args.block c.args.written.id _ c.args.written.rows _ _ _ put
    (none_row c.args.block c.args.written.id (line_in t.line) t.from.0 t.to.0 c.if-tokens.true _ refl) (omega (arith, put.wrote.count))

pub returns-then-one_word : goal.returns-then-one_word
returns-then-one_word c =
    let t = c.args.tokens in
    let put = c.put_one.ensures in
    attributed (line_in t.line) t.from.0 t.to.0 c.args.block c.args.written.id _ c.args.written.rows _ _ _ put
    (word_row c.args.block c.args.written.id (line_in t.line) t.from.0 t.to.0 (sym c.one_word.ensures ∙ c.if-one_word.true) _ c.one_run.ensures) (omega (arith, put.wrote.count))
