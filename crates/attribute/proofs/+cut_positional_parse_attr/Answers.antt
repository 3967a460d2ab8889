-- `parse_attr` and `cut_positional` give the rows of an attribute and of a cut. Assumes nothing.
use Rattle.std.proofs.Common.{◌≡◌, ◌+◌, ◌-◌, ◌*◌, ◌≤◌, ◌<◌, arith, length, get_or, ap, subst}
use Rattle.token.specs.Kind.{attr_ref}
use Rattle.token.specs.Checked.{line_in}
use Rattle.row.specs.Row.{width}
use Rattle.attr_ir.specs.declared.AttrIr.{AttrIr}
use Rattle.attr_ir.specs.Places.{Bounded}
use Rattle.put_rows.proofs.Outcomes.{told, told-as}
use Rattle.attribute.specs.Outcome.{Cut}
use Rattle.attribute.proofs.Runs.{of-run, to-run, run-ir}
use Rattle.attribute.proofs.Outcomes.{most-few}
use Rattle.attribute.proofs.Whole.{whole-empty, whole-ir, whole-cut, whole-uncut, cut-some, cut-none, cut_later}
use Rattle.runs.proofs.Ranges.{found-of, part-of}
use Rattle.attribute.proofs.+cut_positional_parse_attr.Goals as goal

-- ---- the cut

pub cut_positional-returns-then-symbol-tokens : goal.cut_positional-returns-then-symbol-tokens
cut_positional-returns-then-symbol-tokens t c =
    let a = c.args in
    let found = found-of c.places.ensures c.find_symbol-symbol.ensures in
    let put = c.put_diagnostic.ensures in
    let none = cut-none (line_in a.tokens.line) _ _ a.block a.written.id _ found c.requires.some c.if-symbol-tokens.true in
    told _ _ _ _ _ _ none _ put (omega (arith, put.wrote.count))

pub cut_positional-parse_attr-requires : goal.cut_positional-parse_attr-requires
cut_positional-parse_attr-requires t c =
    let a = c.args in
    let found = found-of c.places.ensures c.find_symbol-symbol.ensures in
    let put = c.put_positional-put.ensures a.tokens.line.text.now a.tokens.line.pairs.now in
    (omega (arith, c.decreases, found.low, found.high), omega (arith, c.requires.room, put.wrote.count, found.low, found.high))

pub cut_positional-returns : goal.cut_positional-returns
cut_positional-returns t c =
    let a = c.args in
    let found = found-of c.places.ensures c.find_symbol-symbol.ensures in
    let put = c.put_positional-put.ensures a.tokens.line.text.now a.tokens.line.pairs.now in
    cut_later (line_in a.tokens.line) _ _ a.block a.written.id _ found c.requires.some c.if-symbol-tokens.false c.requires.first _ _ _ _ put _ _ _ _ c.parse_attr.ensures (omega (arith, found.low, found.high))

-- ---- the attribute

pub parse_attr-returns-then-trimmed-eq0 : goal.parse_attr-returns-then-trimmed-eq0
parse_attr-returns-then-trimmed-eq0 t c =
    let a = c.args in
    let part = part-of c.places.ensures c.trim-trimmed.ensures.part in
    let empty = whole-empty (line_in a.tokens.line) _ _ a.block a.written.id _ part c.if-trimmed-eq0.true in
    let put = c.put_empty.ensures in
    told _ _ _ _ _ _ empty _ put (omega (arith, put.wrote.count))

pub parse_attr-cut_positional-requires : goal.parse_attr-cut_positional-requires
parse_attr-cut_positional-requires t c =
    let a = c.args in
    let s = c.trim-trimmed.result in
    let r = c.in-Some.text.run in
    let part = part-of c.places.ensures c.trim-trimmed.ensures.part in
    let i = run-ir c.in_run.result _ _ _ c.in_run.ensures c.attr_ir-ir.ensures in
    let in-run = subst (λ (x : AttrIr). Bounded a.tokens.line.kinds.now s.place.0 (s.place.0 + s.count) x) c.in-Some.ensures i.within in
    let some = cut-some (line_in a.tokens.line) _ _ a.block a.written.id _ part c.if-trimmed-eq0.false _ i.held c.in-Some.text c.in-Some.ensures in
    let e = c.in_run-in-Some.ensures in (
      omega (arith, c.decreases, part.few, in-run.few, ap (λ n. n.0) e.from, e.to),
      to-run (λ l from to. (from < to) × ((get_or l.kinds from 0 ≡ attr_ref → ⊥) × (width * (a.written.rows + (to - from) + 1) ≤ length a.rows.now))) c.in_run-in-Some.result _ e
          (omega (arith, some), (in-run.ends.first (omega (arith, some)), omega (arith, c.requires, part.few, in-run.few))),
    )

pub parse_attr-put_ir-requires-clause-uncut : goal.parse_attr-put_ir-requires-clause-uncut
parse_attr-put_ir-requires-clause-uncut t c =
    let a = c.args in
    let part = part-of c.places.ensures c.trim-trimmed.ensures.part in
    let i = run-ir c.in_run.result _ _ _ c.in_run.ensures c.attr_ir-ir.ensures in
    whole-uncut (line_in a.tokens.line) _ _ a.block a.written.id _ part c.if-trimmed-eq0.false _ i.held i.answer i.within (omega (arith, part.within)) c.in-None.ensures

pub parse_attr-returns-in-Some : goal.parse_attr-returns-in-Some
parse_attr-returns-in-Some t c =
    let a = c.args in
    let s = c.trim-trimmed.result in
    let part = part-of c.places.ensures c.trim-trimmed.ensures.part in
    let i = run-ir c.in_run.result _ _ _ c.in_run.ensures c.attr_ir-ir.ensures in
    let in-run = subst (λ (x : AttrIr). Bounded a.tokens.line.kinds.now s.place.0 (s.place.0 + s.count) x) c.in-Some.ensures i.within in
    let cut = whole-cut (line_in a.tokens.line) _ _ a.block a.written.id _ part c.if-trimmed-eq0.false _ i.held c.in-Some.text c.in-Some.ensures in
    let w = of-run (λ l from to. Cut l from to a.block a.written.id a.rows.now a.written.rows c.cut_positional.result c.cut_positional.new.rows) c.in_run-in-Some.result _ c.in_run-in-Some.ensures c.cut_positional.ensures in
    told-as _ _ _ _ _ _ cut _ _ w (omega (arith, in-run.few, part.few))

pub parse_attr-returns-in-None : goal.parse_attr-returns-in-None
parse_attr-returns-in-None t c =
    let a = c.args in
    let s = c.trim-trimmed.result in
    let part = part-of c.places.ensures c.trim-trimmed.ensures.part in
    let i = run-ir c.in_run.result _ _ _ c.in_run.ensures c.attr_ir-ir.ensures in
    let whole = whole-ir (line_in a.tokens.line) _ _ a.block a.written.id _ part c.if-trimmed-eq0.false _ i.held in
    let few = most-few a.tokens.line.kinds.now s.place.0 (s.place.0 + s.count) _ i.within in
    told-as _ _ _ _ _ _ whole _ _ (c.put_ir.ensures _) (omega (arith, few, part.few))
