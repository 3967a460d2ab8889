-- The entries: 1 to 7, then an empty list, a list or what a link's brackets hold; demand 3 holds of every reading. Assumes nothing.
use Rattle.std.proofs.Common.{refl, sym, subst, ◌∙◌}
use Rattle.std.proofs.lemmas.Result.{err_from_is_err_and}
use Rattle.token.specs.Line.{Line, line_of, most_tokens}
use Rattle.closing.specs.Link.{link_macro}
use Rattle.attr_list.specs.declared.entries.Entry.{Entry}
use Rattle.attr_list.specs.Entry.{is_block, full_line}
use Rattle.attr_list.specs.Reading.{Gives, link_to, list_of, read_by}
use Rattle.attr_list.specs.Told.{told}
use Rattle.attr_list.proofs.Readings.{gives_as, outcome-line, outcome-room, outcome-taken, closed-gives, open_gives, list-entry}
use Rattle.attr_list.proofs.parse_attr_list.Goals as goal

pub returns-in_err-line : goal.returns-in_err-line
returns-in_err-line c =
    let p = err_from_is_err_and c.from_residual.result c.from_residual.ensures.1 in
    rw (p.1, p.2) (outcome-line _ _ _ _ c.in_err-line.field-0.0 c.in_err-line.ensures)

pub returns-then-not-has_room : goal.returns-then-not-has_room
returns-then-not-has_room c = outcome-room _ _ _ _ c.in_ok-line.ensures.accepted (sym c.has_room.ensures ∙ c.if-not-has_room.true)

pub returns-then-kinds : goal.returns-then-kinds
returns-then-kinds c =
    let a = c.args in
    let l = line_of a.kinds.now a.text.now a.pairs.now in
    outcome-taken most_tokens a.entry l a.rows.now c.in_ok-line.ensures.accepted (sym c.has_room.ensures ∙ c.if-not-has_room.false) _ _ (closed-gives a.kinds.now (read_by a.entry l) a.rows.now c.if-kinds.true _ refl)

pub returns-in-Link : goal.returns-in-Link
returns-in-Link c =
    let a = c.args in
    let l = line_of a.kinds.now a.text.now a.pairs.now in
    let w : Gives a.rows.now (link_to l (link_macro l.kinds l.pairs)) (told c.read_link.result) c.read_link.new.rows = subst (λ (m : Line). Gives a.rows.now (link_to m (link_macro m.kinds m.pairs)) (told c.read_link.result) c.read_link.new.rows) c.in_ok-line.ensures.same c.read_link.ensures in
    let v : Gives a.rows.now (read_by a.entry l) (told c.read_link.result) c.read_link.new.rows = subst (λ (e : Entry). Gives a.rows.now (read_by e l) (told c.read_link.result) c.read_link.new.rows) (sym c.in-Link.is) w in
    outcome-taken most_tokens a.entry l a.rows.now c.in_ok-line.ensures.accepted (sym c.has_room.ensures ∙ c.if-not-has_room.false) _ _ (open_gives a.kinds.now (read_by a.entry l) a.rows.now c.if-kinds.false _ _ v)

pub returns-in_default : goal.returns-in_default
returns-in_default c =
    let a = c.args in
    let l = line_of a.kinds.now a.text.now a.pairs.now in
    let w : Gives a.rows.now (list_of l (full_line a.entry) (is_block a.entry)) (told c.read_list.result) c.read_list.new.rows = subst (λ (m : Line). Gives a.rows.now (list_of m (full_line a.entry) (is_block a.entry)) (told c.read_list.result) c.read_list.new.rows) c.in_ok-line.ensures.same c.read_list.ensures in
    let v = gives_as a.rows.now _ _ _ _ w (list-entry a.entry l c.in_default.not-Link) in
    outcome-taken most_tokens a.entry l a.rows.now c.in_ok-line.ensures.accepted (sym c.has_room.ensures ∙ c.if-not-has_room.false) _ _ (open_gives a.kinds.now (read_by a.entry l) a.rows.now c.if-kinds.false _ _ v)
