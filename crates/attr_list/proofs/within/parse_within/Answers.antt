-- A short line is read as the main reader does: 1 to 7, then an empty list, a list or what a link's brackets hold. Assumes nothing.
use Rattle.std.proofs.Common.{refl, sym, ◌∙◌}
use Rattle.std.proofs.lemmas.Result.{err_from_is_err_and}
use Rattle.token.specs.Line.{line_of, most_tokens}
use Rattle.attr_list.specs.Reading.{read_by}
use Rattle.attr_list.proofs.Readings.{outcome-line, outcome-room, outcome-taken, closed-gives, outcome-list, outcome-link}
use Rattle.attr_list.proofs.within.parse_within.Goals as goal

pub returns-in_err-line : goal.returns-in_err-line
returns-in_err-line g c =
    let p = err_from_is_err_and c.from_residual.result c.from_residual.ensures.1 in
    rw (p.1, p.2) (outcome-line _ _ _ _ c.in_err-line.field-0.0 c.in_err-line.ensures)

pub returns-then-not-has_room : goal.returns-then-not-has_room
returns-then-not-has_room g c = outcome-room _ _ _ _ c.in_ok-line.ensures.accepted (sym c.has_room.ensures ∙ c.if-not-has_room.true)

pub returns-then-kinds : goal.returns-then-kinds
returns-then-kinds g c =
    let a = c.args in
    let l = line_of a.kinds.now a.text.now a.pairs.now in
    outcome-taken most_tokens a.entry l a.rows.now c.in_ok-line.ensures.accepted (sym c.has_room.ensures ∙ c.if-not-has_room.false) _ _ (closed-gives a.kinds.now (read_by a.entry l) a.rows.now c.if-kinds.true _ refl)

pub returns-in-Link : goal.returns-in-Link
returns-in-Link g c =
    let a = c.args in
    outcome-link most_tokens a.entry (line_of a.kinds.now a.text.now a.pairs.now) _ a.rows.now c.in_ok-line.ensures.accepted (sym c.has_room.ensures ∙ c.if-not-has_room.false) c.if-kinds.false c.in_ok-line.ensures.same _ _ c.in-Link.is c.read_link_within.ensures

pub returns-in_default : goal.returns-in_default
returns-in_default g c =
    let a = c.args in
    outcome-list most_tokens a.entry (line_of a.kinds.now a.text.now a.pairs.now) _ a.rows.now c.in_ok-line.ensures.accepted (sym c.has_room.ensures ∙ c.if-not-has_room.false) c.if-kinds.false c.in_ok-line.ensures.same _ _ c.in_default.not-Link c.read_list_within.ensures
