-- A line over the limit is refused with 2, and what the main reader answers of any other is right for the limit too: both by the law of a limit.
-- Assumes nothing.
use Rattle.std.specs.Prelude.{◌≡◌, min}
use Rattle.std.proofs.Math.Nat.{min-eq_left}
use Rattle.token.specs.Line.{line_of, most_tokens}
use Rattle.attr_list.specs.Told.{told}
use Rattle.attr_list.proofs.LimitLaws.{outcome-over, outcome-within}
use Rattle.attr_list.proofs.within.parse_attr_list_within.Goals as goal

pub returns-then-kinds : goal.returns-then-kinds
returns-then-kinds g c =
    let a = c.args in
    let e : min g.row.MOST most_tokens ≡ g.row.MOST = min-eq_left c.if-this-gt-MOST_TOKENS.false in
    rw e (outcome-over g.row.MOST c.if-this-gt-MOST_TOKENS.false a.entry (line_of a.kinds.now a.text.now a.pairs.now) a.rows.now c.if-kinds.true)

pub returns : goal.returns
returns g c =
    let a = c.args in
    let e : min g.row.MOST most_tokens ≡ g.row.MOST = min-eq_left c.if-this-gt-MOST_TOKENS.false in
    rw e (outcome-within g.row.MOST c.if-this-gt-MOST_TOKENS.false a.entry (line_of a.kinds.now a.text.now a.pairs.now) a.rows.now c.if-kinds.false (told c.parse_within.result) c.parse_within.new.rows c.parse_within.ensures)
