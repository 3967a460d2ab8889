-- `put_id` writes the one row of an id, by whether it has tokens and whether the list has an id already. Assumes nothing.
use Rattle.put_rows.proofs.GroupRows.{wrote-same, id-empty, id-again, id-new}
use Rattle.std.proofs.Common.{ap, ◌∙◌, true}
use Rattle.put_rows.specs.Rows.{one_row}
use Rattle.put_rows.proofs.Written.put_id.Goals as goal

pub returns-then-id-eq0 : goal.returns-then-id-eq0
returns-then-id-eq0 c = wrote-same _ _ _ _ _ _ (id-empty c.args.self.id c.args.id.run c.args.id.mark c.if-id-eq0.true) c.put_diagnostic.ensures

pub returns-then-self : goal.returns-then-self
returns-then-self c = wrote-same _ _ _ _ _ _ (id-again c.args.self.id c.args.id.run c.args.id.mark c.if-id-eq0.false c.if-self.true) c.put_diagnostic-then-self.ensures

pub returns : goal.returns
returns c = wrote-same _ _ _ _ _ _ (ap (one_row true) c.unquoted.ensures ∙ id-new c.args.self.id c.args.id.run c.args.id.mark c.if-id-eq0.false c.if-self.false) c.put_one.ensures
