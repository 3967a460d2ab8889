-- `put_ir` writes what each case of an attribute gives that is not cut. Assumes nothing.
use Rattle.std.proofs.Common.{arith, refl, ◌-◌}
use Rattle.token.specs.Kind.{comma, whitespace}
use Rattle.token.specs.Checked.{line_in}
use Rattle.runs.specs.Run.{kept}
use Rattle.row.specs.declared.tag.Tag.TheVariants as tag
use Rattle.row.specs.Tag.{tag_number}
use Rattle.put_rows.specs.Rows.{split_rows}
use Rattle.put_rows.specs.Written.{Outcome, Shorthanded}
use Rattle.put_rows.proofs.GroupRows.{grouped-of}
use Rattle.put_rows.proofs.Outcomes.{told-as}
use Rattle.attribute.proofs.Runs.{of-run}
use Rattle.attribute.proofs.Outcomes.{put-positional, put-named, put-plain, put-options, put-roles, put_id, put-shorthand}
use Rattle.attribute.proofs.uncut.put_ir.Goals as goal

pub returns-in-Positional : goal.returns-in-Positional
returns-in-Positional c = put-positional (line_in c.args.line) _ c.requires.uncut _ _ _ _ _ _ _ c.in-Positional.is _ c.unquoted.ensures c.put_one.ensures

pub returns-in-Named : goal.returns-in-Named
returns-in-Named c = put-named (line_in c.args.line) _ c.requires.uncut _ _ _ _ _ _ _ c.in-Named.is c.put_named.ensures

pub returns-in-Plain : goal.returns-in-Plain
returns-in-Plain c = put-plain (line_in c.args.line) _ c.requires.uncut _ _ _ _ _ _ _ c.in-Plain.is c.put_named-in-Plain.ensures

pub returns-in-Options : goal.returns-in-Options
returns-in-Options c =
    let a = c.args in
    let t = c.in_run.result in
    let v = grouped-of comma (tag_number tag.Option) c.places-places.ensures c.put_groups.ensures _ _ in
    let w = of-run (λ l from to. Outcome (record { rows = split_rows (tag_number tag.Option) comma (kept l from to); has_id = a.written.id }) (to - from) a.rows.now a.written.rows c.put_groups.result c.put_groups.new.rows) t _ c.in_run.ensures v in
    put-options (line_in a.line) _ c.requires.uncut _ _ _ _ _ _ c.in-Options.is (told-as _ _ _ _ _ _ refl _ _ w (omega arith))

pub returns-in-Roles : goal.returns-in-Roles
returns-in-Roles c =
    let a = c.args in
    let t = c.in_run-in-Roles.result in
    let v = grouped-of whitespace (tag_number tag.Role) c.places-places-in-Roles.ensures c.put_groups-in-Roles.ensures _ _ in
    let w = of-run (λ l from to. Outcome (record { rows = split_rows (tag_number tag.Role) whitespace (kept l from to); has_id = a.written.id }) (to - from) a.rows.now a.written.rows c.put_groups-in-Roles.result c.put_groups-in-Roles.new.rows) t _ c.in_run-in-Roles.ensures v in
    put-roles (line_in a.line) _ c.requires.uncut _ _ _ _ _ _ c.in-Roles.is (told-as _ _ _ _ _ _ refl _ _ w (omega arith))

pub returns-in-Id : goal.returns-in-Id
returns-in-Id c = put_id (line_in c.args.line) _ c.requires.uncut _ _ _ _ _ _ c.in-Id.is c.put_id.ensures

pub returns-in-Shorthand : goal.returns-in-Shorthand
returns-in-Shorthand c =
    let a = c.args in
    let w = of-run (λ l from to. Shorthanded l from to a.written.id a.rows.now a.written.rows c.push_shorthand.result c.push_shorthand.new.rows) c.in_run-in-Shorthand.result _ c.in_run-in-Shorthand.ensures c.push_shorthand.ensures in
    put-shorthand (line_in a.line) _ c.requires.uncut _ _ _ _ _ _ c.in-Shorthand.is (told-as _ _ _ _ _ _ refl _ _ w (omega arith))
