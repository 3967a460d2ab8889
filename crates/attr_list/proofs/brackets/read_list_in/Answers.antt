-- `read_list_in` reads the attributes between the dividing commas up to the closing bracket, or refuses with 8 before anything is written. Assumes
-- nothing.
use Rattle.std.proofs.Common.{arith, ap, subst, Bool, ℕ, List, take, ◌∙◌, ◌≡◌}
use Rattle.std.specs.Prelude.{Option}
use Rattle.token.specs.declared.TokenPlace.{TokenPlace}
use Rattle.closing.specs.Closing.{numbers_of, closing}
use Rattle.row.specs.Row.{Wrote}
use Rattle.list_rows.specs.ListRows.{parted_rows}
use Rattle.token.specs.Checked.{line_in}
use Rattle.attr_list.proofs.Readings.{end_is, list-nowhere, list-commas, list-gives}
use Rattle.attr_list.proofs.brackets.read_list_in.Goals as goal

-- the bracket that was found is that of a line that is known to be full or not
known : {asked full : Bool} (r : Option TokenPlace) (kinds : List ℕ) → numbers_of r ≡ numbers_of (closing asked kinds) → asked ≡ full → numbers_of r ≡ numbers_of (closing full kinds)
known r kinds e f = e ∙ ap (λ (b : Bool). numbers_of (closing b kinds)) f

pub list_rows-written-requires : goal.list_rows-written-requires
list_rows-written-requires c =
    let l = c.args.held.line in
    let w = end_is l.kinds.now _ _ c.closing_bracket.ensures l.lent.some _ c.in-Some.is in
    record { among = omega (arith, w.among); room = omega (arith, w.among, c.requires.room); ascending = list-commas l.kinds.now _ _ c.closing_bracket.ensures l.lent.some _ c.in-Some.is _ c.find_delimiters-delimited.ensures.places }

pub overflow_add-result : goal.overflow_add-result
overflow_add-result c =
    let l = c.args.held.line in
    let w = end_is l.kinds.now _ _ c.closing_bracket.ensures l.lent.some _ c.in-Some.is in
    omega (arith, w.among, l.lent.few)

pub returns-in_default : goal.returns-in_default
returns-in_default c =
    let l = c.args.held.line in
    list-nowhere l.kinds.now _ _ (known c.closing_bracket.result l.kinds.now c.closing_bracket.ensures c.is_full_line.ensures) l.text.now l.pairs.now _ _ c.in_default.is

pub returns : goal.returns
returns c =
    let l = c.args.held.line in
    let wrote = subst (λ (b : Bool). Wrote c.args.rows.now 0 (parted_rows (line_in l) b (take c.find_delimiters-delimited.result.commas c.find_delimiters-delimited.new.commas) c.in-Some.end.0) c.list_rows-written.new.rows c.list_rows-written.result) c.is_block.ensures c.list_rows-written.ensures in
    list-gives l.kinds.now _ _ (known c.closing_bracket.result l.kinds.now c.closing_bracket.ensures c.is_full_line.ensures) l.lent.some _ c.in-Some.is _ c.find_delimiters-delimited.ensures.places l.text.now l.pairs.now c.args.held.open _ _ _ _ _ wrote c.find_delimiters-delimited.ensures.back
