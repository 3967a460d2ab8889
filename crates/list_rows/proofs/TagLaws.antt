-- Each row of a list has one of the eight tags. Assumes nothing.
use Rattle.std.specs.Prelude.{ℕ, Bool, false, List, [], ◌∷◌}
use Rattle.std.specs.List.{All}
use Rattle.std.proofs.lemmas.List.Elements.{All-nil, All-append}
use Rattle.token.specs.Line.{Line}
use Rattle.runs.specs.Run.{kept}
use Rattle.row.specs.Tagged.{Tagged}
use Rattle.delimiters.specs.Delimit.{Stretch, attributes}
use Rattle.attribute.specs.Attribute.{attribute}
use Rattle.attribute.proofs.TagLaws.{attribute-tagged}
use Rattle.list_rows.specs.ListRows.{rows_from, list_rows}

pub rows-tagged : (l : Line) (block has : Bool) (ss : List Stretch) → All Tagged (rows_from l block has ss).rows
unfolding rows_from
rows-tagged l block has [] = All-nil Tagged
rows-tagged l block has (s ∷ ss) =
    let first = attribute block has (kept l s.from s.to) in
    All-append Tagged first.rows (rows_from l block first.has_id ss).rows (attribute-tagged block has (kept l s.from s.to)) (rows-tagged l block first.has_id ss)

pub list-tagged : (l : Line) (block : Bool) (end : ℕ) → All Tagged (list_rows l block end)
list-tagged l block end = rows-tagged l block false (attributes l.kinds end)
