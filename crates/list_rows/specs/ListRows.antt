-- The rows of a list: those of its attributes, in order.
use Rattle.std.specs.Prelude.{ℕ, Bool, false, List, [], ◌∷◌, ◌++◌}
use Rattle.token.specs.Line.{Line}
use Rattle.runs.specs.Run.{kept}
use Rattle.row.specs.declared.Row.{Row}
use Rattle.row.specs.Row.{Wrote}
use Rattle.delimiters.specs.Delimit.{Stretch, parted, attributes}
use Rattle.put_rows.specs.Rows.{Read}
use Rattle.attribute.specs.Attribute.{attribute}

-- the rows of some attributes, first to last, each of the tokens kept in its stretch; `has` says that the list already has an id, and is handed on
unfoldable pub rows_from : Line → (block has : Bool) → List Stretch → Read
rows_from l block has [] = record { rows = []; has_id = has }
rows_from l block has (s ∷ ss) =
    let first = attribute block has (kept l s.from s.to) in
    let rest = rows_from l block first.has_id ss in
    record { rows = first.rows ++ rest.rows; has_id = rest.has_id }

-- the rows of the attributes between these commas, the last going on to `end`
abbrev pub parted_rows : Line → (block : Bool) → (commas : List ℕ) → (end : ℕ) → List Row
parted_rows l block commas end = (rows_from l block false (parted 0 commas end)).rows

-- what a call that writes them to the front of the buffer leaves, and how many it answers
abbrev pub WroteParted : Line → (block : Bool) → (commas : List ℕ) → (end : ℕ) → (before : List ℕ) → (r : ℕ) → (after : List ℕ) → Type 0
WroteParted l block commas end before r after = Wrote before 0 (parted_rows l block commas end) after r

-- the rows of the attributes of a line whose closing bracket stands at `end`; `block` says that the entry is the block entry
abbrev pub list_rows : Line → (block : Bool) → (end : ℕ) → List Row
list_rows l block end = (rows_from l block false (attributes l.kinds end)).rows
