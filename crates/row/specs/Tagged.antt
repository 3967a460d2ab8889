-- A row whose tag is one of the eight (document 01, "The line, the rows, the set").
use Rattle.std.specs.Prelude.{◌≡◌}
use Rattle.row.specs.declared.Row.{Row}
use Rattle.row.specs.declared.tag.Tag.{Tag}
use Rattle.row.specs.Tag.{tag_number}

-- The row's tag is the number of a `Tag`. The type asks nothing of it; that each row which the reader writes is so, say the `TagLaws` of `put_rows`,
-- `attribute`, `list_rows` and `attr_list`.
pub record Tagged (r : Row) : Type 0 where
  pub tag : Tag
  pub is : r.tag ≡ tag_number tag
