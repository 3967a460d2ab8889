-- That each row that an entry gives has one of the eight tags (document 01, "The line, the rows, the set").
use Rattle.std.specs.List.{All}
use Rattle.row.specs.Tagged.{Tagged}
use Rattle.attr_list.specs.Reading.{Reading, refused, gives}

-- of a refusal there are no rows
abbrev pub TaggedRows : Reading → Type 0
TaggedRows (refused n) = Unit {0}
TaggedRows (gives rows consumed rejoined) = All Tagged rows
