-- The tags of rows, each with its number (document 01, "The line, the rows, the set").
use Rattle.std.specs.Prelude.{ℕ, ◌≡◌, ◌<◌, ◌⊎◌, Result, Ok, Err}
use Rattle.row.specs.declared.tag.NotATag.{NotATag}
use Rattle.row.specs.declared.tag.Tag.{Tag}
use Rattle.row.specs.declared.tag.Tag.TheVariants.{EmptyPositional, Positional, Named, Id, Role, Option, Diagnostic, Plain}

-- "Tags: 1 empty positional; 2 positional run; 3 named, name then value, value under `attr_value`; 4 id; 5 role; 6 option; 7 diagnostic (place,
-- number, 0, 0); 8 named `subs` or `cols`, value under `none`."
abbrev pub tag_number : Tag → ℕ
tag_number EmptyPositional = 1
tag_number Positional = 2
tag_number Named = 3
tag_number Id = 4
tag_number Role = 5
tag_number Option = 6
tag_number Diagnostic = 7
tag_number Plain = 8

abbrev pub Gives : Tag → ℕ → Type 0
Gives t n = n ≡ tag_number t

-- a number is the tag's that it is read as; 0 and what is over 8 are no tag's
abbrev pub Decodes : ℕ → Result Tag NotATag → Type 0
Decodes n (Ok t) = n ≡ tag_number t
Decodes n (Err e) = ((n ≡ 0) ⊎ (8 < n)) × (e.0 ≡ n)
