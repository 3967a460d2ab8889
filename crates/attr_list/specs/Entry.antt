-- Which of the four entries reads (document 01, "Lists and links").
use Rattle.std.specs.Prelude.{Bool, true, false}
use Rattle.attr_list.specs.declared.entries.Entry.{Entry}
use Rattle.attr_list.specs.declared.entries.Entry.TheVariants.{Block, BlockMacro, Inline, Link}

-- the block entry alone knows shorthand
abbrev pub is_block : Entry → Bool
is_block Block = true
is_block BlockMacro = false
is_block Inline = false
is_block Link = false

-- "Block and block macro: the last token closes": their list is the rest of a full line. A link taken as a list is "read as inline".
abbrev pub full_line : Entry → Bool
full_line Block = true
full_line BlockMacro = true
full_line Inline = false
full_line Link = false
