-- A reader whose limit of tokens is lower than the main reader's (document 02, slip 9).
use Rattle.std.specs.Prelude.{ℕ, cond, ltb, length}
use Rattle.refusals.specs.Refusals.{too_many_tokens}
use Rattle.token.specs.Line.{Line, most_tokens}
use Rattle.attr_list.specs.declared.entries.Entry.{Entry}
use Rattle.attr_list.specs.Reading.{Reading, refused, reading}

-- "up to 256 tokens it answers and refuses as the main reader does, more get 2 at that row's place in the order", here with any limit: a line of more
-- tokens than `most` gets 2, whatever else is wrong with it, since it has a token, and 1, a line of none, alone comes before 2
abbrev pub limited : (most : ℕ) → Entry → Line → (room : ℕ) → Reading
limited most e l room = cond (ltb most (length l.kinds)) (refused too_many_tokens) (reading most_tokens e l room)
