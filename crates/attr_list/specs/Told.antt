-- What the code's results tell: a refusal by its number, or what was read.
use Rattle.std.specs.Prelude.{Bool, Result, Ok, Err}
use Rattle.refusals.specs.declared.Refusal.{Refusal}
use Rattle.refusals.specs.Numbered.{number_of}
use Rattle.attr_list.specs.declared.Read as code
use Rattle.attr_list.specs.Answer.{Answer, Refused, Read}
use Rattle.attr_list.specs.Block as block

abbrev pub told : Result code.Read Refusal → Answer
told (Ok r) = Read r.rows r.consumed r.rejoined
told (Err r) = Refused (number_of r)

abbrev pub told_line : Result Bool Refusal → block.BlockLine
told_line (Ok b) = block.Is b
told_line (Err r) = block.Refused (number_of r)
