-- `value_of` unquotes what stands past one Whitespace. Assumes nothing.
use Rattle.std.proofs.Common.{ap, ◌∙◌}
use Rattle.runs.specs.Run.{unquote, unquoted}
use Rattle.attr_ir.specs.Ir.{value}
use Rattle.attr_ir.proofs.Values.{part-as, value-by}
use Rattle.attr_ir.proofs.naming.value_of.Goals as goal

pub returns : goal.returns
returns c =
    let s = c.past_space.ensures in
    record {
      text = λ text pairs. c.unquote.ensures.text text pairs ∙ ap unquoted (s.same text pairs);
      part = part-as unquote value _ _ _ _ _ s.low (λ text pairs. value-by _ _ (s.same text pairs)) c.unquote.ensures.part;
    }
