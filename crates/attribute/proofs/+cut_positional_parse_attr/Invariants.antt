-- The tokens left fall: a cut hands on a shorter tail (measures 2n + 1 and 2n of n tokens). Assumes nothing.
use Rattle.std.proofs.Common.{◌+◌, ◌*◌, ◌-◌}
use Rattle.attribute.proofs.+cut_positional_parse_attr.Given as goal

abbrev pub decreases-cut_positional : goal.decreases-cut_positional
decreases-cut_positional l = 2 * (l.tokens.to.0 - l.tokens.from.0)

abbrev pub decreases-parse_attr : goal.decreases-parse_attr
decreases-parse_attr l = 2 * (l.tokens.to.0 - l.tokens.from.0) + 1
