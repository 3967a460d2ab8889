-- `is_held` decides `held`, since a set is held where at most one flag is left over. Assumes nothing.
use borrow.Author.Rules.{rules}
use Rattle.substitutions.specs.Loops.{few}
use Rattle.substitutions.proofs.HeldLaws.{held-is}
use Rattle.substitutions.proofs.Substitutions.is_held.Goals as goal

pub returns : goal.returns
unfolding few
returns c = rw (held-is c.args.self (search rules)) (grind rules)
