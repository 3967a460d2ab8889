-- `name_is` goes from token to token. The loop's invariant (`Naming`): the bytes of the tokens left are what is left of the name exactly where all are the name. Assumes nothing.
use Rattle.runs.proofs.Naming.{Naming}
use Rattle.runs.proofs.places.Tokens.name_is.Given as goal

abbrev pub invariant-loop-i : goal.invariant-loop-i
invariant-loop-i l = Naming l.self.line.kinds.now l.self.line.text.now l.self.line.pairs.now l.self.from.0 l.self.to.0 l.name l.i l.rest
