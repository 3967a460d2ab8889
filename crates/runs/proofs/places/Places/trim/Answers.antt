-- `trim` takes Whitespace off the start and then off the end: the run between the two places is that of the trimmed tokens. Assumes nothing.
use Rattle.std.proofs.Common.{ap}
use Rattle.runs.proofs.Ranges.{both-trim, part-between, run-between-is, ends-over}
use Rattle.runs.proofs.places.Places.trim.Goals as goal

pub returns : goal.returns
returns c =
    let s = c.trim_start-rest.ensures in
    let w = both-trim _ _ _ _ _ s.start (ends-over (ap (λ ks. ks.now) s.kinds) (ap (λ n. n.0) s.to) c.trim_end.ensures) in
    record { run = run-between-is _ _ _ _ _ _ w.0 w.1 _ c.run_between.ensures; part = part-between _ _ _ _ _ _ w.0 w.1 _ c.run_between.ensures }
