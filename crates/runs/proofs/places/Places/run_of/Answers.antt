-- `run_of` goes from the first kept token to the last: the run between the two places is theirs. Assumes nothing.
use Rattle.std.proofs.Common.{ap}
use Rattle.runs.proofs.Ranges.{both-all, part-between, run-between-is, ends-over}
use Rattle.runs.proofs.places.Places.run_of.Goals as goal

pub returns : goal.returns
returns c =
    let s = c.skip_attr_refs-rest.ensures in
    let w = both-all _ _ _ _ _ s.start (ends-over (ap (λ ks. ks.now) s.kinds) (ap (λ n. n.0) s.to) c.run_end.ensures) in
    record { run = run-between-is _ _ _ _ _ _ w.0 w.1 _ c.run_between.ensures; part = part-between _ _ _ _ _ _ w.0 w.1 _ c.run_between.ensures }
