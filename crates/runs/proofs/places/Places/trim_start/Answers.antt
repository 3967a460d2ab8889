-- `trim_start` passes over AttrRef and Whitespace. Assumes nothing.
use Rattle.std.proofs.Common.{rules, tests, refl}
use Rattle.runs.proofs.Ranges.{starts-first}
use Rattle.runs.proofs.places.Places.trim_start.Goals as goal

pub returns : goal.returns
returns c =
    let f = c.find.ensures in
    record {
      kinds = refl;
      start = starts-first _ _ _ _ f.low f.high (λ i low high. let q = f.before i low high in search (rules, tests)) (λ h. let q = f.here h in search (rules, tests));
      to = refl;
    }
