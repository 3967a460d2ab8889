-- `name_run` trims: a run without Whitespace inside begins and ends where the trimmed one does. Assumes nothing.
use Rattle.std.proofs.Common.{arith, sym, ◌∙◌}
use Rattle.token.specs.Checked.{line_in}
use Rattle.runs.specs.Run.{trim, run_of}
use Rattle.runs.proofs.KeptLaws.{run-without}
use Rattle.attr_ir.proofs.Values.{part_in}
use Rattle.runs.proofs.Ranges.{kept-of, part-of}
use Rattle.attr_ir.proofs.naming.name_run.Goals as goal

pub returns : goal.returns
returns c =
    let l = line_in c.args.tokens.line in
    let run = kept-of c.places.ensures (λ ts. run_of (trim ts)) c.trim.ensures.run l.text l.pairs in
    let part = part-of c.places.ensures c.trim.ensures.part in
    record { run = run ∙ sym (run-without _); within = part_in trim _ _ _ _ _ _ (omega arith) (omega arith) part }
