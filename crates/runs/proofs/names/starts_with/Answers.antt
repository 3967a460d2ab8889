-- `starts_with` compares byte by byte. Assumes nothing.
use Rattle.std.proofs.Common.{rules, tests, ℕ, ◌∙◌, eqb, arith}
use Rattle.std.proofs.lemmas.Iterator.{YieldsList-from_slice, YieldsList-from_zip}
use Rattle.std.proofs.lemmas.Iterator.Search.{all_from_yields_List}
use Rattle.std.proofs.lemmas.Bool.{lt-leb}
use Rattle.runs.proofs.Naming.{prefix-zip, prefix-short}
use Rattle.runs.proofs.names.starts_with.Goals as goal

pub returns-then-start-name : goal.returns-then-start-name
returns-then-start-name c =
    all_from_yields_List (λ (p : ℕ × ℕ). eqb p.0 p.1) c.all.new.self _ _ c.all.ensures.ran (YieldsList-from_zip (YieldsList-from_slice c.args.start.now cc) (YieldsList-from_slice c.args.name.now cc))
    (λ x b q k. search (rules, tests)) ∙ prefix-zip _ _ (omega arith)

pub returns-else-start-name : goal.returns-else-start-name
returns-else-start-name c = lt-leb _ _ c.if-start-name.false ∙ prefix-short _ _ c.if-start-name.false
