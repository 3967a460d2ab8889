-- `is_name` compares byte for byte: bytes of one number are the same where each pair is. Assumes nothing.
use borrow.Author.Rules.{rules}
use borrow.Author.Tests.{tests, ne_eqb}
use mathlib.Core.Path.{◌∙◌}
use Rattle.std.proofs.lemmas.Iterator.{same_from_all, YieldsList-from_slice, YieldsList-from_zip}
use Rattle.subs_names.proofs.NamesLaws.{same-lengths, same-decided}
use Rattle.subs_names.proofs.is_name.Goals as goal

pub returns-then-part-name : goal.returns-then-part-name
returns-then-part-name c =
    let a = c.args.part.now in
    let b = c.args.name.now in
    same-decided _ a b (same_from_all c.all.new.self _ _ a b c.all.ensures.ran (YieldsList-from_zip (YieldsList-from_slice a cc) (YieldsList-from_slice b cc)) c.if-part-name.true (λ x q k. search (rules, tests)) (λ x q k. search (rules, tests)))

pub returns-else-part-name : goal.returns-else-part-name
returns-else-part-name c = ne_eqb _ _ c.if-part-name.false ∙ same-lengths _ _ c.if-part-name.false
