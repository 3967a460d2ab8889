-- `has_bytes` asks of the pair of each of the first n tokens whether its length is not 0. Assumes nothing.
use Rattle.std.proofs.Common.{rules, tests, arith, ap, ◌∙◌, take, length}
use Rattle.std.proofs.lemmas.Iterator.{YieldsList-from_slice}
use Rattle.std.proofs.lemmas.Iterator.Search.{any_from_yields_List}
use Rattle.token.specs.Checked.{line_in}
use Rattle.anchor.proofs.Laws.{has_some, lexemes, some_bytes}
use Rattle.anchor.proofs.id.has_bytes.Goals as goal

pub returns : goal.returns
returns c =
    let l = line_in c.args.line in
    any_from_yields_List has_some c.any.new.self _ _ c.any.ensures.ran (YieldsList-from_slice (take c.args.n (lexemes l)) cc) (λ x b q k. search (rules, tests))
    ∙ some_bytes l c.args.n (omega (arith, c.args.line.lent.paired)) (omega (arith, ap length c.as_chunks.ensures.front, c.ranges.n.fits))
