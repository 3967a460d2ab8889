-- `is_block_attr_list` refuses by the number of the checks, or answers by the kinds. Assumes nothing.
use Rattle.std.proofs.Common.{arith, eq-eqb, ne_eqb, ap, ◌≡◌}
use Rattle.refusals.specs.Numbered.{number_of}
use Rattle.std.proofs.lemmas.Result.{err_from_is_err_and}
use Rattle.refusals.proofs.Laws.{number-some}
use Rattle.attr_list.specs.Block.{block_line, is_block_attr_list}
use Rattle.attr_list.proofs.is_block_attr_list.Goals as goal

pub returns-in_err-taken : goal.returns-in_err-taken
unfolding block_line
returns-in_err-taken c =
    let p = err_from_is_err_and c.from_residual.result c.from_residual.ensures.1 in
    let e = c.in_err-taken.ensures in
    let h : (number_of c.in_err-taken.field-0.0 ≡ 0) → ⊥ = λ z. omega (arith, number-some c.in_err-taken.field-0.0, z) in
    rw (p.1, p.2, ← e, ne_eqb _ _ h)

pub returns : goal.returns
unfolding block_line
returns c =
    let e = c.in_ok-taken.ensures in
    rw (eq-eqb _ _ e.accepted, c.bracketed.ensures, ap (λ l. is_block_attr_list l.kinds) e.same)
