-- `strip_prefix` asks `starts_with`, and takes what is behind. Assumes nothing.
use native.Mathlib.Omega.{arith}
use mathlib.Core.Path.{sym, ◌∙◌}
use lib.ListN.{length, length-drop}
use lib.Seq.{take_all}
use Rattle.runs.proofs.Naming.{prefix-length}
use Rattle.runs.proofs.names.strip_prefix.Goals as goal

pub returns-then-not-starts_with : goal.returns-then-not-starts_with
returns-then-not-starts_with c = sym c.starts_with.ensures ∙ c.if-not-starts_with.true

pub slice_bounds-result-count : goal.slice_bounds-result-count
slice_bounds-result-count c = prefix-length c.args.start.now c.args.name.now (sym c.starts_with.ensures ∙ c.if-not-starts_with.false)

pub slice_bounds-result-start : goal.slice_bounds-result-start
slice_bounds-result-start c = omega (arith, prefix-length c.args.start.now c.args.name.now (sym c.starts_with.ensures ∙ c.if-not-starts_with.false))

pub returns : goal.returns
returns c =
    let a = c.args in (
      sym c.starts_with.ensures ∙ c.if-not-starts_with.false,
      take_all _ _ (omega (arith, length-drop (length a.start.now) a.name.now)),
    )
