-- `bracketed` is the definition test by test; a line of one token cannot be both brackets. Assumes nothing.
use Rattle.std.proofs.Common.{eq-eqb, ne_eqb}
use Rattle.attr_list.proofs.BlockLaws.{single-not}
use Rattle.attr_list.specs.Block.{is_block_attr_list}
use Rattle.attr_list.proofs.block.bracketed.Goals as goal

pub returns-then-tokens-lt2 : goal.returns-then-tokens-lt2
returns-then-tokens-lt2 c = single-not c.args.kinds.now c.if-tokens-lt2.true

pub returns-then-kinds : goal.returns-then-kinds
unfolding is_block_attr_list
returns-then-kinds c = rw (ne_eqb _ _ c.if-kinds.true)

pub returns-then-kinds-tokens : goal.returns-then-kinds-tokens
unfolding is_block_attr_list
returns-then-kinds-tokens c = rw (eq-eqb _ _ c.if-kinds.false, ne_eqb _ _ c.if-kinds-tokens.true)

pub returns-then-kinds-tokens-2 : goal.returns-then-kinds-tokens-2
unfolding is_block_attr_list
returns-then-kinds-tokens-2 c = rw (eq-eqb _ _ c.if-kinds.false, eq-eqb _ _ c.if-kinds-tokens.false, eq-eqb _ _ c.if-kinds-tokens-2.true)

pub returns : goal.returns
unfolding is_block_attr_list
returns c = rw (eq-eqb _ _ c.if-kinds.false, eq-eqb _ _ c.if-kinds-tokens.false, ne_eqb _ _ c.if-kinds-tokens-2.false)
