-- `some_misplaced` compares each start with the end before it, and the last end with the text. Assumes nothing.
use Rattle.std.proofs.Common.{arith, ap, ◌∙◌, ◌≡◌, ℕ, ◌+◌, ◌*◌, ◌<◌, List, [], length, get_or}
use Rattle.std.specs.Simd.{first_chunks}
use Rattle.token.proofs.Checks.{chunk-at, passed_first, passed-before, passed-next, passed-end}
use Rattle.token.proofs.line.some_misplaced.Goals as goal

-- the numbers of the chunk at a place, where the chunks are those of the pairs
one : (ps : List ℕ) (cs : List (List ℕ)) (i n : ℕ) → cs ≡ first_chunks 2 n ps → i < n → 2 * i + 1 < length ps → record { offset : get_or (get_or cs i []) 0 0 ≡ get_or ps (2 * i) 0; length : get_or (get_or cs i []) 1 0 ≡ get_or ps (2 * i + 1) 0 }
one ps cs i n e h g =
    let f = ap (λ (xs : List (List ℕ)). get_or xs i []) e ∙ chunk-at n i ps h g in
    record { offset = ap (λ (xs : List ℕ). get_or xs 0 0) f; length = ap (λ (xs : List ℕ). get_or xs 1 0) f }

pub loop-offset-init : goal.loop-offset-init
loop-offset-init c = passed_first c.args.size c.args.pairs.now

pub returns-then-start-end : goal.returns-then-start-end
returns-then-start-end c =
    let ps = c.args.pairs.now in
    let i = c.loop-offset.offset-index in
    let g : 2 * i + 1 < length ps = omega (arith, c.as_chunks.ensures.front_len) in
    let w = one ps _ i _ c.as_chunks.ensures.front (omega (arith, c.as_chunks.ensures.front_len)) g in
    passed-before ps i g c.args.size c.loop-offset.end _ _ w.offset w.length c.if-start-end.true ∙ c.loop-offset.invariant

pub loop-offset-preserved : goal.loop-offset-preserved
loop-offset-preserved c =
    let ps = c.args.pairs.now in
    let i = c.loop-offset.offset-index in
    let g : 2 * i + 1 < length ps = omega (arith, c.as_chunks.ensures.front_len) in
    let w = one ps _ i _ c.as_chunks.ensures.front (omega (arith, c.as_chunks.ensures.front_len)) g in
    passed-next ps i g c.args.size c.loop-offset.end _ _ w.offset w.length c.if-start-end.false ∙ c.loop-offset.invariant

pub returns : goal.returns
returns c = passed-end c.args.pairs.now c.loop-offset.offset-index c.args.size c.loop-offset.end (omega (arith, c.as_chunks.ensures.front_len)) ∙ c.loop-offset.invariant
