-- `check_line` gives the number of the first check that applies, by the tests that failed before it. Assumes nothing.
use Prim.Native.Nat.{ℕ, ◌*◌, ◌≤◌}
use native.Mathlib.Omega.{arith}
use mathlib.Core.Path.{◌≡◌, refl, sym, ◌∙◌}
use lib.ListN.{length}
use borrow.Author.Tests.{eq-eqb, ne_eqb, lt-ltb, le-ltb}
use Rattle.refusals.specs.Refusals.{kind_too_large, pairs_not_in_order}
use Rattle.token.specs.Lent.{line}
use Rattle.token.specs.Line.{Line, most_bytes, some_over, misplaced, check, refusal}
use Rattle.token.proofs.line.check_line.Goals as goal
use Rattle.token.proofs.line.check_line.Goals.{then-pairs-tokens-via-then-pairs-tokens, then-pairs-tokens-via-else-pairs-tokens+then-pairs-tokens-2}

pub returns-then-tokens-eq0 : goal.returns-then-tokens-eq0
unfolding refusal
returns-then-tokens-eq0 c = rw (eq-eqb _ _ c.if-tokens-eq0.true)

pub returns-then-tokens-most : goal.returns-then-tokens-most
unfolding refusal
returns-then-tokens-most c = rw (ne_eqb _ _ c.if-tokens-eq0.false, lt-ltb _ _ c.if-tokens-most.true)

pub returns-then-text-gt-MOST_BYTES : goal.returns-then-text-gt-MOST_BYTES
unfolding refusal
returns-then-text-gt-MOST_BYTES c = rw (ne_eqb _ _ c.if-tokens-eq0.false, le-ltb _ _ c.if-tokens-most.false, lt-ltb _ _ c.if-text-gt-MOST_BYTES.true)

pub returns-then-pairs-tokens : goal.returns-then-pairs-tokens
unfolding refusal
returns-then-pairs-tokens c =
    let a = c.args in
    rw (ne_eqb _ _ c.if-tokens-eq0.false, le-ltb _ _ c.if-tokens-most.false, le-ltb _ _ c.if-text-gt-MOST_BYTES.false, ne_eqb (length a.pairs.now) (2 * length a.kinds.now) (elim c.then-pairs-tokens.branch [ then-pairs-tokens-via-then-pairs-tokens w ↦ (λ e. omega arith) | then-pairs-tokens-via-else-pairs-tokens+then-pairs-tokens-2 w ↦ (λ e. omega arith) ]))

-- past the first four checks the last two decide
last-two : (most : ℕ) (l : Line) → (length l.kinds ≡ 0 → ⊥) → length l.kinds ≤ most → length l.text ≤ most_bytes → length l.pairs ≡ 2 * length l.kinds → check (some_over l.kinds) kind_too_large (check (misplaced (length l.text) 0 l.pairs) pairs_not_in_order 0) ≡ refusal most l
unfolding refusal
last-two most l none few short paired = rw (ne_eqb _ _ none, le-ltb _ _ few, le-ltb _ _ short, eq-eqb (length l.pairs) (2 * length l.kinds) paired) refl

pub returns-then-some_over : goal.returns-then-some_over
returns-then-some_over c =
    let w = last-two _ (line c.args.kinds c.args.text c.args.pairs) c.if-tokens-eq0.false c.if-tokens-most.false c.if-text-gt-MOST_BYTES.false (omega arith) in
    rw (← w, sym c.some_over.ensures ∙ c.if-some_over.true)

pub returns-then-some_misplaced : goal.returns-then-some_misplaced
returns-then-some_misplaced c =
    let w = last-two _ (line c.args.kinds c.args.text c.args.pairs) c.if-tokens-eq0.false c.if-tokens-most.false c.if-text-gt-MOST_BYTES.false (omega arith) in
    rw (← w, sym c.some_over.ensures ∙ c.if-some_over.false, sym c.some_misplaced.ensures ∙ c.if-some_misplaced.true)

pub returns : goal.returns
returns c =
    let w = last-two _ (line c.args.kinds c.args.text c.args.pairs) c.if-tokens-eq0.false c.if-tokens-most.false c.if-text-gt-MOST_BYTES.false (omega arith) in
    rw (← w, sym c.some_over.ensures ∙ c.if-some_over.false, sym c.some_misplaced.ensures ∙ c.if-some_misplaced.false)
