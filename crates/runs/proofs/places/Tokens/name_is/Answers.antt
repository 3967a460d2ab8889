-- `name_is` goes from token to token. Assumes nothing.
use Rattle.std.proofs.Common.{arith, sym, ap, ◌∙◌, List, ℕ, drop, length}
use Rattle.token.specs.Line.{token_at}
use Rattle.runs.specs.Names.{prefix}
use Rattle.runs.proofs.Naming.{naming-start, naming-passed, naming-differs, naming-on, naming-end, stripped-none, stripped-some}
use Rattle.runs.proofs.Ranges.{stopped}
use Rattle.runs.proofs.places.Tokens.name_is.Goals as goal

pub loop-i-init : goal.loop-i-init
loop-i-init c = naming-start _ _ _ _ _ _ (omega arith)

pub loop-i-preserved-then-is_passed : goal.loop-i-preserved-then-is_passed
loop-i-preserved-then-is_passed c = naming-passed _ _ _ _ _ _ _ _ (omega arith) c.loop-i.invariant (sym c.is_passed.ensures ∙ c.if-is_passed.true)

pub returns-in_default : goal.returns-in_default
unfolding token_at
returns-in_default c =
    let s = stopped _ (sym c.is_passed.ensures ∙ c.if-is_passed.false) in
    let rest = c.loop-i.rest.now in
    naming-differs _ _ _ _ _ _ c.loop-i.i rest (omega arith) c.loop-i.invariant s.0 s.1 (ap (λ (xs : List ℕ). prefix xs rest) (sym c.lexeme.ensures) ∙ stripped-none _ _ _ c.strip_prefix.ensures c.in_default.is)

pub loop-i-preserved : goal.loop-i-preserved
unfolding token_at
loop-i-preserved c =
    let s = stopped _ (sym c.is_passed.ensures ∙ c.if-is_passed.false) in
    let rest = c.loop-i.rest.now in
    let w = stripped-some _ _ _ c.strip_prefix.ensures _ c.in-Some.is in
    naming-on _ _ _ _ _ _ c.loop-i.i rest (omega arith) c.loop-i.invariant s.0 s.1 _ (w.1 ∙ ap (λ (xs : List ℕ). drop (length xs) rest) c.lexeme.ensures) (ap (λ (xs : List ℕ). prefix xs rest) (sym c.lexeme.ensures) ∙ w.0)

pub returns : goal.returns
returns c = c.is_empty.ensures ∙ naming-end _ _ _ _ _ _ c.loop-i.i c.loop-i.rest.now (omega arith) c.loop-i.invariant
