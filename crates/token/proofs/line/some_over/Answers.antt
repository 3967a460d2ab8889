-- `some_over` asks of each kind whether it is over the largest, and of none twice; no kind decides where to go on.
use Rattle.std.proofs.Common.{rules, tests, ◌≡◌, ◌∙◌, ◌||◌, refl, ℕ, Bool, true, false, List, [], ◌∷◌, ltb}
use Rattle.std.proofs.lemmas.Iterator.{YieldsList-from_slice}
use Rattle.std.proofs.lemmas.Iterator.Consumers.{fold_from_yields_List}
use Rattle.std.specs.List.{fold}
use Rattle.token.specs.Kind.{largest}
use Rattle.token.specs.Line.{some_over}
use Rattle.token.proofs.line.some_over.Goals as goal

over-fold : (over : Bool) (ks : List ℕ) → fold (λ (b : Bool) (k : ℕ). b || ltb largest k) over ks ≡ (over || some_over ks)
unfolding some_over
over-fold true [] = refl
over-fold false [] = refl
over-fold over (k ∷ ks) = over-fold (over || ltb largest k) ks ∙ along over (ltb largest k) (some_over ks)
  where
    along : (a b c : Bool) → ((a || b) || c) ≡ (a || (b || c))
    along true b c = refl
    along false b c = refl

pub returns : goal.returns
returns c =
    fold_from_yields_List _ (λ (b : Bool) (k : ℕ). b || ltb largest k) _ _ c.fold.ensures.ran (YieldsList-from_slice c.args.kinds.now cc) (λ a x b q k. search (rules, tests)) ∙ over-fold false c.args.kinds.now
