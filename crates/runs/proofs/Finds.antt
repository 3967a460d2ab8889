-- The loops that look for the first kept token of some sort.
use Prim.Native.Nat.{ℕ, ◌+◌, ◌≤◌, ◌<◌}
use native.Mathlib.Omega.{arith}
use native.Mathlib.Decide.{dec_lt}
use mathlib.Core.Bool.{Bool, true, false}
use mathlib.Core.Path.{◌≡◌, refl}
use mathlib.Core.List.{List, []}
use lib.Dec.{eqb}
use lib.ListN.{get_or}
use borrow.Author.Tests.{eqb-true, eqb-false}
use Rattle.token.specs.Kind.{attr_ref}
use Rattle.token.specs.Line.{Line, Token, line_of, token_at}
use Rattle.runs.specs.Run.{kept, onward}
use Rattle.runs.proofs.KeptLaws.{none-start, none-skip, none_more, found_here, found_none}
use Rattle.runs.specs.Places.{FoundIn, FoundAt}
use Rattle.runs.proofs.Ranges.{walk}

module _ (l : Line) (p : Token → Bool) (from to : ℕ) where
  -- none was found before i, and the token at i is none
  none-next : (i : ℕ) → from ≤ i → p (token_at l i) ≡ false → onward p (kept l from i) ≡ [] → onward p (kept l from (i + 1)) ≡ []
  none-next i low e w = go (eqb (get_or l.kinds i 0) attr_ref) refl
    where
      go : (b : Bool) → eqb (get_or l.kinds i 0) attr_ref ≡ b → onward p (kept l from (i + 1)) ≡ []
      go true f = none-skip l p from i low (eqb-true _ _ f) w
      go false f = none_more l p from i low (eqb-false _ _ f) e w

  -- the first place at which p holds, where it holds at no place before
  pub found-in : (r : ℕ) → from ≤ r → r ≤ to → ((i : ℕ) → from ≤ i → i < r → p (token_at l i) ≡ false) → (r < to → record { kept : get_or l.kinds r 0 ≡ attr_ref → ⊥; here : p (token_at l r) ≡ true }) → FoundIn l p from to r
  found-in r low high before here = go (dec_lt r to)
    where
      none : onward p (kept l from r) ≡ []
      none = walk (λ (i : ℕ). onward p (kept l from i) ≡ []) from r low (none-start l p from) (λ i a b w. none-next i a (before i a b) w)

      go : Dec (r < to) → FoundIn l p from to r
      go (yes h) = found_here l p from to r low h (here h).kept (here h).here none
      go (no h) = found_none l p from to r (omega (arith, h)) none

-- the same, whatever the line's text
pub found-first : (p : Token → Bool) (kinds : List ℕ) (from to r : ℕ) → from ≤ r → r ≤ to → ((i : ℕ) → from ≤ i → i < r → (text pairs : List ℕ) → p (token_at (line_of kinds text pairs) i) ≡ false) → (r < to → record { kept : get_or kinds r 0 ≡ attr_ref → ⊥; here : (text pairs : List ℕ) → p (token_at (line_of kinds text pairs) r) ≡ true }) → FoundAt p kinds from to r
found-first p kinds from to r low high before here =
    record {
      low = low;
      high = high;
      found = λ text pairs. found-in (line_of kinds text pairs) p from to r low high (λ i a b. before i a b text pairs) (λ h. record { kept = (here h).kept; here = (here h).here text pairs });
    }
