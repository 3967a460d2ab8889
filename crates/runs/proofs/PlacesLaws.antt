-- Laws of places: the equations that follow from where the tokens of an answer stand.
use Rattle.std.specs.Prelude.{ℕ, ◌-◌, ◌≤◌, ◌<◌, ◌≡◌, Bool, List, get_or}
use Rattle.std.proofs.Common.{arith, sym, ap, ◌∙◌}
use Rattle.std.proofs.Math.Decide.{dec_lt}
use Rattle.token.specs.Kind.{attr_ref}
use Rattle.token.specs.Line.{Line, Token, line_of, run, empty_run}
use Rattle.runs.specs.Run.{kept, onward, run_of, first_place}
use Rattle.runs.specs.Places.{Ends, FoundIn, StartsAt}
use Rattle.runs.proofs.KeptLaws.{kept-none, kept-first, place_is, run_ends, run_none}

first-here : (l : Line) (to r : ℕ) → r ≤ to → (r < to → get_or l.kinds r 0 ≡ attr_ref → ⊥) → r ≡ first_place to (kept l r to)
unfolding first_place
first-here l to r h e = go (dec_lt r to)
  where
    go : Dec (r < to) → r ≡ first_place to (kept l r to)
    go (yes lt) = sym (ap (first_place to) (kept-first l r to lt (e lt)) ∙ place_is l r)
    go (no ge) =
        let z : r ≡ to = omega arith in
        z ∙ sym (ap (first_place to) (kept-none l r to (omega arith)))

pub starts-place : (f : List Token → List Token) (kinds : List ℕ) (from to r : ℕ) → StartsAt f kinds from to r → (text pairs : List ℕ) → r ≡ first_place to (f (kept (line_of kinds text pairs) from to))
starts-place f kinds from to r w text pairs = first-here (line_of kinds text pairs) to r w.part.mid w.first ∙ ap (first_place to) (w.part.same text pairs)

pub found-place : (l : Line) (p : Token → Bool) (from to r : ℕ) → r ≤ to → FoundIn l p from to r → r ≡ first_place to (onward p (kept l from to))
found-place l p from to r h w = first-here l to r h w.kept ∙ ap (first_place to) w.after

-- the run of the places a..b, whose first and last are kept
pub run-here : (l : Line) (a b : ℕ) → Ends l.kinds a b → a < b → run a (b - a) ≡ run_of (kept l a b)
run-here l a b w h = sym (run_ends l a b w h)

pub run-empty : (l : Line) (a b : ℕ) → b ≤ a → empty_run ≡ run_of (kept l a b)
run-empty l a b h = sym (run_none (kept l a b) (kept-none l a b h))
