-- What the loops and tests of the code compute, one step after the other. No public contract speaks of these: the laws tie
-- them to `Held` and `Moves`.
use Rattle.std.specs.Prelude.{ℕ, suc, ◌-◌, Bool, cond, ◌&&◌, ◌||◌, List, [], ◌∷◌, ◌++◌, eqb, leb, ltb, take, drop, get_or, ◌≡◌, Option, Some, None}
use Rattle.substitutions.specs.declared.Substitutions.{Substitutions}
use Rattle.substitutions.specs.Kinds.{flag_of, flagged}
use Rattle.substitutions.specs.Held.{empty}

-- The gap at place `at` closed.
unfoldable pub closed : ℕ → List ℕ → List ℕ
closed at l = take at l ++ (drop (suc at) l ++ (0 ∷ []))

-- Each place from here on takes what stood before it, the first x, up to where k stood.
unfoldable pub pushed : ℕ → ℕ → List ℕ → List ℕ
pushed x k [] = []
pushed x k (p ∷ ps) = x ∷ cond (eqb p k) ps (pushed p k ps)

-- The flags left when each place in turn takes its kind's flag; 255 where there is none to take, or where a kind stands
-- behind an empty place.
unfoldable pub left : ℕ → List ℕ → ℕ
left f [] = f
left f (p ∷ ps) = cond (eqb p 0) (cond (empty ps) f 255) (cond (leb p 7 && flagged p f) (left (f - flag_of p) ps) 255)

-- The places of the normal set.
unfoldable pub normal_places : List ℕ → Bool
normal_places ps =
    eqb (get_or ps 0 0) 1 && eqb (get_or ps 1 0) 2 && eqb (get_or ps 2 0) 3 && eqb (get_or ps 3 0) 4 && eqb (get_or ps 4 0) 5 && eqb (get_or ps 5 0) 6
    && eqb (get_or ps 6 0) 0

-- A byte with at most one of the seven flags, and no bit 7.
unfoldable pub few : ℕ → Bool
few f = eqb f 0 || eqb f 1 || eqb f 2 || eqb f 4 || eqb f 8 || eqb f 16 || eqb f 32 || eqb f 64

-- What the code computes of a set: the flags left over, 255 where the set is not held for another reason.
unfoldable pub unclaimed_flags : Substitutions → ℕ
unclaimed_flags s = cond (ltb s.flags 128) (left s.flags s.places) 255

-- The code gives none for 255.
abbrev pub Leaves : Option ℕ → ℕ → Type 0
Leaves None n = 255 ≡ n
Leaves (Some f) n = f ≡ n
