-- What a set must be to be taken: held, and in sheet mode sound.
use Rattle.std.specs.Prelude.{ℕ, ◌+◌, Bool, true, cond, ◌&&◌, ◌||◌, List, [], ◌∷◌, eqb, leb, ltb, length}
use Rattle.substitutions.specs.declared.Substitutions.{Substitutions}
use Rattle.substitutions.specs.Kinds.{flagged, one, each, sum}

-- How many of the places hold kind k.
unfoldable pub times : ℕ → List ℕ → ℕ
times k [] = 0
times k (p ∷ ps) = one (eqb p k) + times k ps

-- Places of 0 to 7 only.
unfoldable pub small : List ℕ → Bool
small [] = true
small (p ∷ ps) = leb p 7 && small ps

unfoldable pub empty : List ℕ → Bool
empty [] = true
empty (p ∷ ps) = eqb p 0 && empty ps

-- Packed from the front: after an empty place all are empty.
unfoldable pub packed : List ℕ → Bool
packed [] = true
packed (p ∷ ps) = cond (eqb p 0) (empty ps) (packed ps)

-- No kind twice.
unfoldable pub once : List ℕ → Bool
once ps = each 7 (λ k. leb (times k ps) 1)

-- A flag for every kind placed.
unfoldable pub covered : Substitutions → Bool
covered s = each 7 (λ k. eqb (times k s.places) 0 || flagged k s.flags)

-- Kind k has a flag without a place; how many kinds have.
unfoldable pub spare : Substitutions → ℕ → Bool
spare s k = flagged k s.flags && eqb (times k s.places) 0

unfoldable pub spares : Substitutions → ℕ
spares s = sum 7 (λ k. one (spare s k))

-- A set has seven places. A held set has places of 0 to 7 only, is packed from the front, has no kind twice, a flag for
-- every kind placed, bit 7 clear, and at most one flag without a place. (`HeldPlaces.HeldSet` says it place by place.)
unfoldable pub held : Substitutions → Bool
held s =
    eqb (length s.places) 7 && small s.places && packed s.places && once s.places && covered s && ltb s.flags 128
    && leb (spares s) 1

-- Sound: held, and no flag without a place.
unfoldable pub sound : Substitutions → Bool
sound s = held s && eqb (spares s) 0
