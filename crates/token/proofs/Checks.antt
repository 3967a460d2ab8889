-- The loops of the checks, place by place.
use Prim.Native.Nat.{ℕ, zero, suc, ◌+◌, ◌*◌, ◌≤◌, ◌<◌}
use native.Mathlib.Omega.{arith}
use native.Mathlib.Numerals.{add-one}
use mathlib.Core.Bool.{Bool, true, false, ◌||◌}
use mathlib.Core.Path.{◌≡◌, refl, sym}
use mathlib.Core.List.{List, [], ◌∷◌}
use lib.Dec.{ltb}
use lib.ListN.{length, get_or, drop, length-drop}
use lib.Seq.{drop-cons}
use borrow.Author.Tests.{lt-ltb, le-ltb, ltb-true}
use Rattle.std.specs.Simd.{first_chunks}
use Rattle.std.proofs.Math.Bool.{or-true, or-false}
use Rattle.token.specs.Line.{misplaced}

-- what the loop of 6 keeps: a token has ended past the text, or one from here on is misplaced. While none begins before the previous one ends, an end
-- past the text is never made good by a later one, so the last end tells
abbrev pub passed : (size end : ℕ) → List ℕ → Bool
passed size end ps = ltb size end || misplaced size end ps

-- the chunk of two at place i is the pair of token i
pub chunk-at : (k i : ℕ) (ps : List ℕ) → i < k → 2 * i + 1 < length ps → get_or (first_chunks 2 k ps) i [] ≡ get_or ps (2 * i) 0 ∷ get_or ps (2 * i + 1) 0 ∷ []
chunk-at zero i ps h g = absurd (omega arith)
chunk-at (suc k) i [] h g = absurd (omega arith)
chunk-at (suc k) i (a ∷ []) h g = absurd (omega arith)
chunk-at (suc k) zero (a ∷ b ∷ ps) h g = refl
chunk-at (suc k) (suc i) (a ∷ b ∷ ps) h g =
    let e : 2 * suc i ≡ suc (suc (2 * i)) = omega arith in
    let f : 2 * suc i + 1 ≡ suc (suc (2 * i + 1)) = omega arith in
    rw (f, e) (chunk-at k i ps (omega arith) (omega arith))

pub passed_first : (size : ℕ) (ps : List ℕ) → passed size 0 ps ≡ misplaced size 0 ps
passed_first size ps = rw (le-ltb size 0 (omega arith)) refl

module _ (ps : List ℕ) (i : ℕ) (h : 2 * i + 1 < length ps) where
  pub pair-at : drop (2 * i) ps ≡ get_or ps (2 * i) 0 ∷ get_or ps (2 * i + 1) 0 ∷ drop (2 * (i + 1)) ps
  pair-at =
      let e : 2 * (i + 1) ≡ suc (suc (2 * i)) = omega arith in
      rw (drop-cons ps (2 * i) 0 (omega arith), e, add-one (2 * i), drop-cons ps (suc (2 * i)) 0 (omega arith))

  module _ (size end o n : ℕ) (eo : o ≡ get_or ps (2 * i) 0) (en : n ≡ get_or ps (2 * i + 1) 0) where
    pub passed-before : o < end → true ≡ passed size end (drop (2 * i) ps)
    unfolding misplaced
    passed-before g = rw (pair-at, ← eo, lt-ltb o end g) (sym (or-true (ltb size end)))

    pub passed-next : end ≤ o → passed size (o + n) (drop (2 * (i + 1)) ps) ≡ passed size end (drop (2 * i) ps)
    unfolding misplaced
    passed-next g = rw (pair-at, ← eo, ← en, le-ltb o end g) (absorbed (ltb size end) refl)
      where
        absorbed : (b : Bool) → ltb size end ≡ b → passed size (o + n) (drop (2 * (i + 1)) ps) ≡ (b || passed size (o + n) (drop (2 * (i + 1)) ps))
        absorbed true e = let low : size < end = ltb-true size end e in rw (lt-ltb size (o + n) (omega (arith, low, g))) refl
        absorbed false e = refl

pub passed-end : (ps : List ℕ) (i size end : ℕ) → length ps ≤ 2 * i + 1 → ltb size end ≡ passed size end (drop (2 * i) ps)
unfolding misplaced
passed-end ps i size end h = done (drop (2 * i) ps) (omega (arith, length-drop (2 * i) ps))
  where
    done : (qs : List ℕ) → length qs ≤ 1 → ltb size end ≡ passed size end qs
    done [] g = sym (or-false (ltb size end))
    done (o ∷ []) g = sym (or-false (ltb size end))
    done (o ∷ n ∷ qs) g = absurd (omega arith)
