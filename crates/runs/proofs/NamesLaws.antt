-- Laws of lexemes and names.
use Rattle.std.specs.Prelude.{ℕ, ◌+◌, ◌*◌, ◌<◌, Bool, false, ◌&&◌, ◌≡◌, refl, List, [], ◌∷◌, ◌++◌, eqb, drop}
use Rattle.std.proofs.Common.{arith, sym, ap, ◌∙◌, length-take, length-drop}
use Rattle.std.proofs.Math.Bool.{and-true, and-false, and_assoc}
use Rattle.std.proofs.Math.Dec.{eqb-suc-zero}
use Rattle.std.proofs.Math.ListN.{length, get_or}
use Rattle.std.proofs.Math.Seq.{drop-cons}
use Rattle.token.specs.Line.{Line, line_of, token_at}
use Rattle.token.specs.Lent.{Lent}
use Rattle.runs.specs.Run.{of_one}
use Rattle.runs.specs.Names.{same_bytes, prefix}

-- ---- the kind and the lexeme of the token at a place

pub kind-of : (l : Line) (p k : ℕ) → get_or l.kinds p 0 ≡ k → (token_at l p).kind ≡ k
unfolding token_at
kind-of l p k e = e

module _ (kinds text pairs : List ℕ) (w : Lent kinds text pairs) (p : ℕ) (lt : p < length kinds) where
  pub lexeme-length : length (token_at (line_of kinds text pairs) p).lexeme ≡ get_or pairs (2 * p + 1) 0
  unfolding token_at
  lexeme-length = simp (length-take, length-drop) (omega (arith, w.within p lt))

  pub one-is : of_one (token_at (line_of kinds text pairs) p) ≡ eqb (get_or pairs (2 * p + 1) 0) 1
  one-is = ap (λ (n : ℕ). eqb n 1) lexeme-length

  -- the same by a number that is its length
  pub one-long : (n : ℕ) → n ≡ get_or pairs (2 * p + 1) 0 → of_one (token_at (line_of kinds text pairs) p) ≡ eqb n 1
  one-long n e = one-is ∙ ap (λ (m : ℕ). eqb m 1) (sym e)

  pub lexeme-one : get_or pairs (2 * p + 1) 0 ≡ 1 → (token_at (line_of kinds text pairs) p).lexeme ≡ get_or text (get_or pairs (2 * p) 0) 0 ∷ []
  unfolding token_at
  lexeme-one e =
      let room : get_or pairs (2 * p) 0 < length text = omega (arith, w.within p lt) in
      rw (e, drop-cons text (get_or pairs (2 * p) 0) 0 room)

pub one_byte : (x : ℕ) → same_bytes (x ∷ []) (61 ∷ []) ≡ eqb x 61
unfolding same_bytes
one_byte x = and-true (eqb x 61)

pub not-one : (bs : List ℕ) (b : ℕ) → (length bs ≡ 1 → ⊥) → same_bytes bs (b ∷ []) ≡ false
unfolding same_bytes
not-one [] b e = refl
not-one (x ∷ []) b e = absurd (e refl)
not-one (x ∷ y ∷ ys) b e = and-false (eqb x b)

pub kind-not : (l : Line) (p k : ℕ) → (get_or l.kinds p 0 ≡ k → ⊥) → (token_at l p).kind ≡ k → ⊥
unfolding token_at
kind-not l p k e = e

-- ---- bytes

pub same_bytes-append : (xs ys zs : List ℕ) → same_bytes (xs ++ ys) zs ≡ (prefix xs zs && same_bytes ys (drop (length xs) zs))
unfolding same_bytes prefix
same_bytes-append [] ys zs = refl
same_bytes-append (x ∷ xs) ys [] = refl
same_bytes-append (x ∷ xs) ys (z ∷ zs) = ap (λ (b : Bool). eqb x z && b) (same_bytes-append xs ys zs) ∙ sym (and_assoc (eqb x z) (prefix xs zs) (same_bytes ys (drop (length xs) zs)))

pub same_bytes-none : (zs : List ℕ) → same_bytes [] zs ≡ eqb (length zs) 0
unfolding same_bytes
same_bytes-none [] = refl
same_bytes-none (z ∷ zs) = sym (eqb-suc-zero (length zs))
