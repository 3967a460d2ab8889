-- Laws of the definitions, which the proofs cite.
use Rattle.std.specs.Prelude.{ℕ, zero, suc, ◌+◌, ◌*◌, ◌/◌, ◌≤◌, Bool, not, ◌||◌, ◌≡◌, refl, List, [], ◌∷◌, eqb, length, get_or, take}
use Rattle.std.specs.List.{list_any}
use Rattle.std.specs.Simd.{first_chunks}
use Rattle.std.proofs.Common.{arith, sym, ap, ◌∙◌, ne_eqb}
use Rattle.std.proofs.lemmas.List.Folds.{list_any_more}
use Rattle.token.specs.Line.{Line, length_in}
use Rattle.token.proofs.Checks.{chunk-at}
use Rattle.anchor.specs.Anchor.{bytes_of, no_bytes}

-- ---- the bytes of the id

-- whether a token of this pair of numbers has bytes
abbrev pub has_some : List ℕ → Bool
has_some pair = not (eqb (get_or pair 1 0) 0)

sum-some : (a b : ℕ) → not (eqb (a + b) 0) ≡ (not (eqb a 0) || not (eqb b 0))
sum-some zero b =
    let e : 0 + b ≡ b = omega arith in
    ap (λ (n : ℕ). not (eqb n 0)) e
sum-some (suc a) b = rw (ne_eqb (suc a + b) 0 (λ z. omega (arith, z)), ne_eqb (suc a) 0 (λ z. omega (arith, z)))

module _ (l : Line) where
  -- the pairs of all tokens
  abbrev pub lexemes : List (List ℕ)
  lexemes = first_chunks 2 (length l.pairs / 2) l.pairs

  pub some_bytes : (n : ℕ) → 2 * n ≤ length l.pairs → n ≤ length lexemes → list_any has_some (take n lexemes) ≡ not (no_bytes l n)
  unfolding bytes_of
  some_bytes zero h m = refl
  some_bytes (suc n) h m =
      let at : get_or lexemes n [] ≡ get_or l.pairs (2 * n) 0 ∷ get_or l.pairs (2 * n + 1) 0 ∷ [] = chunk-at (length l.pairs / 2) n l.pairs (omega arith) (omega arith) in
      let e : n + 1 ≡ suc n = omega arith in
      ap (λ (k : ℕ). list_any has_some (take k lexemes)) (sym e)
      ∙ list_any_more has_some lexemes n [] (omega arith)
      ∙ rw (at, some_bytes n (omega arith) (omega arith)) (sym (sum-some (bytes_of l n) (length_in l.pairs n)))
