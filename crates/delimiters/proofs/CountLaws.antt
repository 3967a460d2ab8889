-- Laws of the count.
use Rattle.std.specs.Prelude.{ℕ, zero, suc, ◌-◌, ◌≤◌, ◌<◌, Bool, true, false, cond, ◌≡◌, refl, List, [], ◌∷◌, ◌⊎◌, eqb, length}
use Rattle.std.proofs.Common.{arith, ap, inl, inr, eqb-true, eq-eqb, ne_eqb}
use Rattle.std.proofs.Math.Decide.{dec_lt}
use Rattle.std.proofs.lemmas.Bool.{eqb-false}
use Rattle.token.specs.Kind.{close_bracket, kind_at}
use Rattle.delimiters.specs.Count.{counted}

-- no CloseBracket is counted, and the first token that is not counted is the last of the line or a CloseBracket
pub record Counts (kinds : List ℕ) (n : ℕ) : Type 0 where
  pub within : n ≤ length kinds - 1
  pub none_closes : (p : ℕ) → p < n → kind_at kinds p ≡ close_bracket → ⊥
  pub ends : (n ≡ length kinds - 1) ⊎ (kind_at kinds n ≡ close_bracket)

counts-none : (k l : ℕ) (ks : List ℕ) → k ≡ close_bracket → Counts (k ∷ l ∷ ks) 0
counts-none k l ks e = record { within = omega arith; none_closes = λ p h f. omega arith; ends = inr e }

counts-more : (k l : ℕ) (ks : List ℕ) (n : ℕ) → (k ≡ close_bracket → ⊥) → Counts (l ∷ ks) n → Counts (k ∷ l ∷ ks) (suc n)
counts-more k l ks n h w = record { within = omega (arith, w.within); none_closes = none; ends = ends w.ends }
  where
    none : (p : ℕ) → p < suc n → kind_at (k ∷ l ∷ ks) p ≡ close_bracket → ⊥
    none zero lt = h
    none (suc p) lt = w.none_closes p (omega arith)

    ends : (n ≡ length (l ∷ ks) - 1) ⊎ (kind_at (l ∷ ks) n ≡ close_bracket) → (suc n ≡ length (k ∷ l ∷ ks) - 1) ⊎ (kind_at (k ∷ l ∷ ks) (suc n) ≡ close_bracket)
    ends (inl e) = inl (omega arith)
    ends (inr e) = inr e

pub counts : (kinds : List ℕ) → Counts kinds (counted kinds)
unfolding counted
counts [] = record { within = omega arith; none_closes = λ p h f. omega arith; ends = inl (omega arith) }
counts (k ∷ []) = record { within = omega arith; none_closes = λ p h f. omega arith; ends = inl (omega arith) }
counts (k ∷ l ∷ ks) = go (eqb k close_bracket) refl (counts (l ∷ ks))
  where
    go : (b : Bool) → eqb k close_bracket ≡ b → Counts (l ∷ ks) (counted (l ∷ ks)) → Counts (k ∷ l ∷ ks) (cond b 0 (suc (counted (l ∷ ks))))
    go true e ih = counts-none k l ks (eqb-true k close_bracket e)
    go false e ih = counts-more k l ks (counted (l ∷ ks)) (eqb-false k close_bracket e) ih

-- and only the count is so
pub count-is : (kinds : List ℕ) (n : ℕ) → Counts kinds n → counted kinds ≡ n
unfolding counted
count-is [] n w = omega (arith, w.within)
count-is (k ∷ []) n w = omega (arith, w.within)
count-is (k ∷ l ∷ ks) zero w = stops w.ends
  where
    stops : (0 ≡ length (k ∷ l ∷ ks) - 1) ⊎ (k ≡ close_bracket) → cond (eqb k close_bracket) 0 (suc (counted (l ∷ ks))) ≡ 0
    stops (inl e) = absurd (omega arith)
    stops (inr e) = rw (eq-eqb k close_bracket e)
count-is (k ∷ l ∷ ks) (suc n) w =
    rw (ne_eqb k close_bracket (w.none_closes 0 (omega arith)))
    (ap suc (count-is (l ∷ ks) n (record { within = omega (arith, w.within); none_closes = λ p lt. w.none_closes (suc p) (omega arith); ends = later w.ends })))
  where
    later : (suc n ≡ length (k ∷ l ∷ ks) - 1) ⊎ (kind_at (l ∷ ks) n ≡ close_bracket) → (n ≡ length (l ∷ ks) - 1) ⊎ (kind_at (l ∷ ks) n ≡ close_bracket)
    later (inl e) = inl (omega arith)
    later (inr e) = inr e

-- a CloseBracket, wherever it stands, is past the tokens counted
pub bracket-past : (kinds : List ℕ) (p : ℕ) → kind_at kinds p ≡ close_bracket → counted kinds ≤ p
bracket-past kinds p e = go (dec_lt p (counted kinds))
  where
    go : Dec (p < counted kinds) → counted kinds ≤ p
    go (yes l) = absurd ((counts kinds).none_closes p l e)
    go (no l) = omega arith

-- nothing is counted where the first token is a CloseBracket
pub count-first : (kinds : List ℕ) → kind_at kinds 0 ≡ close_bracket → counted kinds ≡ 0
count-first kinds e = omega (arith, bracket-past kinds 0 e)

-- nor in a line of one token
pub count-one : (kinds : List ℕ) → length kinds ≤ 1 → counted kinds ≡ 0
count-one kinds le = omega (arith, (counts kinds).within)

-- in any other line something is
pub count-some : (kinds : List ℕ) → 2 ≤ length kinds → (kind_at kinds 0 ≡ close_bracket → ⊥) → 0 < counted kinds
unfolding counted
count-some [] le h = absurd (omega arith)
count-some (k ∷ []) le h = absurd (omega arith)
count-some (k ∷ l ∷ ks) le h = rw (ne_eqb k close_bracket h) (omega arith)
