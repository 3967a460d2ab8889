-- The first place that passes a test, and the first tokens' bytes, in words.
use Rattle.std.specs.Prelude.{Option, None, Some, ℕ, zero, suc, ◌<◌, Bool, true, false, cond, ◌≡◌, refl, List, ltb, length, get_or, position}
use Rattle.std.specs.List.{position_or_len}
use Rattle.std.proofs.Common.{arith, sym, ap, ◌∙◌, ltb-false, true≢false}
use Rattle.std.proofs.Math.Decide.{dec_lt}
use Rattle.std.proofs.lemmas.Option.{none-some}
use Rattle.std.proofs.lemmas.List.Sums.{fails_before_first}
use Rattle.std.proofs.lemmas.List.Quantifiers.{position-Some}
use Rattle.token.specs.Line.{Line, length_in}
use Rattle.anchor.specs.Anchor.{bytes_of}
use Rattle.anchor.specs.Anchored.{SomeBytes}

module _ (p : ℕ → Bool) (xs : List ℕ) where
  pub none-passes : position p xs ≡ None → (q : ℕ) → q < length xs → p (get_or xs q 0) ≡ false
  none-passes e q lt = by (ltb (position_or_len p xs) (length xs)) refl e
    where
      by : (t : Bool) → ltb (position_or_len p xs) (length xs) ≡ t → cond t (Some (position_or_len p xs)) None ≡ None → p (get_or xs q 0) ≡ false
      by true h f = absurd (none-some _ (sym f))
      by false h f = fails_before_first p xs q 0 (omega (arith, ltb-false _ _ h, lt))

  -- the place that passes, where none before it does, is the first
  pub position-is : (i : ℕ) → i < length xs → p (get_or xs i 0) ≡ true → ((k : ℕ) → k < i → p (get_or xs k 0) ≡ false) → position p xs ≡ Some i
  position-is i lt here before = by (position p xs) refl
    where
      same : (j : ℕ) → p (get_or xs j 0) ≡ true → ((k : ℕ) → k < j → p (get_or xs k 0) ≡ false) → Dec (j < i) → Dec (i < j) → j ≡ i
      same j at first (yes h) g = absurd (true≢false (sym at ∙ before j h))
      same j at first (no h) (yes g) = absurd (true≢false (sym here ∙ first i g))
      same j at first (no h) (no g) = omega (arith, h, g)

      by : (o : Option ℕ) → position p xs ≡ o → o ≡ Some i
      by None e = absurd (true≢false (sym here ∙ none-passes e i lt))
      by (Some j) e =
          let w = position-Some p xs j 0 e in
          ap Some (same j w.1 w.2 (dec_lt j i) (dec_lt i j))

module _ (l : Line) where
  pub bytes-some : (n : ℕ) → (bytes_of l n ≡ 0 → ⊥) → SomeBytes l n
  unfolding bytes_of
  bytes-some zero h = absurd (h refl)
  bytes-some (suc n) h = by (dec_lt 0 (length_in l.pairs n)) (bytes-some n)
    where
      by : Dec (0 < length_in l.pairs n) → ((bytes_of l n ≡ 0 → ⊥) → SomeBytes l n) → SomeBytes l (suc n)
      by (yes g) rest = record { place = n; within = omega arith; bytes = g }
      by (no g) rest =
          let w = rest (λ z. h (omega (arith, z, g))) in
          record { place = w.place; within = omega (arith, w.within); bytes = w.bytes }

  pub some-bytes : (n q : ℕ) → q < n → 0 < length_in l.pairs q → bytes_of l n ≡ 0 → ⊥
  unfolding bytes_of
  some-bytes zero q lt h z = omega (arith, lt)
  some-bytes (suc n) q lt h z = by (dec_lt q n) (λ g. some-bytes n q g h (omega (arith, z)))
    where
      by : Dec (q < n) → (q < n → ⊥) → ⊥
      by (yes g) earlier = earlier g
      by (no g) earlier =
          let e : q ≡ n = omega (arith, lt, g) in
          let f : length_in l.pairs q ≡ length_in l.pairs n = ap (length_in l.pairs) e in
          omega (arith, f, h, z)
