-- Laws of the closing bracket: for the loops that look for it, and that what they find is what the words say.
use Rattle.std.specs.Prelude.{Option, None, Some, ℕ, zero, suc, ◌+◌, ◌-◌, ◌≤◌, ◌<◌, cond, not, ◌&&◌, ◌≡◌, refl, List, [], ◌∷◌, eqb, length, get_or, take, drop}
use Rattle.std.proofs.Common.{rules, arith, sym, ap, subst, ◌∙◌, drop_of_length-le, drop-cons, eq-eqb, ne_eqb}
use Rattle.std.proofs.lemmas.List.{get_or-take, get_or-drop, length-take-le, length-drop}
use Rattle.std.proofs.Math.Numerals.{add-one}
use Rattle.std.proofs.Math.Decide.{dec_lt, ℕ_discrete}
use Rattle.token.specs.Kind.{backslash, close_bracket}
use Rattle.token.specs.declared.TokenPlace.{TokenPlace}
use Rattle.closing.specs.Closing.{numbers_of, at, last_bracket, unescaped, next_bracket}
use Rattle.closing.specs.Closes.{Escaped, ClosesAt, Found, FoundLast}

-- ---- the next CloseBracket that is not escaped, place by place

module _ (kinds : List ℕ) (i : ℕ) where
  -- what is left to look at from place i on
  abbrev pub on_from : Option TokenPlace
  on_from = unescaped (get_or kinds (i - 1) 0) i (drop i kinds)

back : (i : ℕ) → suc i - 1 ≡ i
back i = omega arith

module _ (kinds : List ℕ) (i : ℕ) where
  pub next-end : length kinds ≤ i → None ≡ on_from kinds i
  unfolding unescaped
  next-end h = rw (drop_of_length-le kinds h)

  next-cons : i < length kinds → on_from kinds i ≡ cond (eqb (get_or kinds i 0) close_bracket && not (eqb (get_or kinds (i - 1) 0) backslash)) (at i) (unescaped (get_or kinds i 0) (suc i) (drop (suc i) kinds))
  unfolding unescaped
  next-cons h = rw (drop-cons kinds i 0 h)

  pub next_here : i < length kinds → get_or kinds i 0 ≡ close_bracket → (get_or kinds (i - 1) 0 ≡ backslash → ⊥) → at i ≡ on_from kinds i
  next_here h e f = sym (next-cons h ∙ rw (eq-eqb (get_or kinds i 0) close_bracket e, ne_eqb (get_or kinds (i - 1) 0) backslash f))

  -- a token that does not close is passed over
  pub next-on : i < length kinds → (get_or kinds i 0 ≡ close_bracket → get_or kinds (i - 1) 0 ≡ backslash) → on_from kinds (i + 1) ≡ on_from kinds i
  next-on h f = rw (add-one i) (sym (next-cons h ∙ go (ℕ_discrete (get_or kinds i 0) close_bracket)))
    where
      go : Dec (get_or kinds i 0 ≡ close_bracket) → cond (eqb (get_or kinds i 0) close_bracket && not (eqb (get_or kinds (i - 1) 0) backslash)) (at i) (unescaped (get_or kinds i 0) (suc i) (drop (suc i) kinds)) ≡ unescaped (get_or kinds (suc i - 1) 0) (suc i) (drop (suc i) kinds)
      go (yes e) = rw (eq-eqb (get_or kinds i 0) close_bracket e, eq-eqb (get_or kinds (i - 1) 0) backslash (f e), back i)
      go (no e) = rw (ne_eqb (get_or kinds i 0) close_bracket e, back i)

  pub next-first : get_or kinds i 0 ≡ close_bracket → at i ≡ next_bracket kinds i
  unfolding next_bracket
  next-first e = rw (eq-eqb (get_or kinds i 0) close_bracket e)

  pub next-after : (get_or kinds i 0 ≡ close_bracket → ⊥) → on_from kinds (i + 1) ≡ next_bracket kinds i
  unfolding next_bracket
  next-after e = rw (ne_eqb (get_or kinds i 0) close_bracket e, add-one i, back i)

-- what is left of the tokens from a place on
pub rest-at : (kinds : List ℕ) (from k : ℕ) → k < length kinds - from → get_or (take (length kinds - from) (drop from kinds)) k 0 ≡ get_or kinds (from + k) 0
rest-at kinds from k lt = get_or-take (length kinds - from) (drop from kinds) k 0 lt ∙ get_or-drop from kinds k 0

pub rest-long : (kinds : List ℕ) (from : ℕ) → length (take (length kinds - from) (drop from kinds)) ≡ length kinds - from
rest-long kinds from = length-take-le (length kinds - from) (drop from kinds) (omega (arith, length-drop from kinds))

-- where none of n tokens closes behind the one at `from`, the look goes on behind them
module _ (kinds : List ℕ) (from : ℕ) where
  pub next_past : (n : ℕ) → from + 1 + n ≤ length kinds → ((k : ℕ) → k < n → get_or kinds (from + 1 + k) 0 ≡ close_bracket → get_or kinds (from + k) 0 ≡ backslash) → on_from kinds (from + 1 + n) ≡ on_from kinds (from + 1)
  next_past zero le w =
      let e : from + 1 + 0 ≡ from + 1 = omega arith in
      ap (on_from kinds) e
  next_past (suc n) le w =
      let e : from + 1 + suc n ≡ from + 1 + n + 1 = omega arith in
      let f : from + 1 + n - 1 ≡ from + n = omega arith in
      ap (on_from kinds) e ∙ next-on kinds (from + 1 + n) (omega arith) (λ g. rw f (w n (omega arith) g)) ∙ next_past n (omega arith) (λ k lt. w k (omega arith))

-- ---- what is found is in words what it should be

module _ (kinds : List ℕ) (from : ℕ) where
  -- no token from `from` up to i closes
  abbrev Passed : ℕ → Type 0
  Passed i = (q : ℕ) → from ≤ q → q < i → get_or kinds q 0 ≡ close_bracket → Escaped kinds from q

  passed_on : (i : ℕ) → from < i → (get_or kinds i 0 ≡ close_bracket → get_or kinds (i - 1) 0 ≡ backslash) → Passed i → Passed (i + 1)
  passed_on i lt f w q low high e = go (dec_lt q i)
    where
      go : Dec (q < i) → Escaped kinds from q
      go (yes l) = w q low l e
      go (no l) =
          let s : i ≡ q = omega arith in
          record { later = omega arith; after = subst (λ (x : ℕ). get_or kinds x 0 ≡ close_bracket → get_or kinds (x - 1) 0 ≡ backslash) s f e }

  -- one place i at which there is a token, where `more` is what is found from the next on
  found_at : (i : ℕ) → i < length kinds → from < i → Passed i → (Passed (i + 1) → Found kinds from (on_from kinds (i + 1))) → Found kinds from (on_from kinds i)
  found_at i l lt w more = by (ℕ_discrete (get_or kinds i 0) close_bracket) (ℕ_discrete (get_or kinds (i - 1) 0) backslash)
    where
      on : (get_or kinds i 0 ≡ close_bracket → get_or kinds (i - 1) 0 ≡ backslash) → Found kinds from (on_from kinds i)
      on f = subst (Found kinds from) (next-on kinds i l f) (more (passed_on i lt f w))

      by : Dec (get_or kinds i 0 ≡ close_bracket) → Dec (get_or kinds (i - 1) 0 ≡ backslash) → Found kinds from (on_from kinds i)
      by (no e) d = on (λ z. absurd (e z))
      by (yes e) (yes f) = on (λ z. f)
      by (yes e) (no f) =
          subst (Found kinds from) (next_here kinds i l e f) (record { low = omega arith; high = l; bracket = e; free = λ z. f; first = w })

  found-past : (i : ℕ) → length kinds ≤ i → Passed i → Found kinds from (on_from kinds i)
  found-past i le w = subst (Found kinds from) (next-end kinds i le) (λ q low high e. w q low (omega arith) e)

  found_from : (n i : ℕ) → length kinds ≤ i + n → from < i → Passed i → Found kinds from (on_from kinds i)
  found_from zero i h lt w = found-past i (omega arith) w
  found_from (suc n) i h lt w = go (dec_lt i (length kinds)) (λ v. found_from n (i + 1) (omega arith) (omega arith) v)
    where
      go : Dec (i < length kinds) → (Passed (i + 1) → Found kinds from (on_from kinds (i + 1))) → Found kinds from (on_from kinds i)
      go (yes l) more = found_at i l lt w more
      go (no l) more = found-past i (omega arith) w

  pub next-found : from < length kinds → Found kinds from (next_bracket kinds from)
  next-found lt = go (ℕ_discrete (get_or kinds from 0) close_bracket)
    where
      go : Dec (get_or kinds from 0 ≡ close_bracket) → Found kinds from (next_bracket kinds from)
      go (yes e) =
          subst (Found kinds from) (next-first kinds from e)
          (record { low = omega arith; high = lt; bracket = e; free = λ l. absurd (omega arith); first = λ q low high. absurd (omega arith) })
      go (no e) =
          subst (Found kinds from) (next-after kinds from e)
          (found_from (length kinds) (from + 1) (omega arith) (omega arith) (λ q low high f. absurd (e (subst (λ (x : ℕ). get_or kinds x 0 ≡ close_bracket) (let s : q ≡ from = omega arith in s) f))))

pub last_none : (kinds : List ℕ) → length kinds ≡ 0 → None ≡ last_bracket kinds
unfolding last_bracket
last_none [] e = refl
last_none (k ∷ ks) e = absurd (omega arith)

module _ (kinds : List ℕ) where
  pub last-here : get_or kinds (length kinds - 1) 0 ≡ close_bracket → at (length kinds - 1) ≡ last_bracket kinds
  unfolding last_bracket
  last-here e = rw (eq-eqb (get_or kinds (length kinds - 1) 0) close_bracket e)

  pub last-not : (get_or kinds (length kinds - 1) 0 ≡ close_bracket → ⊥) → None ≡ last_bracket kinds
  unfolding last_bracket
  last-not e = rw (ne_eqb (get_or kinds (length kinds - 1) 0) close_bracket e)

  pub last_found : FoundLast kinds (last_bracket kinds)
  last_found = go (ℕ_discrete (get_or kinds (length kinds - 1) 0) close_bracket)
    where
      go : Dec (get_or kinds (length kinds - 1) 0 ≡ close_bracket) → FoundLast kinds (last_bracket kinds)
      go (yes e) = subst (FoundLast kinds) (last-here e) (record { last = refl; bracket = e })
      go (no e) = subst (FoundLast kinds) (last-not e) e

-- ---- the words leave one bracket

pub closes-one : (kinds : List ℕ) (from p q : ℕ) → ClosesAt kinds from p → ClosesAt kinds from q → p ≡ q
closes-one kinds from p q v w = go (dec_lt p q) (dec_lt q p)
  where
    go : Dec (p < q) → Dec (q < p) → p ≡ q
    go (yes l) d = let s = w.first p v.low l v.bracket in absurd (v.free s.later s.after)
    go (no l) (yes m) = let s = v.first q w.low m w.bracket in absurd (w.free s.later s.after)
    go (no l) (no m) = omega arith

pub next-is : (kinds : List ℕ) (from p : ℕ) → ClosesAt kinds from p → next_bracket kinds from ≡ at p
next-is kinds from p w = go (next_bracket kinds from) (next-found kinds from (omega (arith, w.low, w.high)))
  where
    go : (c : Option TokenPlace) → Found kinds from c → c ≡ at p
    go (Some q) v = ap at (closes-one kinds from q.0 p v w)
    go None v = let s = v p w.low w.high w.bracket in absurd (w.free s.later s.after)

-- ---- the numbers tell the case

pub same_case : (c d : Option TokenPlace) → numbers_of c ≡ numbers_of d → c ≡ d
same_case (Some p) (Some q) e = ap at (ap (λ n. n.place) e)
same_case (Some p) None e = absurd (search rules)
same_case None (Some q) e = absurd (search rules)
same_case None None e = refl
