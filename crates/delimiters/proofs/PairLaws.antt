-- Laws of commas and pairs of quotes: one inside no complete pair stays to the end, one inside a pair that none crosses goes at its second quote.
use Rattle.std.specs.Prelude.{ℕ, zero, suc, ◌+◌, ◌*◌, ◌≤◌, ◌<◌, Bool, true, false, cond, ◌≡◌, ◌⊎◌, eqb, take}
use native.Mathlib.Omega.{arith}
use Rattle.std.proofs.Common.{eq-or-lt_of_le, subst, ◌∙◌, inl, inr}
use Rattle.std.proofs.Math.Decide.{dec_lt}
use Rattle.std.proofs.Math.Path.{sym, ap}
use mathlib.Core.List.{List, [], ◌∷◌, ◌++◌}
use Rattle.std.proofs.Math.ListN.{length, get_or, length-take, length-append, get_or-append}
use Rattle.std.proofs.Math.Seq.{take-length, take-take, take-append-le, get_or-append_seam, get_or-take}
use Rattle.token.specs.Kind.{comma, kind_at}
use Rattle.delimiters.specs.Count.{counted, Quote, quote_kind}
use Rattle.delimiters.specs.Delimit.{State, stretches, at_comma, after}
use Rattle.delimiters.specs.Pairs.{before, Between, OneBetween, Pair, Inside}
use Rattle.delimiters.proofs.StepLaws.{other_quote, same-or-other, quotes-apart, comma-apart, after-comma, after-second, before-one, Turn, pushed, kept, cut, turn, Open, none, since, open_at}
use Rattle.delimiters.proofs.CommaLaws.{ascending-at, ascends}

-- ---- a counted comma that is inside no complete pair stays to the end

module _ (kinds : List ℕ) (p : ℕ) (is : kind_at kinds p ≡ comma) (out : (q : Quote) → Inside kinds q p → ⊥) where
  -- the comma stands where it was put
  Stays : ℕ → Type 0
  Stays i = (length (after kinds p).commas < length (after kinds i).commas) × (get_or (after kinds i).commas (length (after kinds p).commas) 0 ≡ p)

  stays-first : Stays (suc p)
  unfolding Stays at_comma
  stays-first =
      let l = (after kinds p).commas in
      let e : (after kinds (suc p)).commas ≡ l ++ (p ∷ []) = ap (λ (s : State). s.commas) (after-comma kinds p is) in
      rw e (omega (arith, length-append l (p ∷ [])), get_or-append_seam l p [] 0)

  -- a later rejoining keeps it: its first quote came after the comma too, since the comma is not inside
  stays-cut : (i d : ℕ) (q : Quote) → p < i → i < counted kinds → kind_at kinds i ≡ quote_kind q → (after kinds i).noted q ≡ suc d → ((k : ℕ) → p < k → k ≤ i → Stays k) → Open kinds q i → length (after kinds p).commas < d
  unfolding Stays
  stays-cut i d q lt lt' h f ih (none j b z) = absurd (omega arith)
  stays-cut i d q lt lt' h f ih (since j a la ha ba bi z) = go (dec_lt p a)
    where
      go : Dec (p < a) → length (after kinds p).commas < d
      go (yes y) = omega (arith, (ih a y (omega arith)).0)
      go (no y) = absurd (place (eq-or-lt_of_le (omega arith)))
        where
          place : (a ≡ p) ⊎ (a < p) → ⊥
          place (inl e) = comma-apart q (sym is ∙ ap (kind_at kinds) (sym e) ∙ ha)
          place (inr l) =
              out q
              (record {
                first = a;
                second = i;
                pair = record {
                  half = j;
                  opens = record { in_count = omega arith; holds = ha; number = ba };
                  closes = record { in_count = lt'; holds = h; number = bi };
                };
                between = record { after_first = l; before_second = lt };
              })

  stays-more : (i : ℕ) → p < i → i < counted kinds → ((k : ℕ) → p < k → k ≤ i → Stays k) → Turn kinds i → Stays (suc i)
  unfolding Stays
  stays-more i lt lt' ih (pushed c e) =
      let l = (after kinds i).commas in
      let w = ih i lt (omega arith) in
      rw e (omega (arith, w.0, length-append l (i ∷ [])), get_or-append l (i ∷ []) 0 _ w.0 ∙ w.1)
  stays-more i lt lt' ih (kept e) = rw e (ih i lt (omega arith))
  stays-more i lt lt' ih (cut q d h f e) =
      let l = (after kinds i).commas in
      let w = ih i lt (omega arith) in
      let below = stays-cut i d q lt lt' h f ih (open_at kinds q i) in
      rw e (omega (arith, w.0, below, length-take d l), get_or-take d l _ 0 below ∙ w.1)

  stays-below : (i k : ℕ) → p < k → k ≤ i → i ≤ counted kinds → Stays k
  stays-below zero k lt le h = absurd (omega arith)
  stays-below (suc i) k lt le h = go (eq-or-lt_of_le le) (λ k' lt' le'. stays-below i k' lt' le' (omega arith))
    where
      last : ((k : ℕ) → p < k → k ≤ i → Stays k) → (p ≡ i) ⊎ (p < i) → Stays (suc i)
      last ih (inl e) = subst (λ (x : ℕ). Stays (suc x)) e stays-first
      last ih (inr l) = stays-more i l h ih (turn kinds i)

      go : (k ≡ suc i) ⊎ (k < suc i) → ((k : ℕ) → p < k → k ≤ i → Stays k) → Stays k
      go (inl e) ih = subst Stays (sym e) (last ih (eq-or-lt_of_le (omega arith)))
      go (inr l) ih = ih k lt (omega arith)

  pub stays : p < counted kinds → (length (after kinds p).commas < length (after kinds (counted kinds)).commas) × (get_or (after kinds (counted kinds)).commas (length (after kinds p).commas) 0 ≡ p)
  unfolding Stays
  stays lt = stays-below (counted kinds) (counted kinds) lt (omega arith) (omega arith)

-- ---- the numbers of the quotes of a kind

before_more : (kinds : List ℕ) (q : Quote) (i k : ℕ) → i ≤ k → before q kinds i ≤ before q kinds k
unfolding before
before_more kinds q i zero le = let e : i ≡ 0 = omega arith in rw e (omega arith)
before_more kinds q i (suc k) le = go (eq-or-lt_of_le le) (before_more kinds q i k)
  where
    grows : (b : Bool) (n : ℕ) → n ≤ cond b (suc n) n
    grows true n = omega arith
    grows false n = omega arith

    go : (i ≡ suc k) ⊎ (i < suc k) → (i ≤ k → before q kinds i ≤ before q kinds k) → before q kinds i ≤ before q kinds (suc k)
    go (inl e) ih = rw e (omega arith)
    go (inr l) ih = omega (arith, ih (omega arith), grows (eqb (kind_at kinds k) (quote_kind q)) (before q kinds k))

-- a quote has fewer of its kind before it than any place after it
before-past : (kinds : List ℕ) (q : Quote) (i k : ℕ) → kind_at kinds i ≡ quote_kind q → i < k → before q kinds i < before q kinds k
before-past kinds q i k h lt = omega (arith, before-one kinds q i h, before_more kinds q (suc i) k lt)

nth-same : (kinds : List ℕ) (q : Quote) (i k : ℕ) → kind_at kinds i ≡ quote_kind q → kind_at kinds k ≡ quote_kind q → before q kinds i ≡ before q kinds k → i ≡ k
nth-same kinds q i k hi hk e = go (dec_lt i k) (dec_lt k i)
  where
    go : Dec (i < k) → Dec (k < i) → i ≡ k
    go (yes l) d = absurd (omega (arith, before-past kinds q i k hi l))
    go (no l) (yes l') = absurd (omega (arith, before-past kinds q k i hk l'))
    go (no l) (no l') = omega arith

-- ---- a pair that none of the other kind crosses: its second quote leaves the commas that were there at its first

module _ (kinds : List ℕ) (q : Quote) (a b : ℕ) (pair : Pair kinds q a b)
    (uncrossed : (c d : ℕ) → Pair kinds (other_quote q) c d → OneBetween a b c d → ⊥) where
  -- the commas that were there at the first quote are still there
  Kept : ℕ → Type 0
  Kept i = (length (after kinds a).commas ≤ length (after kinds i).commas) × (take (length (after kinds a).commas) (after kinds i).commas ≡ (after kinds a).commas)

  kept-first : Kept a
  unfolding Kept
  kept-first = (omega arith, take-length (after kinds a).commas)

  first<second : a < b
  first<second = go (dec_lt a b)
    where
      go : Dec (a < b) → a < b
      go (yes l) = l
      go (no l) = absurd (omega (arith, before_more kinds q b a (omega arith), pair.opens.number, pair.closes.number))

  -- a rejoining between the two quotes is not of their kind, by the number of quotes
  not_own : (i j : ℕ) → a ≤ i → i < b → kind_at kinds i ≡ quote_kind q → before q kinds i ≡ 2 * j + 1 → ⊥
  not_own i j le lt h e = omega (arith, pair.opens.number, pair.closes.number, before_more kinds q a i le, before-past kinds q i b h lt)

  -- and its first quote is between them too, since the pairs do not cross
  not-before : (i j o : ℕ) → a ≤ i → i < b → kind_at kinds i ≡ quote_kind (other_quote q) → o < i → kind_at kinds o ≡ quote_kind (other_quote q) → before (other_quote q) kinds o ≡ 2 * j → before (other_quote q) kinds i ≡ 2 * j + 1 → a < o
  not-before i j o le lt h lo ho bo bi = go (dec_lt a o)
    where
      here : (a ≡ i) ⊎ (a < i) → a < i
      here (inl e) = absurd (quotes-apart q (sym h ∙ ap (kind_at kinds) (sym e) ∙ pair.opens.holds))
      here (inr l) = l

      go : Dec (a < o) → a < o
      go (yes l) = l
      go (no l) =
          absurd
          (uncrossed o i
          (record {
            half = j;
            opens = record { in_count = omega (arith, pair.closes.in_count); holds = ho; number = bo };
            closes = record { in_count = omega (arith, pair.closes.in_count); holds = h; number = bi };
          })
          (inr ((λ w. l w.after_first), record { after_first = here (eq-or-lt_of_le le); before_second = lt })))

  -- so it leaves those commas
  kept-cut : (i d : ℕ) (r : Quote) → a ≤ i → i < b → kind_at kinds i ≡ quote_kind r → (after kinds i).noted r ≡ suc d → ((k : ℕ) → a ≤ k → k ≤ i → Kept k) → (r ≡ q) ⊎ (r ≡ other_quote q) → Open kinds r i → length (after kinds a).commas ≤ d
  unfolding Kept
  kept-cut i d r le lt h f ih w (none j bi z) = absurd (omega arith)
  kept-cut i d r le lt h f ih (inl e) (since j o lo ho bo bi z) = absurd (not_own i j le lt (h ∙ ap quote_kind e) (ap (λ (x : Quote). before x kinds i) (sym e) ∙ bi))
  kept-cut i d r le lt h f ih (inr e) (since j o lo ho bo bi z) =
      let of = ap quote_kind e in
      let l = not-before i j o le lt (h ∙ of) lo (ho ∙ of) (ap (λ (x : Quote). before x kinds o) (sym e) ∙ bo) (ap (λ (x : Quote). before x kinds i) (sym e) ∙ bi) in
      omega (arith, (ih o (omega arith) (omega arith)).0)

  kept_more : (i : ℕ) → a ≤ i → i < b → ((k : ℕ) → a ≤ k → k ≤ i → Kept k) → Turn kinds i → Kept (suc i)
  unfolding Kept
  kept_more i le lt ih (pushed c e) =
      let l = (after kinds i).commas in
      let w = ih i le (omega arith) in
      rw e (omega (arith, w.0, length-append l (i ∷ [])), take-append-le _ l (i ∷ []) w.0 ∙ w.1)
  kept_more i le lt ih (kept e) = rw e (ih i le (omega arith))
  kept_more i le lt ih (cut r d h f e) =
      let l = (after kinds i).commas in
      let w = ih i le (omega arith) in
      let low = kept-cut i d r le lt h f ih (same-or-other q r) (open_at kinds r i) in
      rw e (omega (arith, w.0, low, length-take d l), take-take _ d l low ∙ w.1)

  kept-below : (i k : ℕ) → a ≤ k → k ≤ i → i ≤ b → Kept k
  kept-below zero k le le' h = let e : a ≡ k = omega arith in subst Kept e kept-first
  kept-below (suc i) k le le' h = go (eq-or-lt_of_le le') (λ k' l l'. kept-below i k' l l' (omega arith))
    where
      last : ((k : ℕ) → a ≤ k → k ≤ i → Kept k) → (a ≡ suc i) ⊎ (a < suc i) → Kept (suc i)
      last ih (inl e) = subst Kept e kept-first
      last ih (inr l) = kept_more i (omega arith) h ih (turn kinds i)

      go : (k ≡ suc i) ⊎ (k < suc i) → ((k : ℕ) → a ≤ k → k ≤ i → Kept k) → Kept k
      go (inl e) ih = subst Kept (sym e) (last ih (eq-or-lt_of_le (omega arith)))
      go (inr l) ih = ih k le (omega arith)

  -- what is noted as the second quote comes is of the first
  noted-first : Open kinds q b → (after kinds b).noted q ≡ stretches (after kinds a)
  noted-first (none j bi z) = absurd (omega (arith, pair.closes.number))
  noted-first (since j o lo ho bo bi z) =
      let e : o ≡ a = nth-same kinds q o a ho pair.opens.holds (omega (arith, pair.opens.number, pair.closes.number)) in
      rw e at z

  rejoined-whole : (after kinds (suc b)).commas ≡ (after kinds a).commas
  unfolding Kept
  rejoined-whole =
      after-second kinds b q (length (after kinds a).commas) pair.closes.holds (noted-first (open_at kinds q b)) ∙ (kept-below b b (omega (arith, first<second)) (omega arith) (omega arith)).1

  -- ---- a comma inside is gone from then on

  module _ (p : ℕ) (inside : Between a b p) where
    Gone : ℕ → Type 0
    Gone i = (j : ℕ) → j < length (after kinds i).commas → get_or (after kinds i).commas j 0 ≡ p → ⊥

    gone-first : Gone (suc b)
    unfolding Gone
    gone-first j lt e =
        let l = (after kinds a).commas in
        let lt' : j < length l = rw rejoined-whole at lt in
        let e' : get_or l j 0 ≡ p = rw rejoined-whole at e in
        omega (arith, (ascending-at 0 l a j (ascends kinds a) lt').1, inside.after_first)

    -- a comma that is put later is another place
    gone-pushed : (i : ℕ) → b < i → Gone i → (j : ℕ) → j < length ((after kinds i).commas ++ (i ∷ [])) → get_or ((after kinds i).commas ++ (i ∷ [])) j 0 ≡ p → ⊥
    unfolding Gone
    gone-pushed i lt ih j l f = go (dec_lt j (length (after kinds i).commas))
      where
        go : Dec (j < length (after kinds i).commas) → ⊥
        go (yes y) = ih j y (sym (get_or-append (after kinds i).commas (i ∷ []) 0 j y) ∙ f)
        go (no y) =
            let e : j ≡ length (after kinds i).commas = omega (arith, l, length-append (after kinds i).commas (i ∷ [])) in
            let f' : get_or ((after kinds i).commas ++ (i ∷ [])) (length (after kinds i).commas) 0 ≡ p = rw e at f in
            omega (arith, sym (get_or-append_seam (after kinds i).commas i [] 0) ∙ f', inside.before_second)

    gone-more : (i : ℕ) → b < i → Gone i → Turn kinds i → Gone (suc i)
    unfolding Gone
    gone-more i lt ih (pushed c e) = rw e (gone-pushed i lt ih)
    gone-more i lt ih (kept e) = rw e ih
    gone-more i lt ih (cut r d h g e) =
        let l = (after kinds i).commas in
        rw e (λ j lt' f. ih j (omega (arith, length-take d l)) (sym (get_or-take d l j 0 (omega (arith, length-take d l))) ∙ f))

    gone-after : (i : ℕ) → b < i → Gone i
    gone-after zero lt = absurd (omega arith)
    gone-after (suc i) lt = go (eq-or-lt_of_le lt) (gone-after i)
      where
        go : (suc b ≡ suc i) ⊎ (suc b < suc i) → (b < i → Gone i) → Gone (suc i)
        go (inl e) ih = subst Gone e gone-first
        go (inr l) ih = gone-more i (omega arith) (ih (omega arith)) (turn kinds i)

    pub gone : (i : ℕ) → b < i → (j : ℕ) → j < length (after kinds i).commas → get_or (after kinds i).commas j 0 ≡ p → ⊥
    unfolding Gone
    gone i lt = gone-after i lt
