-- Laws of the stretches as the count goes: what one token does to the commas between them, to how many were rejoined and to what is noted.
use Prim.Native.Nat.{ℕ, zero, suc, ◌+◌, ◌-◌, ◌*◌, ◌≤◌, ◌<◌}
use Rattle.std.proofs.Common.{arith, sym, ◌∙◌, inl, inr, take_all, take-take, length-take-le, eqb-true, ne_eqb, eq-eqb, lt-ltb, le-ltb}
use Rattle.std.proofs.Math.Decide.{dec_lt}
use Rattle.std.specs.Prelude.{Bool, true, false, cond, ◌≡◌, List, [], ◌∷◌, ◌++◌, ◌⊎◌, eqb, ltb, length, take}
use Rattle.std.proofs.Math.Path.{refl, ap}
use Rattle.std.proofs.Math.ListN.{length-take}
use Rattle.std.proofs.lemmas.Bool.{eqb-false}
use Rattle.token.specs.Kind.{comma, double_quote, single_quote, kind_at}
use Rattle.delimiters.specs.Count.{Quote, double, single, quote_kind}
use Rattle.delimiters.specs.Delimit.{State, stretches, start, at_comma, rejoin, rejoin_times, rejoin_to, put, note, at_quote, step, after}
use Rattle.delimiters.specs.Pairs.{before}

-- ---- rejoining leaves the first commas

rejoined-times : (n : ℕ) (s : State) → (rejoin_times n s).commas ≡ take (length s.commas - n) s.commas
unfolding rejoin_times rejoin
rejoined-times zero s = sym (take_all (length s.commas - 0) s.commas (omega arith))
rejoined-times (suc n) s =
    let l = s.commas in
    let e : length (take (length l - 1) l) - n ≡ length l - suc n = omega (arith, length-take-le (length l - 1) l (omega arith)) in
    rejoined-times n (rejoin s) ∙ rw e (take-take (length l - suc n) (length l - 1) l (omega arith))

noted-times : (n : ℕ) (s : State) → (rejoin_times n s).noted ≡ s.noted
unfolding rejoin_times rejoin
noted-times zero s = refl
noted-times (suc n) s = noted-times n (rejoin s)

pub rejoined-commas : (d : ℕ) (s : State) → (rejoin_to (suc d) s).commas ≡ take d s.commas
unfolding rejoin_to
rejoined-commas d s = rejoined-times (stretches s - suc d) s ∙ go (dec_lt d (length s.commas))
  where
    go : Dec (d < length s.commas) → take (length s.commas - (stretches s - suc d)) s.commas ≡ take d s.commas
    go (yes h) = let e : length s.commas - (stretches s - suc d) ≡ d = omega arith in rw e
    go (no h) = take_all (length s.commas - (stretches s - suc d)) s.commas (omega arith) ∙ sym (take_all d s.commas (omega arith))

pub rejoined-noted : (n : ℕ) (s : State) → (rejoin_to n s).noted ≡ s.noted
unfolding rejoin_to
rejoined-noted n s = noted-times (stretches s - n) s

-- one for each stretch more than n
counted-times : (n : ℕ) (s : State) → (rejoin_times n s).rejoined ≡ s.rejoined + n
unfolding rejoin_times rejoin
counted-times zero s = omega arith
counted-times (suc n) s = omega (arith, counted-times n (rejoin s))

pub rejoined-count : (n : ℕ) (s : State) → (rejoin_to n s).rejoined ≡ s.rejoined + (stretches s - n)
unfolding rejoin_to
rejoined-count n s = counted-times (stretches s - n) s

one_fewer : (n : ℕ) (s : State) → 0 < n → n < stretches s → stretches s - n ≡ suc (stretches (rejoin s) - n)
unfolding rejoin
one_fewer n s some h = omega (arith, length-take-le (length s.commas - 1) s.commas (omega arith))

-- the rule as it is said: rejoin, and again, while more than the noted number remain
pub rejoin-while : (n : ℕ) (s : State) → 0 < n → rejoin_to n s ≡ cond (ltb n (stretches s)) (rejoin_to n (rejoin s)) s
unfolding rejoin_to rejoin_times
rejoin-while n s some = go (dec_lt n (stretches s))
  where
    go : Dec (n < stretches s) → rejoin_times (stretches s - n) s ≡ cond (ltb n (stretches s)) (rejoin_times (stretches (rejoin s) - n) (rejoin s)) s
    go (yes h) = rw (lt-ltb n (stretches s) h, one_fewer n s some h)
    go (no h) = let e : stretches s - n ≡ 0 = omega arith in rw (le-ltb n (stretches s) (omega arith), e)

-- ---- what a quote does to the commas: it takes some back or none, and each of these is a rejoining

pub quote-fewer : (q : Quote) (n : ℕ) (s : State) → length (at_quote q n s).commas ≤ length s.commas
unfolding at_quote note
quote-fewer q zero s = omega arith
quote-fewer q (suc d) s = omega (arith, ap length (rejoined-commas d s), length-take d s.commas)

pub quote-back : (q : Quote) (n : ℕ) (s : State) → (at_quote q n s).rejoined ≡ s.rejoined + (length s.commas - length (at_quote q n s).commas)
unfolding at_quote note
quote-back q zero s = omega arith
quote-back q (suc d) s = omega (arith, rejoined-count (suc d) s, ap length (rejoined-commas d s), length-take d s.commas)

-- ---- the two kinds of quote

-- the other kind
abbrev pub other_quote : Quote → Quote
other_quote double = single
other_quote single = double

pub same-or-other : (q r : Quote) → (r ≡ q) ⊎ (r ≡ other_quote q)
same-or-other double double = inl refl
same-or-other double single = inr refl
same-or-other single double = inr refl
same-or-other single single = inl refl

pub quotes-apart : (q : Quote) → quote_kind (other_quote q) ≡ quote_kind q → ⊥
quotes-apart double e = omega arith
quotes-apart single e = omega arith

pub comma-apart : (q : Quote) → comma ≡ quote_kind q → ⊥
comma-apart double e = omega arith
comma-apart single e = omega arith

put_same : (q : Quote) (n : ℕ) (f : Quote → ℕ) → put q n f q ≡ n
put_same double n f = refl
put_same single n f = refl

put_other : (q : Quote) (n : ℕ) (f : Quote → ℕ) → put (other_quote q) n f q ≡ f q
put_other double n f = refl
put_other single n f = refl

-- ---- a token is a comma, a quote or neither

pub data Seen (k : ℕ) : Type 0 where
  is-comma : k ≡ comma → Seen k
  is-quote : (q : Quote) → k ≡ quote_kind q → Seen k
  is-other : (k ≡ comma → ⊥) → ((q : Quote) → k ≡ quote_kind q → ⊥) → Seen k

seen_by : (k : ℕ) (a b c : Bool) → eqb k comma ≡ a → eqb k double_quote ≡ b → eqb k single_quote ≡ c → Seen k
seen_by k true b c e f g = is-comma (eqb-true k comma e)
seen_by k false true c e f g = is-quote double (eqb-true k double_quote f)
seen_by k false false true e f g = is-quote single (eqb-true k single_quote g)
seen_by k false false false e f g = is-other (eqb-false k comma e) none
  where
    none : (q : Quote) → k ≡ quote_kind q → ⊥
    none double = eqb-false k double_quote f
    none single = eqb-false k single_quote g

pub seen : (k : ℕ) → Seen k
seen k = seen_by k (eqb k comma) (eqb k double_quote) (eqb k single_quote) refl refl refl

pub step-comma : (i k : ℕ) (s : State) → k ≡ comma → step i k s ≡ at_comma i s
unfolding step
step-comma i k s e = rw e

pub step-quote : (i k : ℕ) (s : State) (q : Quote) → k ≡ quote_kind q → step i k s ≡ at_quote q (s.noted q) s
unfolding step
step-quote i k s double e = rw e
step-quote i k s single e = rw e

pub step_other : (i k : ℕ) (s : State) → (k ≡ comma → ⊥) → ((q : Quote) → k ≡ quote_kind q → ⊥) → step i k s ≡ s
unfolding step
step_other i k s h f = rw (ne_eqb k comma h, ne_eqb k double_quote (f double), ne_eqb k single_quote (f single))

-- ---- what the token at place i does

module _ (kinds : List ℕ) where
  pub after-comma : (i : ℕ) → kind_at kinds i ≡ comma → after kinds (suc i) ≡ at_comma i (after kinds i)
  unfolding after
  after-comma i e = step-comma i (kind_at kinds i) (after kinds i) e

  pub after-quote : (i : ℕ) (q : Quote) (n : ℕ) → kind_at kinds i ≡ quote_kind q → (after kinds i).noted q ≡ n → after kinds (suc i) ≡ at_quote q n (after kinds i)
  unfolding after
  after-quote i q n e f = step-quote i (kind_at kinds i) (after kinds i) q e ∙ ap (λ (x : ℕ). at_quote q x (after kinds i)) f

  pub after-other : (i : ℕ) → (kind_at kinds i ≡ comma → ⊥) → ((q : Quote) → kind_at kinds i ≡ quote_kind q → ⊥) → after kinds (suc i) ≡ after kinds i
  unfolding after
  after-other i h f = step_other i (kind_at kinds i) (after kinds i) h f

  -- a second quote leaves as many commas as its first noted, less one
  pub after-second : (i : ℕ) (q : Quote) (d : ℕ) → kind_at kinds i ≡ quote_kind q → (after kinds i).noted q ≡ suc d → (after kinds (suc i)).commas ≡ take d (after kinds i).commas
  unfolding at_quote note
  after-second i q d e f = ap (λ (s : State). s.commas) (after-quote i q (suc d) e f) ∙ rejoined-commas d (after kinds i)

  -- what it does to the commas
  pub data Turn (i : ℕ) : Type 0 where
    pushed : kind_at kinds i ≡ comma → (after kinds (suc i)).commas ≡ (after kinds i).commas ++ (i ∷ []) → Turn i
    kept : (after kinds (suc i)).commas ≡ (after kinds i).commas → Turn i
    cut : (q : Quote) (d : ℕ) → kind_at kinds i ≡ quote_kind q → (after kinds i).noted q ≡ suc d → (after kinds (suc i)).commas ≡ take d (after kinds i).commas → Turn i

  turn-quote : (i : ℕ) (q : Quote) (n : ℕ) → kind_at kinds i ≡ quote_kind q → (after kinds i).noted q ≡ n → Turn i
  unfolding at_quote note
  turn-quote i q zero e f = kept (ap (λ (s : State). s.commas) (after-quote i q zero e f))
  turn-quote i q (suc d) e f = cut q d e f (after-second i q d e f)

  turn_by : (i : ℕ) → Seen (kind_at kinds i) → Turn i
  unfolding at_comma
  turn_by i (is-comma e) = pushed e (ap (λ (s : State). s.commas) (after-comma i e))
  turn_by i (is-quote q e) = turn-quote i q ((after kinds i).noted q) e refl
  turn_by i (is-other h f) = kept (ap (λ (s : State). s.commas) (after-other i h f))

  pub turn : (i : ℕ) → Turn i
  turn i = turn_by i (seen (kind_at kinds i))

  -- what it does to the number of quotes of a kind, and to what is noted of it
  pub data Own (q : Quote) (i : ℕ) : Type 0 where
    quiet : before q kinds (suc i) ≡ before q kinds i → (after kinds (suc i)).noted q ≡ (after kinds i).noted q → Own q i
    opened : kind_at kinds i ≡ quote_kind q → before q kinds (suc i) ≡ suc (before q kinds i) → (after kinds i).noted q ≡ 0 → (after kinds (suc i)).noted q ≡ stretches (after kinds i) → Own q i
    closed : (d : ℕ) → kind_at kinds i ≡ quote_kind q → before q kinds (suc i) ≡ suc (before q kinds i) → (after kinds i).noted q ≡ suc d → (after kinds (suc i)).noted q ≡ 0 → Own q i

  pub before-one : (q : Quote) (i : ℕ) → kind_at kinds i ≡ quote_kind q → before q kinds (suc i) ≡ suc (before q kinds i)
  unfolding before
  before-one q i e = rw (eq-eqb (kind_at kinds i) (quote_kind q) e)

  pub before-none : (q : Quote) (i : ℕ) → (kind_at kinds i ≡ quote_kind q → ⊥) → before q kinds (suc i) ≡ before q kinds i
  unfolding before
  before-none q i h = rw (ne_eqb (kind_at kinds i) (quote_kind q) h)

  own_same : (q : Quote) (i n : ℕ) → kind_at kinds i ≡ quote_kind q → (after kinds i).noted q ≡ n → Own q i
  unfolding at_quote note
  own_same q i zero e f = opened e (before-one q i e) f (ap (λ (s : State). s.noted q) (after-quote i q zero e f) ∙ put_same q _ _)
  own_same q i (suc d) e f = closed d e (before-one q i e) f (ap (λ (s : State). s.noted q) (after-quote i q (suc d) e f) ∙ put_same q _ _)

  own-other : (q : Quote) (i n : ℕ) → kind_at kinds i ≡ quote_kind (other_quote q) → (after kinds i).noted (other_quote q) ≡ n → Own q i
  unfolding at_quote note
  own-other q i zero e f =
      quiet (before-none q i (λ g. quotes-apart q (sym e ∙ g))) (ap (λ (s : State). s.noted q) (after-quote i (other_quote q) zero e f) ∙ put_other q _ _)
  own-other q i (suc d) e f =
      quiet (before-none q i (λ g. quotes-apart q (sym e ∙ g)))
      (ap (λ (s : State). s.noted q) (after-quote i (other_quote q) (suc d) e f) ∙ put_other q _ _ ∙ ap (λ (g : Quote → ℕ). g q) (rejoined-noted (suc d) (after kinds i)))

  own-by : (q : Quote) (i : ℕ) → Seen (kind_at kinds i) → Own q i
  unfolding at_comma
  own-by q i (is-comma e) = quiet (before-none q i (λ g. comma-apart q (sym e ∙ g))) (ap (λ (s : State). s.noted q) (after-comma i e))
  own-by q i (is-other h f) = quiet (before-none q i (f q)) (ap (λ (s : State). s.noted q) (after-other i h f))
  own-by q i (is-quote r e) = go (same-or-other q r)
    where
      go : (r ≡ q) ⊎ (r ≡ other_quote q) → Own q i
      go (inl f) = own_same q i ((after kinds i).noted q) (e ∙ ap quote_kind f) refl
      go (inr f) = own-other q i ((after kinds i).noted (other_quote q)) (e ∙ ap quote_kind f) refl

  own : (q : Quote) (i : ℕ) → Own q i
  own q i = own-by q i (seen (kind_at kinds i))

  -- ---- something is noted of a kind exactly where its last quote is a first one: the stretches that there were at it

  pub data Open (q : Quote) (i : ℕ) : Type 0 where
    none : (j : ℕ) → before q kinds i ≡ 2 * j → (after kinds i).noted q ≡ 0 → Open q i
    since : (j a : ℕ) → a < i → kind_at kinds a ≡ quote_kind q → before q kinds a ≡ 2 * j → before q kinds i ≡ 2 * j + 1 → (after kinds i).noted q ≡ stretches (after kinds a) → Open q i

  open_more : (q : Quote) (i : ℕ) → Open q i → Own q i → Open q (suc i)
  open_more q i (none j b z) (quiet e f) = none j (e ∙ b) (f ∙ z)
  open_more q i (none j b z) (opened h e f g) = since j i (omega arith) h b (omega arith) g
  open_more q i (none j b z) (closed d h e f g) = absurd (omega arith)
  open_more q i (since j a lt h b c z) (quiet e f) = since j a (omega arith) h b (e ∙ c) (f ∙ z)
  open_more q i (since j a lt h b c z) (opened h' e f g) = absurd (omega arith)
  open_more q i (since j a lt h b c z) (closed d h' e f g) = none (suc j) (omega arith) g

  pub open_at : (q : Quote) (i : ℕ) → Open q i
  unfolding after start before
  open_at q zero = none 0 refl refl
  open_at q (suc i) = open_more q i (open_at q i) (own q i)
