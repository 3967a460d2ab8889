-- What `find_delimiters` holds at the heads of its two loops, in terms of the definition, and that each turn keeps it. It holds because the code's
-- first numbers of the slice are the definition's commas, and to rejoin is to leave out the last of them.
use Prim.Native.Nat.{ℕ, zero, suc, ◌+◌, ◌-◌, ◌≤◌, ◌<◌}
use native.Mathlib.Omega.{arith}
use native.Mathlib.Numerals.{add-one}
use mathlib.Core.Path.{◌≡◌, refl, sym, ap, subst, ◌∙◌}
use mathlib.Core.List.{List, [], ◌∷◌, ◌++◌}
use mathlib.Core.Logic.{◌⊎◌}
use lib.ListN.{length, take, set, length-set}
use lib.Seq.{take_all, take-take, length-take-le, take-suc-set}
use borrow.Author.Tests.{eq-eqb, ne_eqb}
use borrow.Author.Count.{below_more}
use Rattle.std.specs.Prelude.{Option, None, Some, min}
use Rattle.std.proofs.Math.Nat.{min-eq_left, min-eq_right}
use Rattle.std.proofs.lemmas.List.{length-take}
use Rattle.std.proofs.Math.Decide.{dec_lt}
use Rattle.token.specs.Kind.{close_bracket, comma, double_quote, single_quote, kind_at}
use Rattle.delimiters.specs.Count.{counted, Quote, double, single, quote_kind}
use Rattle.delimiters.specs.Delimit.{State, stretches, start, at_comma, put, note, at_quote, after, dividing, rejoined}
use Rattle.delimiters.specs.Noted.{Noted, AtQuote}
use Rattle.delimiters.specs.Stored.{stored_after, stored}
use Rattle.delimiters.specs.Outcome.{Outcome}
use Rattle.delimiters.proofs.CountLaws.{count-is}
use Rattle.delimiters.proofs.StepLaws.{other_quote, rejoined-commas, rejoined-noted, rejoined-count, comma-apart, after-comma, after-quote, after-other}

-- the code's two notes, by the kind of quote
abbrev pub notes : (d s : Option ℕ) → Quote → Option ℕ
notes d s double = d
notes d s single = s

-- at the head of the token loop, i tokens counted: n stretches are there, and b were rejoined
pub record Going (kinds lent cs : List ℕ) (n b : ℕ) (d s : Option ℕ) (i : ℕ) : Type 0 where
  pub some : 0 < n
  pub few : b + n ≤ suc i
  pub back : b ≡ (after kinds i).rejoined
  pub places : take (n - 1) cs ≡ (after kinds i).commas
  pub noted : (q : Quote) → Noted (notes d s q) ((after kinds i).noted q)
  pub none_closes : (p : ℕ) → p < i → kind_at kinds p ≡ close_bracket → ⊥
  pub long : length cs ≡ length lent
  pub slice : cs ≡ stored_after kinds lent i

pub going_start : (kinds lent : List ℕ) → Going kinds lent lent 1 0 None None 0
unfolding after start stored_after
going_start kinds lent =
    record {
      some = omega arith;
      few = omega arith;
      back = refl;
      places = refl;
      noted = zeros;
      none_closes = λ p h e. omega arith;
      long = refl;
      slice = refl;
    }
  where
    zeros : (q : Quote) → Noted (notes None None q) 0
    zeros double = refl
    zeros single = refl

-- the token loop looks at the first n tokens
pub within : (n i : ℕ) (kinds : List ℕ) → i < length (take n kinds) → (i < n) × (i < length kinds)
within n i kinds lt =
    let e = length-take n kinds in
    (omega arith, omega arith)

-- how many of n stretches are left once no more than `remain` are to; all, where none has to go
abbrev pub left_of : (n : ℕ) → (remain : Option ℕ) → ℕ
left_of n None = n
left_of n (Some r) = min n r

-- how many were rejoined then, of b before
abbrev pub back_of : (n b : ℕ) → (remain : Option ℕ) → ℕ
back_of n b None = b
back_of n b (Some r) = b + (n - r)

-- where the arms of the code's match have met
pub going-moved : {kinds lent : List ℕ} (i b : ℕ) {cs cs' : List ℕ} {n n' : ℕ} {remain remain' d d' s s' : Option ℕ} → cs ≡ cs' → n ≡ n' → remain ≡ remain' → d ≡ d' → s ≡ s'
    → Going kinds lent cs' (left_of n' remain') (back_of n' b remain') d' s' (i + 1) → Going kinds lent cs (left_of n remain) (back_of n b remain) d s (i + 1)
going-moved {kinds} {lent} i b e₁ e₂ e₃ e₄ e₅ w = rw (e₁, e₂, e₃, e₄, e₅) w

pub going-all : {kinds lent cs : List ℕ} (n b i : ℕ) {remain d s : Option ℕ} → remain ≡ None → Going kinds lent cs (left_of n remain) (back_of n b remain) d s i → Going kinds lent cs n b d s i
going-all {kinds} {lent} {cs} n b i {remain} {d} {s} e w = subst (λ (x : Option ℕ). Going kinds lent cs (left_of n x) (back_of n b x) d s i) e w

pub going-few : {kinds lent cs : List ℕ} (n b r i : ℕ) {remain d s : Option ℕ} → remain ≡ Some r → Going kinds lent cs (left_of n remain) (back_of n b remain) d s i → Going kinds lent cs (min n r) (b + (n - r)) d s i
going-few {kinds} {lent} {cs} n b r i {remain} {d} {s} e w = subst (λ (x : Option ℕ). Going kinds lent cs (left_of n x) (back_of n b x) d s i) e w

-- a turn of the loop that rejoins: one stretch fewer is there, and one more was rejoined
pub going-back : {kinds lent cs : List ℕ} (n b r i : ℕ) {d s : Option ℕ} → r < n → Going kinds lent cs (min n r) (b + (n - r)) d s i → Going kinds lent cs (min (n - 1) r) (b + 1 + (n - 1 - r)) d s i
going-back {kinds} {lent} {cs} n b r i {d} {s} lt w =
    let e : min (n - 1) r ≡ min n r = min-eq_right (omega arith) ∙ sym (min-eq_right (omega arith)) in
    let f : b + 1 + (n - 1 - r) ≡ b + (n - r) = omega arith in
    rw (e, f) w

-- what is noted once the definition's step has put m for the kind q
noted-put : (q r : Quote) (m : ℕ) (g : Quote → Option ℕ) (f : Quote → ℕ) → Noted (g q) m → Noted (g (other_quote q)) (f (other_quote q)) → Noted (g r) (put q m f r)
noted-put double double m g f h k = h
noted-put double single m g f h k = k
noted-put single double m g f h k = k
noted-put single single m g f h k = h

module _ {kinds lent cs : List ℕ} {n b : ℕ} {d s : Option ℕ} {i : ℕ} (v : Going kinds lent cs n b d s i) (big : length kinds ≤ length lent) (lt : i < length kinds) where
  long : length (after kinds i).commas ≡ n - 1
  long = ap length (sym v.places) ∙ length-take-le (n - 1) cs (omega (arith, v.few, v.long))

  closes-none : (kind_at kinds i ≡ close_bracket → ⊥) → (p : ℕ) → p < suc i → kind_at kinds p ≡ close_bracket → ⊥
  closes-none shut = rw (← add-one i) (below_more _ i v.none_closes shut)

  stores-none : (kind_at kinds i ≡ comma → ⊥) → cs ≡ stored_after kinds lent (suc i)
  unfolding stored_after
  stores-none h = rw (ne_eqb (kind_at kinds i) comma h) v.slice

  stores-comma : kind_at kinds i ≡ comma → set cs (n - 1) i ≡ stored_after kinds lent (suc i)
  unfolding stored_after
  stores-comma h = rw (eq-eqb (kind_at kinds i) comma h, long, ← v.slice)

  -- a comma is stored behind the others
  comma-places : take (n + 1 - 1) (set cs (n - 1) i) ≡ (after kinds i).commas ++ (i ∷ [])
  comma-places =
      let e : n + 1 - 1 ≡ suc (n - 1) = omega (arith, v.some) in
      rw e (take-suc-set cs (n - 1) i (omega (arith, v.few, v.long)) ∙ ap (λ (l : List ℕ). l ++ (i ∷ [])) v.places)

  pub going-comma : kind_at kinds i ≡ comma → Going kinds lent (set cs (n - 1) i) (n + 1) b d s (i + 1)
  unfolding at_comma
  going-comma e =
      let t = after-comma kinds i e in
      rw (add-one i) (record {
        some = omega arith;
        few = omega (arith, v.few);
        back = v.back ∙ ap (λ (x : State). x.rejoined) (sym t);
        places = comma-places ∙ ap (λ (x : State). x.commas) (sym t);
        noted = λ q. rw t (v.noted q);
        none_closes = closes-none (λ f. omega arith);
        long = length-set cs (n - 1) i ∙ v.long;
        slice = stores-comma e;
      })

  quote-no-comma : (q : Quote) → kind_at kinds i ≡ quote_kind q → kind_at kinds i ≡ comma → ⊥
  quote-no-comma q e f = comma-apart q (sym f ∙ e)

  quote-shut : (q : Quote) → kind_at kinds i ≡ quote_kind q → kind_at kinds i ≡ close_bracket → ⊥
  quote-shut double e f = omega arith
  quote-shut single e f = omega arith

  -- what is left of the stretches after a second quote, whose first noted k + 1
  second-places : (k : ℕ) → take (min n (suc k) - 1) cs ≡ take k (after kinds i).commas
  second-places k = go (dec_lt k n)
    where
      go : Dec (k < n) → take (min n (suc k) - 1) cs ≡ take k (after kinds i).commas
      go (yes h) =
          let e : min n (suc k) ≡ suc k = min-eq_right (omega arith) in
          let f : suc k - 1 ≡ k = omega arith in
          rw (e, f) (sym (take-take k (n - 1) cs (omega arith)) ∙ ap (take k) v.places)
      go (no h) =
          let e : min n (suc k) ≡ n = min-eq_left (omega arith) in
          rw e (v.places ∙ sym (take_all k (after kinds i).commas (omega (arith, long))))

  second-back : (k : ℕ) → b + (n - suc k) ≡ (after kinds i).rejoined + (stretches (after kinds i) - suc k)
  second-back k = omega (arith, v.back, v.some, long)

  quote-by : (q : Quote) (o left : Option ℕ) (m : ℕ) (remain d' s' : Option ℕ) → kind_at kinds i ≡ quote_kind q → Noted o m → (after kinds i).noted q ≡ m → AtQuote o n left remain → notes d' s' q ≡ left → notes d' s' (other_quote q) ≡ notes d s (other_quote q) → Going kinds lent cs (left_of n remain) (back_of n b remain) d' s' (suc i)
  unfolding at_quote note
  quote-by q None left m remain d' s' e w f g h₁ h₂ =
      let t = after-quote kinds i q 0 e (f ∙ w) in
      let l : suc (length (after kinds i).commas) ≡ n = omega (arith, long, v.some) in
      rw g.1 (record {
        some = v.some;
        few = omega (arith, v.few);
        back = v.back ∙ ap (λ (y : State). y.rejoined) (sym t);
        places = v.places ∙ ap (λ (y : State). y.commas) (sym t);
        noted = λ r. rw t (noted-put q r _ (notes d' s') (after kinds i).noted (rw (h₁, g.0, l) (v.some, refl)) (rw h₂ (v.noted (other_quote q))));
        none_closes = closes-none (quote-shut q e);
        long = v.long;
        slice = stores-none (quote-no-comma q e);
      })
  quote-by q (Some zero) left m remain d' s' e w f g h₁ h₂ = absurd (omega (arith, w.0))
  quote-by q (Some (suc k)) left m remain d' s' e w f g h₁ h₂ =
      let a = after kinds i in
      let t = after-quote kinds i q (suc k) e (f ∙ w.1) in
      rw g.1 (record {
        some = omega (arith, v.some);
        few = omega (arith, v.few);
        back = second-back k ∙ sym (rejoined-count (suc k) a) ∙ ap (λ (y : State). y.rejoined) (sym t);
        places = (second-places k ∙ sym (rejoined-commas k a) ∙ ap (λ (y : State). y.commas) (sym t));
        noted = λ r. rw (t, rejoined-noted (suc k) a) (noted-put q r 0 (notes d' s') a.noted (rw (h₁, g.0) refl) (rw h₂ (v.noted (other_quote q))));
        none_closes = closes-none (quote-shut q e);
        long = v.long;
        slice = stores-none (quote-no-comma q e);
      })

  pub going-double : {left : Option ℕ} (remain : Option ℕ) → kind_at kinds i ≡ double_quote → AtQuote d n left remain → Going kinds lent cs (left_of n remain) (back_of n b remain) left s (i + 1)
  going-double {left} remain e g = rw (add-one i) (quote-by double d left _ remain left s e (v.noted double) refl g refl refl)

  pub going-single : {left : Option ℕ} (remain : Option ℕ) → kind_at kinds i ≡ single_quote → AtQuote s n left remain → Going kinds lent cs (left_of n remain) (back_of n b remain) d left (i + 1)
  going-single {left} remain e g = rw (add-one i) (quote-by single s left _ remain d left e (v.noted single) refl g refl refl)

  -- any other token changes nothing
  pub going-other : (kind_at kinds i ≡ close_bracket → ⊥) → (kind_at kinds i ≡ comma → ⊥) → (kind_at kinds i ≡ double_quote → ⊥) → (kind_at kinds i ≡ single_quote → ⊥) → Going kinds lent cs n b d s (i + 1)
  going-other a b c e =
      let t = after-other kinds i b no-quote in
      rw (add-one i) (record {
        some = v.some;
        few = omega (arith, v.few);
        back = v.back ∙ ap (λ (x : State). x.rejoined) (sym t);
        places = v.places ∙ ap (λ (x : State). x.commas) (sym t);
        noted = λ q. rw t (v.noted q);
        none_closes = closes-none a;
        long = v.long;
        slice = stores-none b;
      })
    where
      no-quote : (q : Quote) → kind_at kinds i ≡ quote_kind q → ⊥
      no-quote double = c
      no-quote single = e

-- ---- as the loop is left: what the contract says

pub found : (kinds lent cs : List ℕ) (n b : ℕ) (d s : Option ℕ) (i : ℕ) → Going kinds lent cs n b d s i → length kinds ≤ length lent → i ≤ length kinds - 1 → (i ≡ length kinds - 1) ⊎ (kind_at kinds i ≡ close_bracket) → Outcome kinds lent (record { counted = i; commas = n - 1; rejoined = b }) cs
unfolding dividing rejoined stored
found kinds lent cs n b d s i v big within ends =
    let e : counted kinds ≡ i = count-is kinds i (record { within = within; none_closes = v.none_closes; ends = ends }) in
    let places : take (n - 1) cs ≡ (after kinds (counted kinds)).commas = rw e v.places in
    record {
      count = sym e;
      number = sym (length-take-le (n - 1) cs (omega (arith, v.few, v.long))) ∙ ap length places;
      back = v.back ∙ ap (λ (m : ℕ). (after kinds m).rejoined) (sym e);
      places = places;
      slice = rw e v.slice;
      few = omega (arith, v.few);
      within = within;
    }
