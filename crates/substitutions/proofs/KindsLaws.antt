-- Laws of tests and sums over the kinds, and of a kind's flag in a flag byte. The facts about flags are computed over all
-- bytes below 128 and all pairs of kinds.
use Rattle.std.specs.Prelude.{ℕ, zero, suc, ◌+◌, ◌-◌, ◌≤◌, ◌<◌, ◌≡◌, refl, Bool, true, false, cond, ◌&&◌, eqb, leb, ltb, Result, Ok, Err}
use Rattle.std.proofs.Common.{sym, ap, ◌∙◌, arith}
use Rattle.std.proofs.lemmas.Bool.{false≢true}
use borrow.Author.Tests.{eqb-true, eqb-false, leb-true, ltb-true, ne_eqb, lt-leb}
use Rattle.substitutions.specs.declared.Subs.{Subs}
use Rattle.substitutions.specs.declared.NotAKind.{NotAKind}
use Rattle.substitutions.specs.declared.Subs.TheVariants.{SpecialChars, InlineFormatting, AttrRefs, CharReplacement, Macros, PostReplacement, Callouts}
use Rattle.substitutions.specs.Kinds.{number_of, kind_of, flag_of, flagged, one, each, sum}
use Rattle.substitutions.specs.Loops.{few}

-- A kind's number names it, and a number names no other kind.
pub kind-numbered : (sub : Subs) → kind_of (number_of sub) ≡ Ok sub
unfolding kind_of
kind-numbered SpecialChars = refl
kind-numbered InlineFormatting = refl
kind-numbered AttrRefs = refl
kind-numbered CharReplacement = refl
kind-numbered Macros = refl
kind-numbered PostReplacement = refl
kind-numbered Callouts = refl

pub no_kind : (n : ℕ) → (n ≡ 1 → ⊥) → (n ≡ 2 → ⊥) → (n ≡ 3 → ⊥) → (n ≡ 4 → ⊥) → (n ≡ 5 → ⊥) → (n ≡ 6 → ⊥) → (n ≡ 7 → ⊥) → Err (record { 0 = n }) ≡ kind_of n
unfolding kind_of
no_kind n n1 n2 n3 n4 n5 n6 n7 =
    rw (ne_eqb n 1 n1, ne_eqb n 2 n2, ne_eqb n 3 n3, ne_eqb n 4 n4, ne_eqb n 5 n5, ne_eqb n 6 n6, ne_eqb n 7 n7)

-- A kind's number is one of 1 to 7.
pub number-low : (sub : Subs) → 1 ≤ number_of sub
number-low SpecialChars = omega arith
number-low InlineFormatting = omega arith
number-low AttrRefs = omega arith
number-low CharReplacement = omega arith
number-low Macros = omega arith
number-low PostReplacement = omega arith
number-low Callouts = omega arith

pub number-high : (sub : Subs) → number_of sub ≤ 7
number-high SpecialChars = omega arith
number-high InlineFormatting = omega arith
number-high AttrRefs = omega arith
number-high CharReplacement = omega arith
number-high Macros = omega arith
number-high PostReplacement = omega arith
number-high Callouts = omega arith

abbrev number_or_0 : Result Subs NotAKind → ℕ
number_or_0 (Ok sub) = number_of sub
number_or_0 (Err x) = 0

-- The kind that a number names has that number, and a number that names none is over 7 or 0.
pub kind-named : (n : ℕ) (sub : Subs) → kind_of n ≡ Ok sub → n ≡ number_of sub
unfolding kind_of
kind-named zero sub e = let h : 0 ≡ number_of sub = ap number_or_0 e in absurd (omega (arith, number-low sub, h))
kind-named (suc zero) sub e = ap number_or_0 e
kind-named (suc (suc zero)) sub e = ap number_or_0 e
kind-named (suc (suc (suc zero))) sub e = ap number_or_0 e
kind-named (suc (suc (suc (suc zero)))) sub e = ap number_or_0 e
kind-named (suc (suc (suc (suc (suc zero))))) sub e = ap number_or_0 e
kind-named (suc (suc (suc (suc (suc (suc zero)))))) sub e = ap number_or_0 e
kind-named (suc (suc (suc (suc (suc (suc (suc zero))))))) sub e = ap number_or_0 e
kind-named (suc (suc (suc (suc (suc (suc (suc (suc k)))))))) sub e =
    let none = no_kind (suc (suc (suc (suc (suc (suc (suc (suc k)))))))) (λ q. omega arith) (λ q. omega arith) (λ q. omega arith) (λ q. omega arith) (λ q. omega arith) (λ q. omega arith) (λ q. omega arith) in
    let h : 0 ≡ number_of sub = ap number_or_0 (none ∙ e) in
    absurd (omega (arith, number-low sub, h))

pub kind-none : (n : ℕ) (x : NotAKind) → kind_of n ≡ Err x → (n ≡ 0 → ⊥) → 7 < n
unfolding kind_of
kind-none zero x e z = absurd (z refl)
kind-none (suc zero) x e z = absurd cc
kind-none (suc (suc zero)) x e z = absurd cc
kind-none (suc (suc (suc zero))) x e z = absurd cc
kind-none (suc (suc (suc (suc zero)))) x e z = absurd cc
kind-none (suc (suc (suc (suc (suc zero))))) x e z = absurd cc
kind-none (suc (suc (suc (suc (suc (suc zero)))))) x e z = absurd cc
kind-none (suc (suc (suc (suc (suc (suc (suc zero))))))) x e z = absurd cc
kind-none (suc (suc (suc (suc (suc (suc (suc (suc k)))))))) x e z = omega arith

pub and_left : (a b : Bool) → a && b ≡ true → a ≡ true
and_left true b e = refl
and_left false b e = e

pub and_right : (a b : Bool) → a && b ≡ true → b ≡ true
and_right true b e = e
and_right false b e = absurd (false≢true e)

pub and_both : (a b : Bool) → a ≡ true → b ≡ true → a && b ≡ true
and_both true b p q = q
and_both false b p q = p

pub bool_eq : (s t : Bool) → (s ≡ true → t ≡ true) → (t ≡ true → s ≡ true) → s ≡ t
bool_eq true t f g = sym (f refl)
bool_eq false true f g = g refl
bool_eq false false f g = refl

-- A test of each kind, at one of them; and from every one.
pub each_at : (n : ℕ) (test : ℕ → Bool) → each n test ≡ true → (k : ℕ) → 1 ≤ k → k ≤ n → test k ≡ true
unfolding each
each_at zero test e k a b = absurd (omega arith)
each_at (suc n) test e k a b = by (eqb k (suc n)) refl (λ h. each_at n test (and_right (test (suc n)) (each n test) e) k a h)
  where
    by : (t : Bool) → eqb k (suc n) ≡ t → (k ≤ n → test k ≡ true) → test k ≡ true
    by true q ih = rw (eqb-true k (suc n) q) (and_left (test (suc n)) (each n test) e)
    by false q ih = ih (omega (arith, eqb-false k (suc n) q))

pub each_all : (n : ℕ) (test : ℕ → Bool) → ((k : ℕ) → 1 ≤ k → k ≤ n → test k ≡ true) → each n test ≡ true
unfolding each
each_all zero test h = refl
each_all (suc n) test h =
    and_both (test (suc n)) (each n test) (h (suc n) (omega arith) (omega arith)) (each_all n test (λ k a b. h k a (omega arith)))

-- Sums over the kinds.
pub sum_same : (n : ℕ) (g h : ℕ → ℕ) → ((k : ℕ) → 1 ≤ k → k ≤ n → g k ≡ h k) → sum n g ≡ sum n h
unfolding sum
sum_same zero g h e = refl
sum_same (suc n) g h e = rw (e (suc n) (omega arith) (omega arith), sum_same n g h (λ k a b. e k a (omega arith)))

pub sum-add : (n : ℕ) (g h : ℕ → ℕ) → sum n (λ k. g k + h k) ≡ sum n g + sum n h
unfolding sum
sum-add zero g h = refl
sum-add (suc n) g h = omega (arith, sum-add n g h)

pub sum-few : (n : ℕ) (g : ℕ → ℕ) → ((k : ℕ) → 1 ≤ k → k ≤ n → g k ≤ 1) → sum n g ≤ n
unfolding sum
sum-few zero g h = omega arith
sum-few (suc n) g h = omega (arith, h (suc n) (omega arith) (omega arith), sum-few n g (λ k a b. h k a (omega arith)))

pub one-le : (b : Bool) → one b ≤ 1
one-le true = omega arith
one-le false = omega arith

-- Of the seven kinds one is k.
hits-right : each 7 (λ k. eqb (sum 7 (λ j. one (eqb k j))) 1) ≡ true
unfolding each sum
hits-right = refl

pub sum-hit : (k : ℕ) → 1 ≤ k → k ≤ 7 → sum 7 (λ j. one (eqb k j)) ≡ 1
sum-hit k a b = eqb-true (sum 7 (λ j. one (eqb k j))) 1 (each_at 7 (λ k. eqb (sum 7 (λ j. one (eqb k j))) 1) hits-right k a b)

-- The flag of kind k, as a number.
abbrev pub bit : ℕ → ℕ → ℕ
bit k f = one (flagged k f)

unfoldable below : ℕ → (ℕ → Bool) → Bool
below zero test = true
below (suc n) test = test n && below n test

below_at : (n : ℕ) (test : ℕ → Bool) → below n test ≡ true → (f : ℕ) → f < n → test f ≡ true
unfolding below
below_at zero test e f h = absurd (omega arith)
below_at (suc n) test e f h = by (eqb f n) refl (λ h. below_at n test (and_right (test n) (below n test) e) f h)
  where
    by : (t : Bool) → eqb f n ≡ t → (f < n → test f ≡ true) → test f ≡ true
    by true q ih = rw (eqb-true f n q) (and_left (test n) (below n test) e)
    by false q ih = ih (omega (arith, eqb-false f n q))

-- What a flag does to the others: set where it was clear, cleared where it was set.
unfoldable right : ℕ → ℕ → ℕ → Bool
right f k j =
    cond (flagged k f)
    (eqb (one (eqb k j) + bit j (f - flag_of k)) (bit j f))
    (ltb (f + flag_of k) 128 && eqb (bit j (f + flag_of k)) (one (eqb k j) + bit j f))

flags-right : below 128 (λ f. each 7 (λ k. each 7 (right f k))) ≡ true
unfolding below each right flagged
flags-right = refl

right-at : (f k j : ℕ) → f < 128 → 1 ≤ k → k ≤ 7 → 1 ≤ j → j ≤ 7 → right f k j ≡ true
right-at f k j h a b p q =
    each_at 7 (right f k) (each_at 7 (λ k. each 7 (right f k)) (below_at 128 (λ f. each 7 (λ k. each 7 (right f k))) flags-right f h) k a b) j p q

module _ (f k j : ℕ) (h : f < 128) (a : 1 ≤ k) (b : k ≤ 7) (p : 1 ≤ j) (q : j ≤ 7) where
  pub cleared : flagged k f ≡ true → one (eqb k j) + bit j (f - flag_of k) ≡ bit j f
  unfolding right
  cleared e = eqb-true _ _ (rw e at (right-at f k j h a b p q))

  pub added : flagged k f ≡ false → bit j (f + flag_of k) ≡ one (eqb k j) + bit j f
  unfolding right
  added e = eqb-true _ _ (and_right (ltb (f + flag_of k) 128) _ (rw e at (right-at f k j h a b p q)))

pub added-below : (f k : ℕ) → f < 128 → 1 ≤ k → k ≤ 7 → flagged k f ≡ false → f + flag_of k < 128
unfolding right
added-below f k h a b e = ltb-true _ _ (and_left (ltb (f + flag_of k) 128) _ (rw e at (right-at f k 1 h a b (omega arith) (omega arith))))

-- A flag set where it was clear fits a byte, and one that is set can be taken off: computed over all bytes.
unfoldable fits : ℕ → ℕ → Bool
fits f k = cond (flagged k f) (leb (flag_of k) f) (ltb (f + flag_of k) 256)

fits-right : below 256 (λ f. each 7 (fits f)) ≡ true
unfolding below each fits flagged
fits-right = refl

fits-at : (f k : ℕ) → f < 256 → 1 ≤ k → k ≤ 7 → fits f k ≡ true
fits-at f k h a b = each_at 7 (fits f) (below_at 256 (λ f. each 7 (fits f)) fits-right f h) k a b

pub flag-fits : (f k : ℕ) → f < 256 → 1 ≤ k → k ≤ 7 → flagged k f ≡ false → f + flag_of k < 256
unfolding fits
flag-fits f k h a b e = ltb-true _ _ (rw e at (fits-at f k h a b))

pub flag-within : (f k : ℕ) → f < 256 → 1 ≤ k → k ≤ 7 → flagged k f ≡ true → flag_of k ≤ f
unfolding fits
flag-within f k h a b e = leb-true _ _ (rw e at (fits-at f k h a b))

-- The same of a kind: its flag can be added where it is clear, and taken off where it is set.
pub kind-fits : (f : ℕ) (sub : Subs) → f < 256 → flagged (number_of sub) f ≡ false → f + flag_of (number_of sub) < 256
kind-fits f sub h = flag-fits f (number_of sub) h (number-low sub) (number-high sub)

-- That of a test and a flag that the code has at hand.
pub kind-added : (f w : ℕ) (sub : Subs) (b : Bool) → f < 256 → b ≡ flagged (number_of sub) f → b ≡ false → w ≡ flag_of (number_of sub) → f + w < 256
kind-added f w sub b h e n v = rw v (kind-fits f sub h (sym e ∙ n))

pub kind-within : (f : ℕ) (sub : Subs) → f < 256 → flagged (number_of sub) f ≡ true → flag_of (number_of sub) ≤ f
kind-within f sub h = flag-within f (number_of sub) h (number-low sub) (number-high sub)

abbrev pub flags : ℕ → ℕ
flags f = sum 7 (λ k. bit k f)

unfoldable counts : ℕ → Bool
counts f = cond (few f) (leb (flags f) 1) (leb 2 (flags f)) && cond (eqb f 0) (eqb (flags f) 0) (leb 1 (flags f))

counts-right : below 128 counts ≡ true
unfolding below counts few sum flagged
counts-right = refl

pub few-is : (f : ℕ) → f < 128 → few f ≡ leb (flags f) 1
unfolding counts
few-is f h = by (few f) (flags f) (and_left (cond (few f) (leb (flags f) 1) (leb 2 (flags f))) _ (below_at 128 counts counts-right f h))
  where
    by : (t : Bool) (n : ℕ) → cond t (leb n 1) (leb 2 n) ≡ true → t ≡ leb n 1
    by true n e = sym e
    by false n e = sym (lt-leb n 1 (leb-true 2 n e))

pub none_is : (f : ℕ) → f < 128 → eqb f 0 ≡ eqb (flags f) 0
unfolding counts
none_is f h = by (eqb f 0) (flags f) (and_right (cond (few f) (leb (flags f) 1) (leb 2 (flags f))) _ (below_at 128 counts counts-right f h))
  where
    by : (t : Bool) (n : ℕ) → cond t (eqb n 0) (leb 1 n) ≡ true → t ≡ eqb n 0
    by true n e = sym e
    by false n e = sym (ne_eqb n 0 (λ z. omega (arith, leb-true 1 n e)))
