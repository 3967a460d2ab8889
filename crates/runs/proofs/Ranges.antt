-- The loops that take tokens off the ends of some places, and the run of what is left.
use Prim.Native.Nat.{ℕ, zero, suc, ◌+◌, ◌-◌, ◌≤◌, ◌<◌}
use native.Mathlib.Omega.{arith}
use native.Mathlib.Decide.{dec_lt}
use mathlib.Core.Bool.{Bool, true, false, ◌||◌}
use mathlib.Core.Path.{◌≡◌, refl, sym, ap, subst, ◌∙◌}
use mathlib.Core.List.{List, [], ◌++◌, append-nil}
use mathlib.Core.Logic.{◌⊎◌, inl, inr}
use lib.Dec.{eqb}
use lib.ListN.{length, get_or, length-append}
use borrow.Author.Tests.{eqb-true, eqb-false, lt-ltb, le-ltb}
use Rattle.std.proofs.lemmas.Bool.{or_cases, or_parts}
use Rattle.std.proofs.lemmas.List.{nil_from_length}
use Rattle.token.specs.declared.Run.{Run}
use Rattle.token.specs.Kind.{attr_ref, whitespace}
use Rattle.token.specs.Line.{Line, Token, line_of, token_at, run, empty_run}
use Rattle.runs.specs.Run.{kept, trim_start, trim_end, trim, run_of, between}
use Rattle.runs.specs.declared.places.Places as read
use Rattle.runs.specs.Kept.{OfKept}
use Rattle.runs.specs.Places.{Ends, all, Narrowed, StartsAt, EndsAt, Part, FoundAt}
use Rattle.runs.proofs.KeptLaws.{is-kind, not-kind, kept-none, kept-first, kept-skip, kept-last, kept-last-skip, kept-split, trim_start-none, trim_start-space, trim_start-stop, trim_end-space, trim_end-stop}
use Rattle.runs.proofs.PlacesLaws.{run-here, run-empty}

-- ---- from the left: what is left of from..to at i has the same f

pub record Left (f : List Token → List Token) (kinds : List ℕ) (from to i : ℕ) : Type 0 where
  pub low : from ≤ i
  pub high : i ≤ to
  pub same : (text pairs : List ℕ) → f (kept (line_of kinds text pairs) i to) ≡ f (kept (line_of kinds text pairs) from to)

module _ (f : List Token → List Token) (kinds : List ℕ) (from to : ℕ) where
  pub left-start : from ≤ to → Left f kinds from to from
  left-start h = record { low = omega arith; high = h; same = λ text pairs. refl }

  pub left-skip : (i : ℕ) → i < to → get_or kinds i 0 ≡ attr_ref → Left f kinds from to i → Left f kinds from to (i + 1)
  left-skip i h e w =
      record { low = omega arith; high = omega arith; same = λ text pairs. ap f (sym (kept-skip (line_of kinds text pairs) i to h e)) ∙ w.same text pairs }

  pub left-done : (i : ℕ) → ((text pairs : List ℕ) → f (kept (line_of kinds text pairs) i to) ≡ kept (line_of kinds text pairs) i to) → (i < to → get_or kinds i 0 ≡ attr_ref → ⊥) → Left f kinds from to i → StartsAt f kinds from to i
  left-done i g e w =
      record { part = record { low = w.low; mid = w.high; high = omega arith; same = λ text pairs. sym (g text pairs) ∙ w.same text pairs }; first = e }

  pub left_end : (i : ℕ) → to ≤ i → f [] ≡ [] → Left f kinds from to i → StartsAt f kinds from to i
  left_end i h g w = left-done i (λ text pairs. ap f (kept-none (line_of kinds text pairs) i to h) ∙ g ∙ sym (kept-none (line_of kinds text pairs) i to h)) (λ lt. absurd (omega arith)) w

-- what holds at `from`, and at the next place wherever it holds at one before r, holds at r
pub walk : (P : ℕ → Type 0) (from r : ℕ) → from ≤ r → P from → ((i : ℕ) → from ≤ i → i < r → P i → P (i + 1)) → P r
walk P from zero h p on =
    let e : from ≡ zero = omega arith in
    subst P e p
walk P from (suc r) h p on = go (dec_lt r from) (λ g. walk P from r g p (λ i low high. on i low (omega arith)))
  where
    go : Dec (r < from) → (from ≤ r → P r) → P (suc r)
    go (yes lt) before =
        let e : from ≡ suc r = omega arith in
        subst P e p
    go (no ge) before =
        let e : r + 1 ≡ suc r = omega arith in
        subst P e (on r (omega arith) (omega arith) (before (omega arith)))

-- ---- token by token: what is read of from..to when the next kept token is at `at`, and `past` is past the last one that was read

pub record Reading (kinds : List ℕ) (from to at past : ℕ) : Type 0 where
  pub low : from ≤ at
  pub high : at ≤ to
  pub here : at < to → get_or kinds at 0 ≡ attr_ref → ⊥
  pub read : EndsAt all kinds from at past

module _ (kinds : List ℕ) (from to : ℕ) where
  -- between a kept token and the next nothing is kept
  none_between : (l : Line) (at next : ℕ) → at ≤ next → next ≤ to → kept l next to ≡ kept l at to → kept l at next ≡ []
  none_between l at next a b e =
      let parts : length (kept l at to) ≡ length (kept l at next) + length (kept l next to) = ap length (kept-split l at to next a b) ∙ length-append (kept l at next) (kept l next to) in
      let same : length (kept l next to) ≡ length (kept l at to) = ap length e in
      nil_from_length (kept l at next) (omega (arith, parts, same))

  pub reading-start : (at : ℕ) → StartsAt all kinds from to at → Reading kinds from to at from
  reading-start at w =
      record {
        low = w.part.low;
        high = w.part.mid;
        here = w.first;
        read = record {
          part = record {
            low = omega arith;
            mid = omega arith;
            high = w.part.low;
            same = λ text pairs. kept-none (line_of kinds text pairs) from from (omega arith) ∙ sym (none_between (line_of kinds text pairs) from at w.part.low w.part.mid (w.part.same text pairs));
          };
          last = λ lt. absurd (omega (arith, lt));
        };
      }

  pub reading-next : (at past next : ℕ) → Reading kinds from to at past → at < to → StartsAt all kinds (at + 1) to next → Reading kinds from to next (at + 1)
  reading-next at past next w h v =
      record {
        low = omega (arith, w.low, v.part.low);
        high = v.part.mid;
        here = v.first;
        read = record {
          part = record {
            low = omega arith;
            mid = omega (arith, w.low);
            high = v.part.low;
            same = λ text pairs.
                let l = line_of kinds text pairs in
                sym (kept-split l from next (at + 1) (omega (arith, w.low)) v.part.low
                ∙ ap (λ (x : List Token). kept l from (at + 1) ++ x) (none_between l (at + 1) next v.part.low v.part.mid (v.part.same text pairs))
                ∙ append-nil (kept l from (at + 1)));
          };
          last = λ lt e. w.here h (subst (λ (n : ℕ). get_or kinds n 0 ≡ attr_ref) back e);
        };
      }
    where
      back : at + 1 - 1 ≡ at
      back = omega arith

  pub reading-end : (at past : ℕ) → Reading kinds from to at past → to ≤ at → EndsAt all kinds from to past
  reading-end at past w h =
      let z : at ≡ to = omega (arith, w.high, h) in
      subst (λ (n : ℕ). EndsAt all kinds from n past) z w.read

module _ (kinds : List ℕ) (from to i : ℕ) (h : i < to) (shut : get_or kinds i 0 ≡ attr_ref → ⊥) (w : Left trim_start kinds from to i) where
  pub left-space : get_or kinds i 0 ≡ whitespace → Left trim_start kinds from to (i + 1)
  left-space e =
      record {
        low = omega arith;
        high = omega arith;
        same = λ text pairs. sym (ap trim_start (kept-first (line_of kinds text pairs) i to h shut) ∙ trim_start-space _ _ (is-kind (line_of kinds text pairs) i whitespace e)) ∙ w.same text pairs;
      }

  pub left_word : (get_or kinds i 0 ≡ whitespace → ⊥) → StartsAt trim_start kinds from to i
  left_word e =
      left-done trim_start kinds from to i
      (λ text pairs. ap trim_start (kept-first (line_of kinds text pairs) i to h shut) ∙ trim_start-stop _ _ (not-kind (line_of kinds text pairs) i whitespace e) ∙ sym (kept-first (line_of kinds text pairs) i to h shut))
      (λ lt. shut) w

-- ---- from the right

pub record Right (f : List Token → List Token) (kinds : List ℕ) (from to i : ℕ) : Type 0 where
  pub low : from ≤ i
  pub high : i ≤ to
  pub same : (text pairs : List ℕ) → f (kept (line_of kinds text pairs) from i) ≡ f (kept (line_of kinds text pairs) from to)

module _ (f : List Token → List Token) (kinds : List ℕ) (from to : ℕ) where
  pub right-start : from ≤ to → Right f kinds from to to
  right-start h = record { low = h; high = omega arith; same = λ text pairs. refl }

  pub right-skip : (i : ℕ) → from < i → get_or kinds (i - 1) 0 ≡ attr_ref → Right f kinds from to i → Right f kinds from to (i - 1)
  right-skip i h e w =
      record { low = omega arith; high = omega arith; same = λ text pairs. ap f (sym (kept-last-skip (line_of kinds text pairs) from i h e)) ∙ w.same text pairs }

  pub right-done : (i : ℕ) → ((text pairs : List ℕ) → f (kept (line_of kinds text pairs) from i) ≡ kept (line_of kinds text pairs) from i) → (from < i → get_or kinds (i - 1) 0 ≡ attr_ref → ⊥) → Right f kinds from to i → EndsAt f kinds from to i
  right-done i g e w =
      record { part = record { low = omega arith; mid = w.low; high = w.high; same = λ text pairs. sym (g text pairs) ∙ w.same text pairs }; last = e }

  pub right_end : (i : ℕ) → i ≤ from → f [] ≡ [] → Right f kinds from to i → EndsAt f kinds from to i
  right_end i h g w = right-done i (λ text pairs. ap f (kept-none (line_of kinds text pairs) from i h) ∙ g ∙ sym (kept-none (line_of kinds text pairs) from i h)) (λ lt. absurd (omega arith)) w

module _ (kinds : List ℕ) (from to i : ℕ) (h : from < i) (shut : get_or kinds (i - 1) 0 ≡ attr_ref → ⊥) (w : Right trim_end kinds from to i) where
  pub right-space : get_or kinds (i - 1) 0 ≡ whitespace → Right trim_end kinds from to (i - 1)
  right-space e =
      record {
        low = omega arith;
        high = omega arith;
        same = λ text pairs. sym (ap trim_end (kept-last (line_of kinds text pairs) from i h shut) ∙ trim_end-space (kept (line_of kinds text pairs) from (i - 1)) (token_at (line_of kinds text pairs) (i - 1)) (is-kind (line_of kinds text pairs) (i - 1) whitespace e)) ∙ w.same text pairs;
      }

  pub right-word : (get_or kinds (i - 1) 0 ≡ whitespace → ⊥) → EndsAt trim_end kinds from to i
  right-word e =
      right-done trim_end kinds from to i
      (λ text pairs. ap trim_end (kept-last (line_of kinds text pairs) from i h shut) ∙ trim_end-stop (kept (line_of kinds text pairs) from (i - 1)) (token_at (line_of kinds text pairs) (i - 1)) (not-kind (line_of kinds text pairs) (i - 1) whitespace e) ∙ sym (kept-last (line_of kinds text pairs) from i h shut))
      (λ lt. shut) w

-- ---- a token that is passed is an AttrRef or Whitespace

module _ (k : ℕ) where
  pub passed : (eqb k attr_ref || eqb k whitespace) ≡ true → (k ≡ attr_ref) ⊎ ((k ≡ attr_ref → ⊥) × (k ≡ whitespace))
  passed e = elim (or_cases (eqb k attr_ref) (eqb k whitespace) e) [
    | inl f ↦ inl (eqb-true k attr_ref f)
    | inr f ↦ let w = eqb-true k whitespace f in inr (λ z. omega (arith, w, z), w)
  ]

  pub stopped : (eqb k attr_ref || eqb k whitespace) ≡ false → (k ≡ attr_ref → ⊥) × (k ≡ whitespace → ⊥)
  stopped e = let p = or_parts (eqb k attr_ref) (eqb k whitespace) e in (eqb-false k attr_ref p.0, eqb-false k whitespace p.1)

module _ (kinds : List ℕ) (from to i : ℕ) where
  pub left-passed : i < to → (eqb (get_or kinds i 0) attr_ref || eqb (get_or kinds i 0) whitespace) ≡ true → Left trim_start kinds from to i → Left trim_start kinds from to (i + 1)
  left-passed h e w = elim (passed (get_or kinds i 0) e) [ inl f ↦ left-skip trim_start kinds from to i h f w | inr f ↦ left-space kinds from to i h f.0 w f.1 ]

  pub right-passed : from < i → (eqb (get_or kinds (i - 1) 0) attr_ref || eqb (get_or kinds (i - 1) 0) whitespace) ≡ true → Right trim_end kinds from to i → Right trim_end kinds from to (i - 1)
  right-passed h e w = elim (passed (get_or kinds (i - 1) 0) e) [ inl f ↦ right-skip trim_end kinds from to i h f w | inr f ↦ right-space kinds from to i h f.0 w f.1 ]

-- the first place whose token is no part of a trimmed start, where each token before is passed
pub starts-first : (kinds : List ℕ) (from to r : ℕ) → from ≤ r → r ≤ to → ((i : ℕ) → from ≤ i → i < r → (eqb (get_or kinds i 0) attr_ref || eqb (get_or kinds i 0) whitespace) ≡ true) → (r < to → (eqb (get_or kinds r 0) attr_ref || eqb (get_or kinds r 0) whitespace) ≡ false) → StartsAt trim_start kinds from to r
starts-first kinds from to r low high before here = go (dec_lt r to)
  where
    left : Left trim_start kinds from to r
    left = walk (Left trim_start kinds from to) from r low (left-start trim_start kinds from to (omega arith)) (λ i l h w. left-passed kinds from to i (omega arith) (before i l h) w)

    go : Dec (r < to) → StartsAt trim_start kinds from to r
    go (yes h) = let s = stopped _ (here h) in left_word kinds from to r h s.0 left s.1
    go (no h) = left_end trim_start kinds from to r (omega arith) trim_start-none left

-- ---- the same of other kinds and another end that are equal to these

pub starts-over : {f : List Token → List Token} {ks ls : List ℕ} {from to end r : ℕ} → ks ≡ ls → to ≡ end → StartsAt f ks from to r → StartsAt f ls from end r
starts-over {f = f} {ks = ks} {from = from} {end = end} {r = r} e g w = subst (λ (xs : List ℕ). StartsAt f xs from end r) e (subst (λ (n : ℕ). StartsAt f ks from n r) g w)

pub ends-over : {f : List Token → List Token} {ks ls : List ℕ} {from to end s : ℕ} → ks ≡ ls → to ≡ end → EndsAt f ks from to s → EndsAt f ls from end s
ends-over {f = f} {ks = ks} {from = from} {end = end} {s = s} e g w = subst (λ (xs : List ℕ). EndsAt f xs from end s) e (subst (λ (n : ℕ). EndsAt f ks from n s) g w)

-- ---- what is so of places is so of those that they are equal to

module _ {p q : read.Places} (e : p ≡ q) where
  pub part-of : {f : List Token → List Token} {r : Run} → Part f p.kinds.now p.from.0 p.to.0 r → Part f q.kinds.now q.from.0 q.to.0 r
  part-of {f = f} {r = r} w = subst (λ (x : read.Places). Part f x.kinds.now x.from.0 x.to.0 r) e w

  pub starts-of : {f : List Token → List Token} {r : ℕ} → StartsAt f p.kinds.now p.from.0 p.to.0 r → StartsAt f q.kinds.now q.from.0 q.to.0 r
  starts-of {f = f} {r = r} w = subst (λ (x : read.Places). StartsAt f x.kinds.now x.from.0 x.to.0 r) e w

  pub found-of : {t : Token → Bool} {r : ℕ} → FoundAt t p.kinds.now p.from.0 p.to.0 r → FoundAt t q.kinds.now q.from.0 q.to.0 r
  found-of {t = t} {r = r} w = subst (λ (x : read.Places). FoundAt t x.kinds.now x.from.0 x.to.0 r) e w

  pub kept-of : {A : Type 0} {r : A} (f : List Token → A) → OfKept f p r → OfKept f q r
  kept-of {r = r} f w = subst (λ (x : read.Places). OfKept f x r) e w

-- ---- both: the run between a and b

between-some : (a b : ℕ) → a < b → between a b ≡ run a (b - a)
between-some a b h = rw (lt-ltb a b h)

between_none : (a b : ℕ) → b ≤ a → between a b ≡ empty_run
between_none a b h = rw (le-ltb a b h)

module _ (f : List Token → List Token) (kinds : List ℕ) (from to a b : ℕ) (w : Narrowed f kinds from to a b) (v : Ends kinds a b) where
  part-some : a < b → Part f kinds from to (run a (b - a))
  part-some h =
      let z : b ≡ a + (b - a) = omega arith in
      record {
        within = omega (arith, w.high);
        few = omega (arith, w.low, w.high);
        low = λ _. w.low;
        same = λ text pairs. ap (kept (line_of kinds text pairs) a) (sym z) ∙ w.same text pairs;
        ends = subst (λ (n : ℕ). Ends kinds a n) z v;
      }

  part_none : b ≤ a → Part f kinds from to empty_run
  part_none h =
      record {
        within = omega arith;
        few = omega arith;
        low = λ lt. absurd (omega (arith, lt));
        same = λ text pairs. kept-none (line_of kinds text pairs) 0 (0 + 0) (omega arith) ∙ sym (kept-none (line_of kinds text pairs) a b h) ∙ w.same text pairs;
        ends = record { first = λ lt. absurd (omega (arith, lt)); last = λ lt. absurd (omega (arith, lt)) };
      }

  pub part-between : (r : Run) → r ≡ between a b → Part f kinds from to r
  part-between r e = go (dec_lt a b)
    where
      go : Dec (a < b) → Part f kinds from to r
      go (yes h) = subst (λ (x : Run). Part f kinds from to x) (sym (e ∙ between-some a b h)) (part-some h)
      go (no h) = subst (λ (x : Run). Part f kinds from to x) (sym (e ∙ between_none a b (omega arith))) (part_none (omega arith))

  pub run-between-is : (r : Run) → r ≡ between a b → (text pairs : List ℕ) → r ≡ run_of (f (kept (line_of kinds text pairs) from to))
  run-between-is r e text pairs = go (dec_lt a b)
    where
      go : Dec (a < b) → r ≡ run_of (f (kept (line_of kinds text pairs) from to))
      go (yes h) = e ∙ between-some a b h ∙ run-here (line_of kinds text pairs) a b v h ∙ ap run_of (w.same text pairs)
      go (no h) = e ∙ between_none a b (omega arith) ∙ run-empty (line_of kinds text pairs) a b (omega arith) ∙ ap run_of (w.same text pairs)

pub both-all : (kinds : List ℕ) (from to a b : ℕ) → StartsAt all kinds from to a → EndsAt all kinds a to b → Narrowed all kinds from to a b × Ends kinds a b
both-all kinds from to a b w v = (
  record { low = w.part.low; mid = v.part.mid; high = v.part.high; same = λ text pairs. v.part.same text pairs ∙ w.part.same text pairs },
  record { first = λ h. w.first (omega (arith, v.part.high)); last = v.last },
)

pub both-trim : (kinds : List ℕ) (from to a b : ℕ) → StartsAt trim_start kinds from to a → EndsAt trim_end kinds a to b → Narrowed trim kinds from to a b × Ends kinds a b
unfolding trim
both-trim kinds from to a b w v = (
  record { low = w.part.low; mid = v.part.mid; high = v.part.high; same = λ text pairs. v.part.same text pairs ∙ ap trim_end (w.part.same text pairs) },
  record { first = λ h. w.first (omega (arith, v.part.high)); last = v.last },
)
