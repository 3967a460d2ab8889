-- Laws of commas that ascend, and of the stretches that they part.
use Prim.Native.Nat.{ℕ, zero, suc, ◌+◌, ◌-◌, ◌≤◌, ◌<◌}
use native.Mathlib.Omega.{arith}
use Rattle.std.proofs.Common.{add-one, ap, sym, ◌∙◌, subst, drop-cons}
use Rattle.std.proofs.lemmas.List.Sums.{count_by_more_yes, count_by_more_no}
use Rattle.std.proofs.Math.Decide.{dec_lt}
use Rattle.std.specs.Prelude.{◌≡◌, refl, eqb, length, get_or, take, drop, count_by}
use mathlib.Core.List.{List, [], ◌∷◌, ◌++◌}
use Rattle.std.proofs.Math.ListN.{length-append, length-take}
use Rattle.std.proofs.Math.Seq.{drop-length}
use borrow.Author.Tests.{lt-ltb, le-ltb, le-leb, lt-leb, eq-eqb, ne_eqb}
use Rattle.token.specs.Kind.{comma, kind_at}
use Rattle.delimiters.specs.Delimit.{start, at_comma, after, Stretch, parted}
use Rattle.delimiters.specs.Divide.{times, covers, Ascending}
use Rattle.delimiters.proofs.StepLaws.{Seen, is-comma, is-quote, is-other, seen, comma-apart, quote-fewer, quote-back, after-comma, after-quote, after-other, Turn, pushed, kept, cut, turn}

-- ---- places that ascend

pub ascending-end : (f : ℕ) (cs : List ℕ) (n : ℕ) → Ascending f cs n → f ≤ n
ascending-end f [] n h = h
ascending-end f (c ∷ cs) n h = omega (arith, h.0, ascending-end (c + 1) cs n h.1)

-- they are below any larger n too
pub ascending-to : (f : ℕ) (cs : List ℕ) (n t : ℕ) → n ≤ t → Ascending f cs n → Ascending f cs t
ascending-to f [] n t le h = omega arith
ascending-to f (c ∷ cs) n t le h = (h.0, ascending-to (c + 1) cs n t le h.1)

pub ascending-length : (f : ℕ) (cs : List ℕ) (n : ℕ) → Ascending f cs n → f + length cs ≤ n
ascending-length f [] n h = omega arith
ascending-length f (c ∷ cs) n h = omega (arith, h.0, ascending-length (c + 1) cs n h.1)

pub ascending-at : (f : ℕ) (cs : List ℕ) (n j : ℕ) → Ascending f cs n → j < length cs → (f ≤ get_or cs j 0) × (get_or cs j 0 < n)
ascending-at f [] n j h lt = absurd (omega arith)
ascending-at f (c ∷ cs) n zero h lt = (h.0, omega (arith, ascending-end (c + 1) cs n h.1))
ascending-at f (c ∷ cs) n (suc j) h lt =
    let w = ascending-at (c + 1) cs n j h.1 (omega arith) in
    (omega (arith, h.0, w.0), w.1)

-- for a loop that has passed j of them: the next one, and those after it
pub ascending-next : (f : ℕ) (cs : List ℕ) (n j : ℕ) → j < length cs → Ascending f (drop j cs) n → (f ≤ get_or cs j 0) × Ascending (get_or cs j 0 + 1) (drop (j + 1) cs) n
ascending-next f cs n j lt h = rw (add-one j) (subst (λ (l : List ℕ). Ascending f l n) (drop-cons cs j 0 lt) h)

ascending-snoc : (f : ℕ) (cs : List ℕ) (n : ℕ) → Ascending f cs n → Ascending f (cs ++ (n ∷ [])) (suc n)
ascending-snoc f [] n h = (h, omega arith)
ascending-snoc f (c ∷ cs) n h = (h.0, ascending-snoc (c + 1) cs n h.1)

ascending-take : (d f : ℕ) (cs : List ℕ) (n : ℕ) → Ascending f cs n → Ascending f (take d cs) n
ascending-take zero f cs n h = ascending-end f cs n h
ascending-take (suc d) f [] n h = h
ascending-take (suc d) f (c ∷ cs) n h = (h.0, ascending-take d (c + 1) cs n h.1)

-- ---- the commas between stretches ascend, are counted, and are commas

abbrev All : (ℕ → Type 0) → List ℕ → Type 0
All P [] = Unit {0}
All P (c ∷ cs) = P c × All P cs

module _ (P : ℕ → Type 0) where
  all_snoc : (cs : List ℕ) (n : ℕ) → All P cs → P n → All P (cs ++ (n ∷ []))
  all_snoc [] n h e = (e, tt)
  all_snoc (c ∷ cs) n h e = (h.0, all_snoc cs n h.1 e)

  all_take : (d : ℕ) (cs : List ℕ) → All P cs → All P (take d cs)
  all_take zero cs h = tt
  all_take (suc d) [] h = tt
  all_take (suc d) (c ∷ cs) h = (h.0, all_take d cs h.1)

  all-at : (cs : List ℕ) (j : ℕ) → All P cs → j < length cs → P (get_or cs j 0)
  all-at [] j h lt = absurd (omega arith)
  all-at (c ∷ cs) zero h lt = h.0
  all-at (c ∷ cs) (suc j) h lt = all-at cs j h.1 (omega arith)

module _ (kinds : List ℕ) where
  ascends-more : (i : ℕ) → Ascending 0 (after kinds i).commas i → Turn kinds i → Ascending 0 (after kinds (suc i)).commas (suc i)
  ascends-more i h (pushed c e) = rw e (ascending-snoc 0 (after kinds i).commas i h)
  ascends-more i h (kept e) = rw e (ascending-to 0 (after kinds i).commas i (suc i) (omega arith) h)
  ascends-more i h (cut q d c f e) =
      rw e (ascending-to 0 (take d (after kinds i).commas) i (suc i) (omega arith) (ascending-take d 0 (after kinds i).commas i h))

  pub ascends : (i : ℕ) → Ascending 0 (after kinds i).commas i
  unfolding after start
  ascends zero = omega arith
  ascends (suc i) = ascends-more i (ascends i) (turn kinds i)

  IsComma : ℕ → Type 0
  IsComma p = kind_at kinds p ≡ comma

  commas-more : (i : ℕ) → All IsComma (after kinds i).commas → Turn kinds i → All IsComma (after kinds (suc i)).commas
  unfolding IsComma
  commas-more i h (pushed c e) = rw e (all_snoc IsComma (after kinds i).commas i h c)
  commas-more i h (kept e) = rw e h
  commas-more i h (cut q d c f e) = rw e (all_take IsComma d (after kinds i).commas h)

  commas-all : (i : ℕ) → All IsComma (after kinds i).commas
  unfolding after start
  commas-all zero = tt
  commas-all (suc i) = commas-more i (commas-all i) (turn kinds i)

  pub comma-at : (i j : ℕ) → j < length (after kinds i).commas → kind_at kinds (get_or (after kinds i).commas j 0) ≡ comma
  unfolding IsComma
  comma-at i j lt = all-at IsComma (after kinds i).commas j (commas-all i) lt

-- ---- rejoinings: those that the definition counts, and the time: a line has no more of them in all than tokens

module _ (kinds : List ℕ) where
  -- how many stretches are rejoined while the first i tokens are counted
  unfoldable pub rejoinings : ℕ → ℕ
  rejoinings zero = 0
  rejoinings (suc i) = rejoinings i + (length (after kinds i).commas - length (after kinds (suc i)).commas)

  -- what one token adds: each rejoining took back one comma
  rejoined-more : (i : ℕ) → Seen (kind_at kinds i) → (after kinds (suc i)).rejoined ≡ (after kinds i).rejoined + (length (after kinds i).commas - length (after kinds (suc i)).commas)
  unfolding at_comma
  rejoined-more i (is-comma e) = rw (after-comma kinds i e) (omega (arith, length-append (after kinds i).commas (i ∷ [])))
  rejoined-more i (is-quote q e) = rw (after-quote kinds i q ((after kinds i).noted q) e refl) (quote-back q ((after kinds i).noted q) (after kinds i))
  rejoined-more i (is-other h f) = rw (after-other kinds i h f) (omega arith)

  -- those that the definition counts are the commas that went
  pub rejoinings-are : (i : ℕ) → (after kinds i).rejoined ≡ rejoinings i
  unfolding rejoinings after start
  rejoinings-are zero = refl
  rejoinings-are (suc i) = omega (arith, rejoinings-are i, rejoined-more i (seen (kind_at kinds i)))

  rejoinings-more : (i : ℕ) → rejoinings i + length (after kinds i).commas ≤ i → Turn kinds i → rejoinings (suc i) + length (after kinds (suc i)).commas ≤ suc i
  unfolding rejoinings
  rejoinings-more i h (pushed c e) = rw e (omega (arith, length-append (after kinds i).commas (i ∷ [])))
  rejoinings-more i h (kept e) = rw e (omega arith)
  rejoinings-more i h (cut q d c f e) = rw e (omega (arith, length-take d (after kinds i).commas))

  -- each took back a comma that was put for a token of its own
  pub rejoinings-few : (i : ℕ) → rejoinings i + length (after kinds i).commas ≤ i
  unfolding rejoinings after start
  rejoinings-few zero = omega arith
  rejoinings-few (suc i) = rejoinings-more i (rejoinings-few i) (turn kinds i)

-- ---- of the commas among the tokens counted, each is between stretches still or was taken back

module _ (kinds : List ℕ) where
  -- how many are among the first i tokens
  abbrev commas_before : ℕ → ℕ
  commas_before i = count_by (λ k. eqb k comma) (take i kinds)

  before-comma : (i : ℕ) → i < length kinds → kind_at kinds i ≡ comma → commas_before (suc i) ≡ suc (commas_before i)
  before-comma i lt e = rw (← add-one i, ← add-one (commas_before i)) (count_by_more_yes (λ k. eqb k comma) kinds i 0 lt (eq-eqb (kind_at kinds i) comma e))

  before-other : (i : ℕ) → i < length kinds → (kind_at kinds i ≡ comma → ⊥) → commas_before (suc i) ≡ commas_before i
  before-other i lt h = rw (← add-one i) (count_by_more_no (λ k. eqb k comma) kinds i 0 lt (ne_eqb (kind_at kinds i) comma h))

  conserved-more : (i : ℕ) → i < length kinds → Seen (kind_at kinds i) → (after kinds i).rejoined + length (after kinds i).commas ≡ commas_before i → (after kinds (suc i)).rejoined + length (after kinds (suc i)).commas ≡ commas_before (suc i)
  unfolding at_comma
  conserved-more i lt (is-comma e) h = rw (after-comma kinds i e, before-comma i lt e) (omega (arith, h, length-append (after kinds i).commas (i ∷ [])))
  conserved-more i lt (is-quote q e) h =
      let s = after kinds i in
      let n = s.noted q in
      rw (after-quote kinds i q n e refl, before-other i lt (λ f. comma-apart q (sym f ∙ e))) (omega (arith, h, quote-back q n s, quote-fewer q n s))
  conserved-more i lt (is-other g f) h = rw (after-other kinds i g f, before-other i lt g) h

  pub conserved : (i : ℕ) → i ≤ length kinds → (after kinds i).rejoined + length (after kinds i).commas ≡ commas_before i
  unfolding after start
  conserved zero le = refl
  conserved (suc i) le = conserved-more i (omega arith) (seen (kind_at kinds i)) (conserved i (omega arith))

-- ---- each place is in one of the stretches or is one of the commas that part them

covers-in : (p f t : ℕ) (ss : List Stretch) → f ≤ p → p < t → covers p (record { from = f; to = t } ∷ ss) ≡ suc (covers p ss)
unfolding covers
covers-in p f t ss le lt = rw (le-leb f p le, lt-ltb p t lt)

covers-before : (p f t : ℕ) (ss : List Stretch) → p < f → covers p (record { from = f; to = t } ∷ ss) ≡ covers p ss
unfolding covers
covers-before p f t ss lt = rw (lt-leb f p lt)

covers-past : (p f t : ℕ) (ss : List Stretch) → f ≤ p → t ≤ p → covers p (record { from = f; to = t } ∷ ss) ≡ covers p ss
unfolding covers
covers-past p f t ss le le' = rw (le-leb f p le, le-ltb p t le')

times-same : (p c : ℕ) (cs : List ℕ) → c ≡ p → times p (c ∷ cs) ≡ suc (times p cs)
unfolding times
times-same p c cs e = rw (eq-eqb c p e)

times-apart : (p c : ℕ) (cs : List ℕ) → (c ≡ p → ⊥) → times p (c ∷ cs) ≡ times p cs
unfolding times
times-apart p c cs e = rw (ne_eqb c p e)

module _ (end p : ℕ) where
  -- a place before them all is in none
  part_none : (f : ℕ) (cs : List ℕ) → Ascending f cs end → p < f → covers p (parted f cs end) + times p cs ≡ 0
  unfolding parted covers times
  part_none f [] h lt = rw (lt-leb f p lt) (omega arith)
  part_none f (c ∷ cs) h lt =
      omega (arith, covers-before p f c (parted (c + 1) cs end) lt, times-apart p c cs (λ e. omega (arith, h.0)), part_none (c + 1) cs h.1 (omega (arith, h.0)))

  pub part-once : (f : ℕ) (cs : List ℕ) → Ascending f cs end → f ≤ p → p < end → covers p (parted f cs end) + times p cs ≡ 1
  unfolding parted covers times
  part-once f [] h le lt = rw (le-leb f p le, lt-ltb p end lt) (omega arith)
  part-once f (c ∷ cs) h le lt = go (dec_lt p c) (dec_lt c p) (part-once (c + 1) cs h.1)
    where
      go : Dec (p < c) → Dec (c < p) → (c + 1 ≤ p → p < end → covers p (parted (c + 1) cs end) + times p cs ≡ 1) → covers p (record { from = f; to = c } ∷ parted (c + 1) cs end) + times p (c ∷ cs) ≡ 1
      go (yes l) d ih = omega (arith, covers-in p f c (parted (c + 1) cs end) le l, times-apart p c cs (λ e. omega arith), part_none (c + 1) cs h.1 (omega arith))
      go (no l) (yes l') ih = omega (arith, covers-past p f c (parted (c + 1) cs end) le (omega arith), times-apart p c cs (λ e. omega arith), ih (omega arith) lt)
      go (no l) (no l') ih =
          omega (arith, covers-past p f c (parted (c + 1) cs end) le (omega arith), times-same p c cs (omega arith), part_none (c + 1) cs h.1 (omega arith))

-- ---- the stretches in the order of reading, for a loop that reads them one by one

pub parted-next : (f : ℕ) (cs : List ℕ) (j end : ℕ) → j < length cs → parted f (drop j cs) end ≡ record { from = f; to = get_or cs j 0 } ∷ parted (get_or cs j 0 + 1) (drop (j + 1) cs) end
unfolding parted
parted-next f cs j end lt = rw (drop-cons cs j 0 lt, add-one j)

pub parted-last : (f : ℕ) (cs : List ℕ) (end : ℕ) → parted f (drop (length cs) cs) end ≡ record { from = f; to = end } ∷ []
unfolding parted
parted-last f cs end = rw (drop-length cs)

pub parted-length : (f : ℕ) (cs : List ℕ) (end : ℕ) → length (parted f cs end) ≡ suc (length cs)
unfolding parted
parted-length f [] end = refl
parted-length f (c ∷ cs) end = ap suc (parted-length (c + 1) cs end)
