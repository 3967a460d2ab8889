-- `held` and `sound` are true of exactly the sets that `HeldPlaces` describes.
use Rattle.std.specs.Prelude.{ℕ, zero, suc, ◌+◌, ◌≤◌, ◌<◌, ◌≡◌, refl, Bool, true, false, cond, List, [], ◌∷◌, eqb, leb, ltb, length, get_or}
use Rattle.std.proofs.Common.{sym, ap, ◌∙◌, arith, eqb-true, leb-true, ltb-true, ltb-false, eq-eqb, ne_eqb, le-leb}
use Rattle.std.proofs.lemmas.Bool.{false≢true, eqb-false}
use Rattle.substitutions.specs.declared.Substitutions.{Substitutions}
use Rattle.substitutions.specs.Kinds.{flagged, one, sum}
use Rattle.substitutions.specs.Held.{times, small, empty, packed, spare, spares, held, sound}
use Rattle.substitutions.specs.HeldPlaces.{place, Spare, HeldSet, SoundSet}
use Rattle.substitutions.proofs.KindsLaws.{and_left, and_right, and_both, one-le}
use Rattle.substitutions.proofs.HeldLaws.{Facts, facts, held_of, times-cons}
use Rattle.substitutions.proofs.MovesLaws.{empty-packed, sound-held, sound-spares}

-- Tests of every place, at one of them; and from every one.
small_at : (l : List ℕ) (i : ℕ) → small l ≡ true → get_or l i 0 ≤ 7
unfolding small
small_at [] i e = omega arith
small_at (p ∷ l) zero e = leb-true p 7 (and_left (leb p 7) (small l) e)
small_at (p ∷ l) (suc i) e = small_at l i (and_right (leb p 7) (small l) e)

small_all : (l : List ℕ) → ((i : ℕ) → i < length l → get_or l i 0 ≤ 7) → small l ≡ true
unfolding small
small_all [] h = refl
small_all (p ∷ l) h = and_both (leb p 7) (small l) (le-leb p 7 (h 0 (omega arith))) (small_all l (λ i lt. h (suc i) (omega arith)))

empty-at : (l : List ℕ) (i : ℕ) → empty l ≡ true → get_or l i 0 ≡ 0
unfolding empty
empty-at [] i e = refl
empty-at (p ∷ l) zero e = eqb-true p 0 (and_left (eqb p 0) (empty l) e)
empty-at (p ∷ l) (suc i) e = empty-at l i (and_right (eqb p 0) (empty l) e)

empty-each : (l : List ℕ) → ((i : ℕ) → i < length l → get_or l i 0 ≡ 0) → empty l ≡ true
unfolding empty
empty-each [] h = refl
empty-each (p ∷ l) h = and_both (eqb p 0) (empty l) (eq-eqb p 0 (h 0 (omega arith))) (empty-each l (λ i lt. h (suc i) (omega arith)))

packed-tail : (p : ℕ) (l : List ℕ) → packed (p ∷ l) ≡ true → packed l ≡ true
unfolding packed
packed-tail p l e = by (eqb p 0) e
  where
    by : (t : Bool) → cond t (empty l) (packed l) ≡ true → packed l ≡ true
    by true q = empty-packed l q
    by false q = q

packed-behind : (p : ℕ) (l : List ℕ) → p ≡ 0 → packed (p ∷ l) ≡ true → empty l ≡ true
unfolding packed
packed-behind p l z e = rw (eq-eqb p 0 z) at e

packed-at : (l : List ℕ) (i j : ℕ) → packed l ≡ true → i < j → get_or l i 0 ≡ 0 → get_or l j 0 ≡ 0
packed-at [] i j e lt z = refl
packed-at (p ∷ l) i zero e lt z = absurd (omega arith)
packed-at (p ∷ l) zero (suc j) e lt z = empty-at l j (packed-behind p l z e)
packed-at (p ∷ l) (suc i) (suc j) e lt z = packed-at l i j (packed-tail p l e) (omega arith) z

packed_all : (l : List ℕ) → ((i j : ℕ) → i < j → j < length l → get_or l i 0 ≡ 0 → get_or l j 0 ≡ 0) → packed l ≡ true
unfolding packed
packed_all [] h = refl
packed_all (p ∷ l) h = by (eqb p 0) refl (packed_all l (λ i j lt le z. h (suc i) (suc j) (omega arith) (omega arith) z))
  where
    by : (t : Bool) → eqb p 0 ≡ t → packed l ≡ true → cond t (empty l) (packed l) ≡ true
    by true q ih = empty-each l (λ j lt. h 0 (suc j) (omega arith) (omega arith) (eqb-true p 0 q))
    by false q ih = ih

-- A kind in a place, and in two; a kind in no place, and in no two.
times-one : (k : ℕ) (l : List ℕ) (i : ℕ) → i < length l → get_or l i 0 ≡ k → 1 ≤ times k l
times-one k [] i lt e = absurd (omega arith)
times-one k (p ∷ l) zero lt e = omega (arith, times-cons k p l, ap one (eq-eqb p k e))
times-one k (p ∷ l) (suc i) lt e = omega (arith, times-cons k p l, times-one k l i (omega arith) e)

times-two : (k : ℕ) (l : List ℕ) (i j : ℕ) → i < j → j < length l → get_or l i 0 ≡ k → get_or l j 0 ≡ k → 2 ≤ times k l
times-two k [] i j lt le d e = absurd (omega arith)
times-two k (p ∷ l) i zero lt le d e = absurd (omega arith)
times-two k (p ∷ l) zero (suc j) lt le d e = omega (arith, times-cons k p l, ap one (eq-eqb p k d), times-one k l j (omega arith) e)
times-two k (p ∷ l) (suc i) (suc j) lt le d e = omega (arith, times-cons k p l, times-two k l i j (omega arith) (omega arith) d e)

times_none : (k : ℕ) (l : List ℕ) → ((i : ℕ) → i < length l → get_or l i 0 ≡ k → ⊥) → times k l ≡ 0
unfolding times
times_none k [] h = refl
times_none k (p ∷ l) h = rw (ne_eqb p k (h 0 (omega arith))) (omega (arith, times_none k l (λ i lt. h (suc i) (omega arith))))

times-few : (k : ℕ) (l : List ℕ) → ((i j : ℕ) → i < j → j < length l → get_or l i 0 ≡ k → get_or l j 0 ≡ k → ⊥) → times k l ≤ 1
unfolding times
times-few k [] h = omega arith
times-few k (p ∷ l) h = by (eqb p k) refl (times-few k l (λ i j lt le. h (suc i) (suc j) (omega arith) (omega arith)))
  where
    by : (t : Bool) → eqb p k ≡ t → times k l ≤ 1 → one t + times k l ≤ 1
    by true q ih = omega (arith, times_none k l (λ i lt e. h 0 (suc i) (omega arith) (omega arith) (eqb-true p k q) e))
    by false q ih = omega arith

-- One kind that passes a test, and two; at most one that passes, and none.
sum_one : (n : ℕ) (t : ℕ → Bool) (k : ℕ) → 1 ≤ k → k ≤ n → t k ≡ true → 1 ≤ sum n (λ i. one (t i))
unfolding sum
sum_one zero t k a b e = absurd (omega arith)
sum_one (suc n) t k a b e = by (eqb k (suc n)) refl (λ h. sum_one n t k a h e)
  where
    by : (u : Bool) → eqb k (suc n) ≡ u → (k ≤ n → 1 ≤ sum n (λ i. one (t i))) → 1 ≤ one (t (suc n)) + sum n (λ i. one (t i))
    by true q ih = rw (sym (eqb-true k (suc n) q), e) (omega arith)
    by false q ih = omega (arith, ih (omega (arith, eqb-false k (suc n) q)))

sum-two : (n : ℕ) (t : ℕ → Bool) (j k : ℕ) → 1 ≤ j → j < k → k ≤ n → t j ≡ true → t k ≡ true → 2 ≤ sum n (λ i. one (t i))
unfolding sum
sum-two zero t j k a lt b d e = absurd (omega arith)
sum-two (suc n) t j k a lt b d e = by (eqb k (suc n)) refl (λ h. sum-two n t j k a lt h d e)
  where
    by : (u : Bool) → eqb k (suc n) ≡ u → (k ≤ n → 2 ≤ sum n (λ i. one (t i))) → 2 ≤ one (t (suc n)) + sum n (λ i. one (t i))
    by true q ih =
        let m : k ≡ suc n = eqb-true k (suc n) q in
        rw (sym m, e) (omega (arith, sum_one n t j a (omega arith) d))
    by false q ih = omega (arith, ih (omega (arith, eqb-false k (suc n) q)))

sum-none : (n : ℕ) (t : ℕ → Bool) → ((k : ℕ) → 1 ≤ k → k ≤ n → t k ≡ true → ⊥) → sum n (λ i. one (t i)) ≡ 0
unfolding sum
sum-none zero t h = refl
sum-none (suc n) t h = by (t (suc n)) refl (sum-none n t (λ k a b. h k a (omega arith)))
  where
    by : (u : Bool) → t (suc n) ≡ u → sum n (λ i. one (t i)) ≡ 0 → one u + sum n (λ i. one (t i)) ≡ 0
    by true q ih = absurd (h (suc n) (omega arith) (omega arith) q)
    by false q ih = omega (arith, ih)

sum-same-one : (n : ℕ) (t : ℕ → Bool) → ((j k : ℕ) → 1 ≤ j → j < k → k ≤ n → t j ≡ true → t k ≡ true → ⊥) → sum n (λ i. one (t i)) ≤ 1
unfolding sum
sum-same-one zero t h = omega arith
sum-same-one (suc n) t h = by (t (suc n)) refl (sum-same-one n t (λ j k a lt b. h j k a lt (omega arith)))
  where
    by : (u : Bool) → t (suc n) ≡ u → sum n (λ i. one (t i)) ≤ 1 → one u + sum n (λ i. one (t i)) ≤ 1
    by true q ih = omega (arith, sum-none n t (λ j a b d. h j (suc n) a (omega arith) (omega arith) d q))
    by false q ih = omega arith

-- A spare flag.
spare-read : (s : Substitutions) (k : ℕ) → length s.places ≡ 7 → 1 ≤ k → k ≤ 7 → spare s k ≡ true → Spare s k
unfolding spare
spare-read s k seven a b e =
    record {
      from = a;
      to = b;
      flag = and_left (flagged k s.flags) (eqb (times k s.places) 0) e;
      nowhere = λ i lt q. omega (
        arith,
        times-one k s.places i (omega arith) q,
        eqb-true (times k s.places) 0 (and_right (flagged k s.flags) (eqb (times k s.places) 0) e),
      );
    }

spare-test : (s : Substitutions) (k : ℕ) → length s.places ≡ 7 → Spare s k → spare s k ≡ true
unfolding spare
spare-test s k seven r =
    and_both (flagged k s.flags) (eqb (times k s.places) 0) r.flag
    (eq-eqb (times k s.places) 0 (times_none k s.places (λ i lt. r.nowhere i (omega arith))))

-- Both directions.
pub held-read : (s : Substitutions) → held s ≡ true → HeldSet s
unfolding spares
held-read s e =
    let h = facts s e in
    record {
      seven = h.seven;
      small = λ i lt. small_at s.places i h.small;
      packed = λ i j lt le z. packed-at s.places i j h.packed lt z;
      once = λ i j lt le q. twice h i j lt le q (eqb (place s i) 0) refl;
      covered = λ i lt z. flag_at h i lt z;
      clear = h.clear;
      one_spare = λ j k p q. same h j k p q (ltb j k) (ltb k j) refl refl;
    }
  where
    twice : Facts s → (i j : ℕ) → i < j → j < 7 → place s i ≡ place s j → (t : Bool) → eqb (place s i) 0 ≡ t → place s i ≡ 0
    twice h i j lt le q true z = eqb-true (place s i) 0 z
    twice h i j lt le q false z =
        let k = place s i in
        let n : 1 ≤ k = omega (arith, eqb-false k 0 z) in
        absurd (omega (
          arith,
          times-two k s.places i j lt (omega (arith, h.seven)) refl (sym q),
          h.within k n (small_at s.places i h.small),
          one-le (flagged k s.flags),
        ))

    flag_at : Facts s → (i : ℕ) → i < 7 → (place s i ≡ 0 → ⊥) → flagged (place s i) s.flags ≡ true
    flag_at h i lt z =
        let k = place s i in
        by (flagged k s.flags) (omega (arith, times-one k s.places i (omega (arith, h.seven)) refl, h.within k (omega (arith, z)) (small_at s.places i h.small)))
      where
        by : (t : Bool) → 1 ≤ one t → t ≡ true
        by true q = refl
        by false q = absurd (omega arith)

    same : Facts s → (j k : ℕ) → Spare s j → Spare s k → (t u : Bool) → ltb j k ≡ t → ltb k j ≡ u → j ≡ k
    same h j k p q true u x y =
        absurd (omega (arith, h.few, sum-two 7 (spare s) j k p.from (ltb-true j k x) q.to (spare-test s j h.seven p) (spare-test s k h.seven q)))
    same h j k p q false true x y =
        absurd (omega (arith, h.few, sum-two 7 (spare s) k j q.from (ltb-true k j y) p.to (spare-test s k h.seven q) (spare-test s j h.seven p)))
    same h j k p q false false x y = omega (arith, ltb-false j k x, ltb-false k j y)

pub held-decides : (s : Substitutions) → HeldSet s → held s ≡ true
unfolding spares
held-decides s h =
    held_of s (record {
      seven = h.seven;
      small = small_all s.places (λ i lt. h.small i (omega (arith, h.seven)));
      packed = packed_all s.places (λ i j lt le. h.packed i j lt (omega (arith, h.seven)));
      within = λ k a b. within k a b (flagged k s.flags) refl;
      clear = h.clear;
      few = sum-same-one 7 (spare s) (λ j k a lt b d e. apart j k a lt b d e);
    })
  where
    within : (k : ℕ) → 1 ≤ k → k ≤ 7 → (t : Bool) → flagged k s.flags ≡ t → times k s.places ≤ one (flagged k s.flags)
    within k a b true q =
        rw q (times-few k s.places (λ i j lt le d e. nonzero k a (sym d ∙ h.once i j lt (omega (arith, h.seven)) (d ∙ sym e))))
      where
        nonzero : (k : ℕ) → 1 ≤ k → k ≡ 0 → ⊥
        nonzero k a z = omega arith
    within k a b false q =
        rw q (omega (arith, times_none k s.places (λ i lt d. false≢true (sym q ∙ ap (λ (n : ℕ). flagged n s.flags) (sym d) ∙ h.covered i (omega (arith, h.seven)) (λ z. omega (arith, z, d))))))

    apart : (j k : ℕ) → 1 ≤ j → j < k → k ≤ 7 → spare s j ≡ true → spare s k ≡ true → ⊥
    apart j k a lt b d e =
        omega (arith, h.one_spare j k (spare-read s j h.seven a (omega arith) d) (spare-read s k h.seven (omega arith) b e))

pub sound-read : (s : Substitutions) → sound s ≡ true → SoundSet s
unfolding spares
sound-read s e =
    let h = facts s (sound-held s e) in
    record {
      held = held-read s (sound-held s e);
      no_spare = λ k r. omega (arith, sum_one 7 (spare s) k r.from r.to (spare-test s k h.seven r), sound-spares s e);
    }

pub sound-decides : (s : Substitutions) → SoundSet s → sound s ≡ true
unfolding sound spares
sound-decides s h =
    and_both (held s) (eqb (sum 7 (λ k. one (spare s k))) 0) (held-decides s h.held)
    (eq-eqb (sum 7 (λ k. one (spare s k))) 0 (sum-none 7 (spare s) (λ k a b d. h.no_spare k (spare-read s k h.held.seven a b d))))
