-- The order of the kinds, and what the moves do to it: insert twice is insert once; remove after insert gives the set
-- back; insert puts the kind last, remove takes it out, prepend puts it first, and the others keep their order. A sound set
-- is the set of its order.
use Rattle.std.specs.Prelude.{ℕ, zero, suc, ◌+◌, ◌-◌, ◌≤◌, ◌<◌, ◌≡◌, Bool, not, ◌&&◌, eqb, leb, take, replicate}
use Rattle.std.proofs.Math.Path.{refl, sym, ap}
use Rattle.std.proofs.Common.{◌∙◌, eqb-true, leb-true, eq-eqb, ne_eqb}
use Rattle.std.proofs.Math.Bool.{true, false, cond}
use mathlib.Core.List.{List, [], ◌∷◌, ◌++◌}
use native.Mathlib.Omega.{arith}
use Rattle.std.proofs.lemmas.Bool.{not-true, eqb-false}
use Rattle.std.proofs.Math.ListN.{length}
use Rattle.substitutions.specs.declared.Substitutions.{Substitutions}
use Rattle.substitutions.specs.Kinds.{flag_of, flagged, one, each}
use Rattle.substitutions.specs.Held.{times, empty, packed, held, sound}
use Rattle.substitutions.specs.Moves.{set, filled, without, led, insert_of, remove_of, prepend_of}
unfoldable pub use Rattle.substitutions.specs.Order.{order_of}
use Rattle.substitutions.specs.Order.{flags_of, set_of}
use Rattle.substitutions.specs.Loops.{left, unclaimed_flags}
use Rattle.substitutions.proofs.KindsLaws.{and_left, and_right, one-le, each_at, bit, added, flag-within}
use Rattle.substitutions.proofs.HeldLaws.{facts, times-cons, left-good, sound-is}
use Rattle.substitutions.proofs.AnswersLaws.{left-small}
use Rattle.substitutions.proofs.MovesLaws.{count, count-cons, empty-all, take-empty, without-out, without-packed, without-length, without-count, absent, unplaced-count, sound-held}

-- The kinds of a list other than k.
unfoldable pub others : ℕ → List ℕ → List ℕ
others k [] = []
others k (p ∷ ps) = cond (eqb p k) (others k ps) (p ∷ others k ps)

-- An empty place more or less changes no order.
empty-order : (ps : List ℕ) → empty ps ≡ true → order_of ps ≡ []
unfolding empty order_of
empty-order [] e = refl
empty-order (p ∷ ps) e = rw (and_left (eqb p 0) (empty ps) e) (empty-order ps (and_right (eqb p 0) (empty ps) e))

snoc-order : (ps : List ℕ) → order_of (ps ++ (0 ∷ [])) ≡ order_of ps
unfolding order_of
snoc-order [] = refl
snoc-order (p ∷ ps) = rw (snoc-order ps)

empty-snoc : (ps : List ℕ) → empty ps ≡ true → ps ++ (0 ∷ []) ≡ 0 ∷ ps
unfolding empty
empty-snoc [] e = refl
empty-snoc (p ∷ ps) e = rw (eqb-true p 0 (and_left (eqb p 0) (empty ps) e), empty-snoc ps (and_right (eqb p 0) (empty ps) e))

others-out : (k : ℕ) (ps : List ℕ) → times k ps ≡ 0 → others k (order_of ps) ≡ order_of ps
unfolding order_of others
others-out k [] e = refl
others-out k (p ∷ ps) e = by (eqb p 0) (eqb p k) refl (others-out k ps)
  where
    by : (z t : Bool) → eqb p k ≡ t → (times k ps ≡ 0 → others k (order_of ps) ≡ order_of ps)
        → others k (cond z (order_of ps) (p ∷ order_of ps)) ≡ cond z (order_of ps) (p ∷ order_of ps)
    by z true q ih = absurd (omega (arith, e, times-cons k p ps, ap one q))
    by true false q ih = ih (omega (arith, e, times-cons k p ps))
    by false false q ih = rw (q, ih (omega (arith, e, times-cons k p ps)))

without-order : (k : ℕ) (ps : List ℕ) → 1 ≤ k → times k ps ≤ 1 → order_of (without k ps) ≡ others k (order_of ps)
unfolding order_of others without
without-order k [] a h = refl
without-order k (p ∷ ps) a h = by (eqb p k) refl (eqb p 0) refl (without-order k ps a)
  where
    by : (t : Bool) → eqb p k ≡ t → (z : Bool) → eqb p 0 ≡ z → (times k ps ≤ 1 → order_of (without k ps) ≡ others k (order_of ps))
        → order_of (cond t (ps ++ (0 ∷ [])) (p ∷ without k ps)) ≡ others k (cond z (order_of ps) (p ∷ order_of ps))
    by true q true z ih = absurd (omega (arith, eqb-true p k q, eqb-true p 0 z))
    by true q false z ih = rw q (snoc-order ps ∙ sym (others-out k ps (omega (arith, h, times-cons k p ps, ap one q))))
    by false q true z ih = rw z (ih (omega (arith, h, times-cons k p ps)))
    by false q false z ih = rw (z, q) (ap (λ (l : List ℕ). p ∷ l) (ih (omega (arith, h, times-cons k p ps))))

front-order : (x : ℕ) (w : List ℕ) → 1 ≤ x → packed w ≡ true → count w < length w → order_of (take (length w) (x ∷ w)) ≡ x ∷ order_of w
unfolding order_of packed
front-order x [] a h g = absurd (omega arith)
front-order x (p ∷ w) a h g = rw (ne_eqb x 0 (λ z. omega arith)) (ap (λ (l : List ℕ). x ∷ l) (by (eqb p 0) refl (front-order p w)))
  where
    by : (t : Bool) → eqb p 0 ≡ t → (1 ≤ p → packed w ≡ true → count w < length w → order_of (take (length w) (p ∷ w)) ≡ p ∷ order_of w)
        → order_of (take (length w) (p ∷ w)) ≡ cond t (order_of w) (p ∷ order_of w)
    by true q ih =
        let e : empty w ≡ true = rw q at h in
        empty-order (take (length w) (p ∷ w)) (take-empty (length w) (p ∷ w) (empty-all p w q e)) ∙ sym (empty-order w e)
    by false q ih = ih (omega (arith, eqb-false p 0 q)) (rw q at h) (omega (arith, count-cons p w (eqb-false p 0 q)))

filled-order : (n k : ℕ) (ps : List ℕ) → 1 ≤ k → packed ps ≡ true → count ps < n → n ≤ length ps → order_of (filled n k ps) ≡ order_of ps ++ (k ∷ [])
unfolding order_of filled packed
filled-order zero k ps a h g l = absurd (omega arith)
filled-order (suc n) k [] a h g l = absurd (omega arith)
filled-order (suc n) k (p ∷ ps) a h g l = by (eqb p 0) refl (filled-order n k ps a)
  where
    by : (t : Bool) → eqb p 0 ≡ t → (packed ps ≡ true → count ps < n → n ≤ length ps → order_of (filled n k ps) ≡ order_of ps ++ (k ∷ []))
        → order_of (cond t (k ∷ ps) (p ∷ filled n k ps)) ≡ cond t (order_of ps) (p ∷ order_of ps) ++ (k ∷ [])
    by true q ih = rw (ne_eqb k 0 (λ z. omega arith), empty-order ps (rw q at h))
    by false q ih = rw q (ap (λ (l : List ℕ). p ∷ l) (ih (rw q at h) (omega (arith, count-cons p ps (eqb-false p 0 q))) (omega arith)))

without-filled : (n k : ℕ) (ps : List ℕ) → 1 ≤ k → packed ps ≡ true → times k ps ≡ 0 → without k (filled n k ps) ≡ ps
unfolding filled without packed
without-filled zero k ps a h e = without-out k ps e
without-filled (suc n) k [] a h e = refl
without-filled (suc n) k (p ∷ ps) a h e = by (eqb p 0) refl (eqb p k) refl (without-filled n k ps a)
  where
    by : (t : Bool) → eqb p 0 ≡ t → (u : Bool) → eqb p k ≡ u → (packed ps ≡ true → times k ps ≡ 0 → without k (filled n k ps) ≡ ps)
        → without k (cond t (k ∷ ps) (p ∷ filled n k ps)) ≡ p ∷ ps
    by true q u x ih = rw (eq-eqb k k refl, eqb-true p 0 q) (empty-snoc ps (rw q at h))
    by false q true x ih = absurd (omega (arith, e, times-cons k p ps, ap one x))
    by false q false x ih = rw x (ap (λ (l : List ℕ). p ∷ l) (ih (rw q at h) (omega (arith, e, times-cons k p ps))))

-- After insert the flag is set.
one-true : (t : Bool) → one t ≡ 1 → t ≡ true
one-true true e = refl
one-true false e = absurd (omega arith)

-- The laws.
module _ (s : Substitutions) (k : ℕ) (a : 1 ≤ k) (b : k ≤ 7) (e : held s ≡ true) where
  now-flagged : flagged k s.flags ≡ false → flagged k (s.flags + flag_of k) ≡ true
  now-flagged f =
      one-true (flagged k (s.flags + flag_of k))
      (omega (arith, added s.flags k k (facts s e).clear a b a b f, ap one f, ap one (eq-eqb k k refl)))

  -- Insert twice is insert once, in port mode too where the second finds the flag without a place.
  pub insert-twice : (n : ℕ) → insert_of n k (insert_of n k s) ≡ insert_of n k s
  unfolding insert_of
  insert-twice n = by (flagged k s.flags) refl
    where
      by : (t : Bool) → flagged k s.flags ≡ t → insert_of n k (cond t s (set (filled n k s.places) (s.flags + flag_of k))) ≡ cond t s (set (filled n k s.places) (s.flags + flag_of k))
      by true f = rw f
      by false f = rw (now-flagged f)

  -- Remove after insert of a kind with no flag gives the set back, also where port mode set the flag alone.
  pub insert-remove : (n : ℕ) → flagged k s.flags ≡ false → remove_of k (insert_of n k s) ≡ s
  unfolding insert_of remove_of
  insert-remove n f =
      let h = facts s e in
      let z : s.flags + flag_of k - flag_of k ≡ s.flags = omega arith in
      rw (f, now-flagged f, without-filled n k s.places a h.packed (absent s k a b h f), z)

  pub insert-last : (n : ℕ) → flagged k s.flags ≡ false → count s.places < n → n ≤ 7
      → order_of (insert_of n k s).places ≡ order_of s.places ++ (k ∷ [])
  unfolding insert_of
  insert-last n f g l =
      let h = facts s e in
      rw f (filled-order n k s.places a h.packed g (omega (arith, h.seven)))

  pub remove-others : order_of (remove_of k s).places ≡ others k (order_of s.places)
  unfolding remove_of
  remove-others = by (flagged k s.flags) refl
    where
      by : (t : Bool) → flagged k s.flags ≡ t
          → order_of (cond t (set (without k s.places) (s.flags - flag_of k)) s).places ≡ others k (order_of s.places)
      by true f = without-order k s.places a (omega (arith, (facts s e).within k a b, one-le (flagged k s.flags)))
      by false f = sym (others-out k s.places (absent s k a b (facts s e) f))

  -- Prepend puts the kind first and leaves the order of the others.
  pub prepend-first : order_of (prepend_of k s).places ≡ k ∷ others k (order_of s.places)
  unfolding prepend_of led
  prepend-first =
      let h = facts s e in
      let w = without k s.places in
      let l : length w ≡ length s.places = without-length k s.places in
      rw (sym l)
      (front-order k w a (without-packed k s.places a h.packed) (omega (arith, l, h.seven, without-count s k a b h))
      ∙ ap (λ (l : List ℕ). k ∷ l) (without-order k s.places a (omega (arith, h.within k a b, one-le (flagged k s.flags)))))

  -- With seven places insert always finds one.
  pub insert-seven : flagged k s.flags ≡ false → order_of (insert_of 7 k s).places ≡ order_of s.places ++ (k ∷ [])
  insert-seven f =
      let h = facts s e in
      insert-last 7 f (omega (arith, unplaced-count s k a b h (absent s k a b h f))) (omega arith)

-- A sound set is the set of its order: each place in turn takes its kind's flag, and none is left.
sound-left : (s : Substitutions) → sound s ≡ true → left s.flags s.places ≡ 0
sound-left s e =
    let h = facts s (sound-held s e) in
    left-small s h.clear ∙ eqb-true (unclaimed_flags s) 0 (sym (sound-is s h.seven) ∙ e)

taken : (t : Bool) (x : ℕ) → cond t x 255 ≡ 0 → (t ≡ true) × (x ≡ 0)
taken true x e = (refl, e)
taken false x e = absurd (omega arith)

zeros : (ps : List ℕ) → empty ps ≡ true → replicate (length ps) 0 ≡ ps
unfolding empty
zeros [] e = refl
zeros (p ∷ ps) e =
    rw (eqb-true p 0 (and_left (eqb p 0) (empty ps) e)) (ap (λ (l : List ℕ). 0 ∷ l) (zeros ps (and_right (eqb p 0) (empty ps) e)))

abbrev Ordered : ℕ → List ℕ → Type 0
Ordered f ps = (order_of ps ++ replicate (length ps - length (order_of ps)) 0 ≡ ps) × (flags_of (order_of ps) ≡ f)

left-order : (f : ℕ) (ps : List ℕ) → f < 128 → left f ps ≡ 0 → Ordered f ps
unfolding left order_of flags_of
left-order f [] h e = (refl, sym e)
left-order f (p ∷ ps) h e = by (eqb p 0) refl (left-order (f - flag_of p) ps)
  where
    by : (t : Bool) → eqb p 0 ≡ t → (f - flag_of p < 128 → left (f - flag_of p) ps ≡ 0 → Ordered (f - flag_of p) ps) → Ordered f (p ∷ ps)
    by true q ih =
        let z = taken (empty ps) f (rw q at e) in
        let m : suc (length ps) - 0 ≡ suc (length ps) = omega arith in
        rw (q, empty-order ps z.0, m) (zeros (p ∷ ps) (empty-all p ps q z.0), sym z.1)
    by false q ih =
        let z = taken (leb p 7 && flagged p f) (left (f - flag_of p) ps) (rw q at e) in
        let r = ih (omega arith) z.1 in
        let b : p ≤ 7 = leb-true p 7 (and_left (leb p 7) (flagged p f) z.0) in
        let w = flag-within f p (omega (arith, h)) (omega (arith, eqb-false p 0 q)) b (and_right (leb p 7) (flagged p f) z.0) in
        let m : suc (length ps) - suc (length (order_of ps)) ≡ length ps - length (order_of ps) = omega arith in
        rw (q, m) (ap (λ (l : List ℕ). p ∷ l) r.0, omega (arith, r.1, w))

pub sound-set : (s : Substitutions) → sound s ≡ true → set_of (order_of s.places) ≡ s
sound-set s e =
    let h = facts s (sound-held s e) in
    let r = left-order s.flags s.places h.clear (sound-left s e) in
    let p : (set_of (order_of s.places)).places ≡ s.places = rw h.seven at r.0 in
    λ i. record { places = p i; flags = r.1 i }

-- Its kinds are those that have a flag.
none_right : each 7 (λ k. not (flagged k 0)) ≡ true
unfolding each flagged
none_right = refl

pub sound-times : (s : Substitutions) (k : ℕ) → 1 ≤ k → k ≤ 7 → sound s ≡ true → times k s.places ≡ one (flagged k s.flags)
sound-times s k a b e =
    let h = facts s (sound-held s e) in
    let l = (left-good s.flags s.places h.clear h.small h.packed h.within).1 k a b in
    let z : flagged k 0 ≡ false = not-true (flagged k 0) (each_at 7 (λ k. not (flagged k 0)) none_right k a b) in
    let n : bit k (left s.flags s.places) ≡ 0 = rw (sound-left s e, z) in
    omega (arith, l, n)
