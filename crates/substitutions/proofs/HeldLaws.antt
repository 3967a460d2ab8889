-- A held set in numbers: no kind stands in more places than it has flags. And the one walk over the places that decides it.
use Rattle.std.specs.Prelude.{ℕ, zero, suc, ◌+◌, ◌-◌, ◌≤◌, ◌<◌, ◌≡◌, refl, Bool, true, false, cond, ◌&&◌, ◌||◌, List, [], ◌∷◌, eqb, leb, ltb, length, get_or, take, drop}
use Rattle.std.proofs.Common.{sym, ap, ◌∙◌, arith, drop_of_length-le, drop-cons, length-drop, take_all}
use Rattle.std.proofs.lemmas.Bool.{false≢true}
use Rattle.std.proofs.Math.Bool.{and-false}
use Rattle.std.proofs.Math.Numerals.{add-one}
use borrow.Author.Tests.{eqb-true, eqb-false, leb-true, ltb-true, ltb-false, eq-eqb, ne_eqb, le-leb, lt-leb, lt-ltb}
use Rattle.std.proofs.Math.Dec.{eqb-suc-zero}
use Rattle.std.specs.List.{list_all}
use Rattle.std.specs.Bool.{then_some}
use Rattle.substitutions.specs.declared.Substitutions.{Substitutions}
use Rattle.substitutions.specs.Kinds.{flag_of, flagged, one, sum}
use Rattle.substitutions.specs.Held.{times, small, empty, packed, once, covered, spare, spares, held, sound}
use Rattle.substitutions.proofs.KindsLaws.{and_left, and_right, and_both, bool_eq, each_at, each_all, sum_same, sum-add, one-le, bit, flags, cleared, few-is, none_is}
use Rattle.substitutions.specs.Loops.{few}
use Rattle.substitutions.specs.Loops.{left, unclaimed_flags, few, Leaves}

-- No kind stands in more places than it has flags: no kind twice, and a flag for every kind placed.
abbrev pub Within : ℕ → List ℕ → Type 0
Within f ps = (k : ℕ) → 1 ≤ k → k ≤ 7 → times k ps ≤ bit k f

-- A held set in numbers.
pub record Facts (s : Substitutions) : Type 0 where
  pub seven : length s.places ≡ 7
  pub small : small s.places ≡ true
  pub packed : packed s.places ≡ true
  pub within : Within s.flags s.places
  pub clear : s.flags < 128
  pub few : spares s ≤ 1

-- For one kind: the tests and the numbers.
within_of : (t : ℕ) (b : Bool) → leb t 1 ≡ true → (eqb t 0 || b) ≡ true → t ≤ one b
within_of t true p q = leb-true t 1 p
within_of zero false p q = omega arith
within_of (suc t) false p q = absurd (false≢true (rw (eqb-suc-zero t) at q))

once-of : (t : ℕ) (b : Bool) → t ≤ one b → leb t 1 ≡ true
once-of t b h = le-leb t 1 (omega (arith, one-le b))

covered_of : (t : ℕ) (b : Bool) → t ≤ one b → (eqb t 0 || b) ≡ true
covered_of zero b h = refl
covered_of (suc t) true h = rw (eqb-suc-zero t)
covered_of (suc t) false h = absurd (omega arith)

spare_of : (t : ℕ) (b : Bool) → t ≤ one b → one (b && eqb t 0) + t ≡ one b
spare_of zero true h = refl
spare_of (suc zero) true h = refl
spare_of (suc (suc t)) true h = absurd (omega arith)
spare_of zero false h = refl
spare_of (suc t) false h = absurd (omega arith)

-- The spare flags and the places filled make all the flags.
pub spare-sum : (s : Substitutions) → Within s.flags s.places → spares s + sum 7 (λ k. times k s.places) ≡ flags s.flags
unfolding spares spare
spare-sum s w =
    sym (sum-add 7 (λ k. one (flagged k s.flags && eqb (times k s.places) 0)) (λ k. times k s.places))
    ∙ sum_same 7 (λ k. one (flagged k s.flags && eqb (times k s.places) 0) + times k s.places) (λ k. bit k s.flags)
    (λ k a b. spare_of (times k s.places) (flagged k s.flags) (w k a b))

pub facts : (s : Substitutions) → held s ≡ true → Facts s
unfolding held once covered
facts s e =
    let p = s.places in
    let g6 = and_left _ (leb (spares s) 1) e in
    let g5 = and_left _ (ltb s.flags 128) g6 in
    let g4 = and_left _ (covered s) g5 in
    let g3 = and_left _ (once p) g4 in
    let g2 = and_left _ (packed p) g3 in
    record {
      seven = eqb-true (length p) 7 (and_left (eqb (length p) 7) (small p) g2);
      small = and_right (eqb (length p) 7) (small p) g2;
      packed = and_right (eqb (length p) 7 && small p) (packed p) g3;
      within = λ k a b.
          within_of (times k p) (flagged k s.flags)
          (each_at 7 (λ k. leb (times k p) 1) (and_right (eqb (length p) 7 && small p && packed p) (once p) g4) k a b)
          (each_at 7 (λ k. eqb (times k p) 0 || flagged k s.flags) (and_right (eqb (length p) 7 && small p && packed p && once p) (covered s) g5) k a b);
      clear = ltb-true s.flags 128 (and_right (eqb (length p) 7 && small p && packed p && once p && covered s) (ltb s.flags 128) g6);
      few = leb-true (spares s) 1 (and_right (eqb (length p) 7 && small p && packed p && once p && covered s && ltb s.flags 128) (leb (spares s) 1) e);
    }

pub held_of : (s : Substitutions) → Facts s → held s ≡ true
unfolding held once covered
held_of s h =
    let p = s.places in
    rw (
      eq-eqb (length p) 7 h.seven,
      h.small,
      h.packed,
      each_all 7 (λ k. leb (times k p) 1) (λ k a b. once-of (times k p) (flagged k s.flags) (h.within k a b)),
      each_all 7 (λ k. eqb (times k p) 0 || flagged k s.flags) (λ k a b. covered_of (times k p) (flagged k s.flags) (h.within k a b)),
      lt-ltb s.flags 128 h.clear,
    )
    (le-leb (spares s) 1 h.few)

-- Empty places hold no kind.
pub empty-times : (ps : List ℕ) (k : ℕ) → empty ps ≡ true → 1 ≤ k → times k ps ≡ 0
unfolding empty times
empty-times [] k e a = refl
empty-times (p ∷ ps) k e a =
    let z : p ≡ 0 = eqb-true p 0 (and_left (eqb p 0) (empty ps) e) in
    rw (z, ne_eqb 0 k (λ q. omega arith)) (omega (arith, empty-times ps k (and_right (eqb p 0) (empty ps) e) a))

pub empty-small : (ps : List ℕ) → empty ps ≡ true → small ps ≡ true
unfolding empty small
empty-small [] e = refl
empty-small (p ∷ ps) e =
    let z : p ≡ 0 = eqb-true p 0 (and_left (eqb p 0) (empty ps) e) in
    rw z (empty-small ps (and_right (eqb p 0) (empty ps) e))

-- a kind that is placed, and the rest
within-tail : (f p : ℕ) (ps : List ℕ) → f < 128 → 1 ≤ p → p ≤ 7 → flagged p f ≡ true → Within f (p ∷ ps) → Within (f - flag_of p) ps
unfolding times
within-tail f p ps h a b e w k c d = omega (arith, cleared f p k h a b c d e, w k c d)

within-cons : (f p : ℕ) (ps : List ℕ) → f < 128 → 1 ≤ p → p ≤ 7 → flagged p f ≡ true → Within (f - flag_of p) ps → Within f (p ∷ ps)
unfolding times
within-cons f p ps h a b e w k c d = omega (arith, cleared f p k h a b c d e, w k c d)

-- the head's flag is set, since its kind is placed
head-flagged : (f p : ℕ) (ps : List ℕ) → 1 ≤ p → p ≤ 7 → Within f (p ∷ ps) → flagged p f ≡ true
unfolding times
head-flagged f p ps a b w = by (flagged p f) (rw (eq-eqb p p refl) at (w p a b))
  where
    by : (t : Bool) → 1 + times p ps ≤ one t → t ≡ true
    by true h = refl
    by false h = absurd (omega arith)

-- Where the places keep the rules, each kind's flag is left or placed.
abbrev Left : ℕ → List ℕ → Type 0
Left f ps = (left f ps < 128) × ((k : ℕ) → 1 ≤ k → k ≤ 7 → bit k (left f ps) + times k ps ≡ bit k f)

times-nil : (k : ℕ) → times k [] ≡ 0
unfolding times
times-nil k = refl

pub times-cons : (k p : ℕ) (ps : List ℕ) → times k (p ∷ ps) ≡ one (eqb p k) + times k ps
unfolding times
times-cons k p ps = refl

pub left-good : (f : ℕ) (ps : List ℕ) → f < 128 → small ps ≡ true → packed ps ≡ true → Within f ps → Left f ps
unfolding left small packed empty
left-good f [] h s p w = (h, λ k a b. omega (arith, times-nil k))
left-good f (p ∷ ps) h s k w = by (eqb p 0) refl (left-good (f - flag_of p) ps)
  where
    by : (t : Bool) → eqb p 0 ≡ t → (f - flag_of p < 128 → small ps ≡ true → packed ps ≡ true → Within (f - flag_of p) ps → Left (f - flag_of p) ps)
        → Left f (p ∷ ps)
    by true q ih =
        let e : empty ps ≡ true = rw q at k in
        rw (q, e) (h, λ j a b. omega (arith, empty-times (p ∷ ps) j (and_both (eqb p 0) (empty ps) q e) a))
    by false q ih =
        let b : p ≤ 7 = leb-true p 7 (and_left (leb p 7) (small ps) s) in
        let a : 1 ≤ p = omega (arith, eqb-false p 0 q) in
        let e : flagged p f ≡ true = head-flagged f p ps a b w in
        let r = ih (omega arith) (and_right (leb p 7) (small ps) s) (rw q at k) (within-tail f p ps h a b e w) in
        rw (q, le-leb p 7 b, e) (r.0, λ j c d. omega (arith, r.1 j c d, times-cons j p ps, cleared f p j h a b c d e))

-- And where flags are left, the places keep the rules.
abbrev Good : ℕ → List ℕ → Type 0
Good f ps = (small ps ≡ true) × ((packed ps ≡ true) × Within f ps)

taken_true : (t : Bool) (x : ℕ) → cond t x 255 < 128 → t ≡ true
taken_true true x h = refl
taken_true false x h = absurd (omega arith)

pub good_left : (f : ℕ) (ps : List ℕ) → f < 128 → left f ps < 128 → Good f ps
unfolding left small packed empty
good_left f [] h l = (refl, (refl, λ k a b. omega (arith, times-nil k)))
good_left f (p ∷ ps) h l = by (eqb p 0) refl (good_left (f - flag_of p) ps)
  where
    by : (t : Bool) → eqb p 0 ≡ t → (f - flag_of p < 128 → left (f - flag_of p) ps < 128 → Good (f - flag_of p) ps) → Good f (p ∷ ps)
    by true q ih =
        let e : empty ps ≡ true = taken_true (empty ps) f (rw q at l) in
        let z : p ≡ 0 = eqb-true p 0 q in (
          and_both (leb p 7) (small ps) (le-leb p 7 (omega arith)) (empty-small ps e),
          (rw q e, λ j a b. omega (arith, empty-times (p ∷ ps) j (and_both (eqb p 0) (empty ps) q e) a)),
        )
    by false q ih =
        let g : leb p 7 && flagged p f ≡ true = taken_true (leb p 7 && flagged p f) (left (f - flag_of p) ps) (rw q at l) in
        let m : left (f - flag_of p) ps < 128 = rw g at (rw q at l) in
        let b : p ≤ 7 = leb-true p 7 (and_left (leb p 7) (flagged p f) g) in
        let a : 1 ≤ p = omega (arith, eqb-false p 0 q) in
        let e : flagged p f ≡ true = and_right (leb p 7) (flagged p f) g in
        let r = ih (omega arith) m in
        (and_both (leb p 7) (small ps) (le-leb p 7 b) r.0, (rw q r.1.0, within-cons f p ps h a b e r.1.1))

left-flags : (f : ℕ) (ps : List ℕ) → Left f ps → flags (left f ps) + sum 7 (λ k. times k ps) ≡ flags f
left-flags f ps l =
    sym (sum-add 7 (λ k. bit k (left f ps)) (λ k. times k ps))
    ∙ sum_same 7 (λ k. bit k (left f ps) + times k ps) (λ k. bit k f) l.1

-- of a held set they are the spare flags
pub left-spares : (s : Substitutions) → held s ≡ true → (left s.flags s.places < 128) × (flags (left s.flags s.places) ≡ spares s)
left-spares s e =
    let h = facts s e in
    let l = left-good s.flags s.places h.clear h.small h.packed h.within in
    (l.0, omega (arith, left-flags s.flags s.places l, spare-sum s h.within))

few-big : (f : ℕ) → 128 ≤ f → few f ≡ false
unfolding few
few-big f h =
    rw (
      ne_eqb f 0 (λ e. omega arith),
      ne_eqb f 1 (λ e. omega arith),
      ne_eqb f 2 (λ e. omega arith),
      ne_eqb f 4 (λ e. omega arith),
      ne_eqb f 8 (λ e. omega arith),
      ne_eqb f 16 (λ e. omega arith),
      ne_eqb f 32 (λ e. omega arith),
      ne_eqb f 64 (λ e. omega arith),
    )

few-below : (f : ℕ) → few f ≡ true → f < 128
few-below f e = by (ltb f 128) refl
  where
    by : (t : Bool) → ltb f 128 ≡ t → f < 128
    by true q = ltb-true f 128 q
    by false q = absurd (false≢true (sym (few-big f (ltb-false f 128 q)) ∙ e))

-- Held and sound, decided by what is left over.
pub held-is : (s : Substitutions) → length s.places ≡ 7 → held s ≡ few (unclaimed_flags s)
unfolding unclaimed_flags
held-is s seven = bool_eq (held s) (few (cond (ltb s.flags 128) (left s.flags s.places) 255)) to (from (ltb s.flags 128) refl)
  where
    to : held s ≡ true → few (cond (ltb s.flags 128) (left s.flags s.places) 255) ≡ true
    to e =
        let l = left-spares s e in
        rw (lt-ltb s.flags 128 (facts s e).clear) (few-is (left s.flags s.places) l.0 ∙ le-leb (flags (left s.flags s.places)) 1 (omega (arith, l.1, (facts s e).few)))

    from : (t : Bool) → ltb s.flags 128 ≡ t → few (cond t (left s.flags s.places) 255) ≡ true → held s ≡ true
    from false q e = absurd (false≢true (sym (few-big 255 (omega arith)) ∙ e))
    from true q e =
        let h : s.flags < 128 = ltb-true s.flags 128 q in
        let l = few-below (left s.flags s.places) e in
        let g = good_left s.flags s.places h l in
        let n : flags (left s.flags s.places) ≤ 1 = leb-true _ 1 (sym (few-is (left s.flags s.places) l) ∙ e) in
        held_of s (record {
          seven = seven;
          small = g.0;
          packed = g.1.0;
          within = g.1.1;
          clear = h;
          few = omega (arith, left-flags s.flags s.places (left-good s.flags s.places h g.0 g.1.0 g.1.1), spare-sum s g.1.1, n);
        })

pub sound-is : (s : Substitutions) → length s.places ≡ 7 → sound s ≡ eqb (unclaimed_flags s) 0
unfolding sound unclaimed_flags few
sound-is s seven = by (held s) refl
  where
    by : (t : Bool) → held s ≡ t → t && eqb (spares s) 0 ≡ eqb (cond (ltb s.flags 128) (left s.flags s.places) 255) 0
    by true q =
        let l = left-spares s q in
        rw (lt-ltb s.flags 128 (facts s q).clear, none_is (left s.flags s.places) l.0, l.1)
    by false q = sym (ne_eqb (cond (ltb s.flags 128) (left s.flags s.places) 255) 0 (λ z. false≢true (sym q ∙ held-is s seven ∙ ap few z)))

-- `empty`, by the test of each place.
pub empty_all : (ps : List ℕ) → list_all (λ p. eqb p 0) ps ≡ empty ps
unfolding empty
empty_all [] = refl
empty_all (p ∷ ps) = rw (empty_all ps)

-- The walk, place by place: one law for each way through a turn.
module _ (l : List ℕ) (i : ℕ) (lt : i < length l) where
  pub empty-here : (get_or l i 0 ≡ 0 → ⊥) → false ≡ empty (drop i l)
  unfolding empty
  empty-here e = rw (drop-cons l i 0 lt, ne_eqb (get_or l i 0) 0 e)

  pub empty-next : get_or l i 0 ≡ 0 → empty (drop (i + 1) l) ≡ empty (drop i l)
  unfolding empty
  empty-next e = rw (drop-cons l i 0 lt, add-one i, e)

  pub left-empty : (f : ℕ) → get_or l i 0 ≡ 0 → left f (drop i l) ≡ cond (empty (drop i l)) f 255
  unfolding left empty
  left-empty f e = rw (drop-cons l i 0 lt, e)

  pub left_over : (f : ℕ) → 7 < get_or l i 0 → left f (drop i l) ≡ 255
  unfolding left
  left_over f h = rw (drop-cons l i 0 lt, ne_eqb (get_or l i 0) 0 (λ e. omega arith), lt-leb (get_or l i 0) 7 h)

  pub left-bare : (f : ℕ) → (get_or l i 0 ≡ 0 → ⊥) → flagged (get_or l i 0) f ≡ false → left f (drop i l) ≡ 255
  unfolding left
  left-bare f z e = rw (drop-cons l i 0 lt, ne_eqb (get_or l i 0) 0 z, e, and-false (leb (get_or l i 0) 7))

  pub left-next : (f : ℕ) → (get_or l i 0 ≡ 0 → ⊥) → get_or l i 0 ≤ 7 → flagged (get_or l i 0) f ≡ true
      → left f (drop i l) ≡ left (f - flag_of (get_or l i 0)) (drop (i + 1) l)
  unfolding left
  left-next f z h e = rw (drop-cons l i 0 lt, ne_eqb (get_or l i 0) 0 z, le-leb (get_or l i 0) 7 h, e, add-one i)

pub empty-end : (l : List ℕ) (i : ℕ) → length l ≤ i → true ≡ empty (drop i l)
unfolding empty
empty-end l i h = rw (drop_of_length-le l h)

pub left_end : (l : List ℕ) (i f : ℕ) → length l ≤ i → left f (drop i l) ≡ f
unfolding left
left_end l i f h = rw (drop_of_length-le l h)

-- From an empty place on: all that is left if the rest is empty, as the test of each place tells.
pub left-rest : (l : List ℕ) (i f : ℕ) (r : Bool) → length l ≡ 7 → i < 7 → get_or l i 0 ≡ 0 → r ≡ list_all (λ p. eqb p 0) (take (7 - i) (drop i l))
    → Leaves (then_some r f) (left f (drop i l))
left-rest l i f r h lt z e =
    let m : length (drop i l) ≤ 7 - i = omega (arith, length-drop i l) in
    let t : r ≡ empty (drop i l) = e ∙ ap (λ (ps : List ℕ). list_all (λ p. eqb p 0) ps) (take_all (7 - i) (drop i l) m) ∙ empty_all (drop i l) in
    by r (ap (λ (b : Bool). cond b f 255) t ∙ sym (left-empty l i (omega arith) f z))
  where
    by : (b : Bool) → cond b f 255 ≡ left f (drop i l) → Leaves (then_some b f) (left f (drop i l))
    by true q = q
    by false q = q
