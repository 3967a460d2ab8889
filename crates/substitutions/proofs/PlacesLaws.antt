-- Laws of the moves on places, one for each way through a loop's turn. `l` is the list as it stands, i places are passed.
use Prim.Native.Nat.{ℕ, zero, suc, ◌+◌, ◌-◌, ◌≤◌, ◌<◌}
use Rattle.std.specs.Prelude.{◌≡◌, refl, Bool, true, false, cond, List, [], ◌∷◌, ◌++◌, eqb, ltb, not, length, get_or, take, drop, position, Some, None}
use Rattle.std.proofs.Common.{append_assoc, length-drop, sym, ap, ◌∙◌, append-nil, take-append-drop, drop_of_length-le, take-suc-set, drop-set-lt, take_all}
use native.Mathlib.Omega.{arith}
use Rattle.std.proofs.Math.Numerals.{add-one}
use borrow.Author.Tests.{eq-eqb, ne_eqb, ltb-true, ltb-false}
use Rattle.std.proofs.Math.ListN as L
use Rattle.std.specs.List.{copy_within, position_or_len}
use Rattle.std.proofs.lemmas.Option.{none-some}
use Rattle.std.proofs.lemmas.List.{set_split}
use Rattle.std.proofs.lemmas.List.Edits.{length-paste, take-paste}
use Rattle.std.proofs.Math.Seq.{paste, drop-cons, take-suc, append_snoc, take-append_seam}
use Rattle.substitutions.specs.Moves.{filled, without}
use Rattle.substitutions.specs.Loops.{closed, pushed}

pub pushed-is : (x k : ℕ) (l : List ℕ) → pushed x k l ≡ take (length l) (x ∷ without k l)
unfolding pushed without
pushed-is x k [] = refl
pushed-is x k (p ∷ ps) = ap (λ (t : List ℕ). x ∷ t) (by (eqb p k) (pushed-is p k ps))
  where
    by : (t : Bool) → pushed p k ps ≡ take (length ps) (p ∷ without k ps)
        → cond t ps (pushed p k ps) ≡ take (length ps) (cond t (ps ++ (0 ∷ [])) (p ∷ without k ps))
    by true ih = sym (take-append_seam ps (0 ∷ []))
    by false ih = ih

-- the whole is what stands before place i, and the rest turned
pub turn : (i x : ℕ) (l rest : List ℕ) → i < length l → take (i + 1) (L.set l i x) ++ rest ≡ take i l ++ x ∷ rest
turn i x l rest lt = rw (add-one i, take-suc-set l i x lt) (append_snoc (take i l) x rest)

pub past : (i x : ℕ) (l : List ℕ) → drop (i + 1) (L.set l i x) ≡ drop (i + 1) l
past i x l = drop-set-lt (i + 1) l i x (omega arith)

module _ (l : List ℕ) (i k n : ℕ) (lt : i < length l) where
  pub filled-here : i < n → get_or l i 0 ≡ 0 → L.set l i k ≡ take i l ++ filled (n - i) k (drop i l)
  unfolding filled
  filled-here h e =
      let m : n - i ≡ suc (n - (i + 1)) = omega arith in
      rw (set_split l i k lt, m, drop-cons l i 0 lt, e)

  pub filled_next : i < n → (get_or l i 0 ≡ 0 → ⊥) → take i l ++ filled (n - i) k (drop i l) ≡ take (i + 1) l ++ filled (n - (i + 1)) k (drop (i + 1) l)
  unfolding filled
  filled_next h e =
      let m : n - i ≡ suc (n - (i + 1)) = omega arith in
      rw (m, drop-cons l i 0 lt, ne_eqb (get_or l i 0) 0 e, add-one i, take-suc l i 0 lt)
      (sym (append_snoc (take i l) (get_or l i 0) (filled (n - suc i) k (drop (suc i) l))))

  pub without-here : get_or l i 0 ≡ k → take i l ++ without k (drop i l) ≡ closed i l
  unfolding without closed
  without-here e = rw (drop-cons l i 0 lt, eq-eqb (get_or l i 0) k e)

  pub without-next : (get_or l i 0 ≡ k → ⊥) → take i l ++ without k (drop i l) ≡ take (i + 1) l ++ without k (drop (i + 1) l)
  unfolding without
  without-next e =
      rw (drop-cons l i 0 lt, ne_eqb (get_or l i 0) k e, add-one i, take-suc l i 0 lt)
      (sym (append_snoc (take i l) (get_or l i 0) (without k (drop (suc i) l))))

  pub pushed-here : (x : ℕ) → get_or l i 0 ≡ k → L.set l i x ≡ take i l ++ pushed x k (drop i l)
  unfolding pushed
  pushed-here x e = rw (set_split l i x lt, drop-cons l i 0 lt, eq-eqb (get_or l i 0) k e)

  pub pushed-next : (x : ℕ) → (get_or l i 0 ≡ k → ⊥)
      → take (i + 1) (L.set l i x) ++ pushed (get_or l i 0) k (drop (i + 1) (L.set l i x)) ≡ take i l ++ pushed x k (drop i l)
  unfolding pushed
  pushed-next x e =
      rw (past i x l) (turn i x l (pushed (get_or l i 0) k (drop (i + 1) l)) lt
      ∙ rw (add-one i, drop-cons l i 0 lt, ne_eqb (get_or l i 0) k e))

pub filled-done : (l : List ℕ) (i k n : ℕ) → n ≤ i → take i l ++ filled (n - i) k (drop i l) ≡ l
unfolding filled
filled-done l i k n h =
    let m : n - i ≡ 0 = omega arith in
    rw (m, take-append-drop i l)

pub without-done : (l : List ℕ) (i k : ℕ) → length l ≤ i → take i l ++ without k (drop i l) ≡ l
unfolding without
without-done l i k h = rw (drop_of_length-le l h, take_all i l h) (append-nil l)

pub pushed-done : (l : List ℕ) (i x k : ℕ) → length l ≤ i → take i l ++ pushed x k (drop i l) ≡ l
unfolding pushed
pushed-done l i x k h = rw (drop_of_length-le l h, take_all i l h) (append-nil l)

-- Closing place by place: each takes what stands behind it.
pub closed-next : (l : List ℕ) (i : ℕ) → i + 1 < length l → closed (i + 1) (L.set l i (get_or l (i + 1) 0)) ≡ closed i l
unfolding closed
closed-next l i lt =
    let h : i < length l = omega arith in
    let j : suc i < length l = omega arith in
    rw (add-one i, take-suc-set l i (get_or l (suc i) 0) h, drop-set-lt (suc (suc i)) l i (get_or l (suc i) 0) (omega arith))
    (append_snoc (take i l) (get_or l (suc i) 0) (drop (suc (suc i)) l ++ (0 ∷ []))
    ∙ rw (drop-cons l (suc i) 0 j))

pub closed-last : (l : List ℕ) (i : ℕ) → length l ≡ i + 1 → L.set l i 0 ≡ closed i l
unfolding closed
closed-last l i e =
    let h : i < length l = omega arith in
    let j : length l ≤ suc i = omega arith in
    rw (set_split l i 0 h, drop_of_length-le l j)

pub filled-start : (l : List ℕ) (k n : ℕ) → take 0 l ++ filled (n - 0) k (drop 0 l) ≡ filled n k l
filled-start l k n =
    let m : n - 0 ≡ n = omega arith in
    rw m

-- The first place that has byte x, as the search for it tells.
abbrev first_with : ℕ → List ℕ → ℕ
first_with x xs = position_or_len (λ p. eqb p x) xs

first-some : (x : ℕ) (xs : List ℕ) (at : ℕ) → position (λ p. eqb p x) xs ≡ Some at → (first_with x xs ≡ at) × (at < length xs)
first-some x xs at = by (ltb (first_with x xs) (length xs)) refl
  where
    by : (t : Bool) → ltb (first_with x xs) (length xs) ≡ t → cond t (Some (first_with x xs)) None ≡ Some at → (first_with x xs ≡ at) × (at < length xs)
    by true h e =
        let is : first_with x xs ≡ at = cc in
        (is, omega (arith, is, ltb-true _ _ h))
    by false h e = absurd (none-some at e)

first-none : (x : ℕ) (xs : List ℕ) → position (λ p. eqb p x) xs ≡ None → length xs ≤ first_with x xs
first-none x xs = by (ltb (first_with x xs) (length xs)) refl
  where
    by : (t : Bool) → ltb (first_with x xs) (length xs) ≡ t → cond t (Some (first_with x xs)) None ≡ None → length xs ≤ first_with x xs
    by true h e = absurd (none-some _ (sym e))
    by false h e = ltb-false _ _ h

-- The first empty place filled; there is none: nothing changes.
fill-first : (n k : ℕ) (l : List ℕ) → first_with 0 (take n l) < length (take n l) → L.set l (first_with 0 (take n l)) k ≡ filled n k l
unfolding filled
fill-first zero k l h = absurd (omega arith)
fill-first (suc n) k [] h = absurd (omega arith)
fill-first (suc n) k (p ∷ ps) h = by (eqb p 0) (fill-first n k ps) h
  where
    by : (t : Bool) → (first_with 0 (take n ps) < length (take n ps) → L.set ps (first_with 0 (take n ps)) k ≡ filled n k ps)
        → cond (not t) (1 + first_with 0 (take n ps)) 0 < suc (length (take n ps))
        → L.set (p ∷ ps) (cond (not t) (1 + first_with 0 (take n ps)) 0) k ≡ cond t (k ∷ ps) (p ∷ filled n k ps)
    by true ih lt = refl
    by false ih lt =
        let m : 1 + first_with 0 (take n ps) ≡ suc (first_with 0 (take n ps)) = omega arith in
        rw m (ap (λ (t : List ℕ). p ∷ t) (ih (omega arith)))

fill-none : (n k : ℕ) (l : List ℕ) → length (take n l) ≤ first_with 0 (take n l) → l ≡ filled n k l
unfolding filled
fill-none zero k l h = refl
fill-none (suc n) k [] h = refl
fill-none (suc n) k (p ∷ ps) h = by (eqb p 0) (fill-none n k ps) h
  where
    by : (t : Bool) → (length (take n ps) ≤ first_with 0 (take n ps) → ps ≡ filled n k ps) → suc (length (take n ps)) ≤ cond (not t) (1 + first_with 0 (take n ps)) 0
        → p ∷ ps ≡ cond t (k ∷ ps) (p ∷ filled n k ps)
    by true ih le = absurd (omega arith)
    by false ih le = ap (λ (t : List ℕ). p ∷ t) (ih (omega arith))

pub filled-at : (n k : ℕ) (l : List ℕ) (at : ℕ) → position (λ p. eqb p 0) (take n l) ≡ Some at → L.set l at k ≡ filled n k l
filled-at n k l at e =
    let f = first-some 0 (take n l) at e in
    ap (λ (i : ℕ). L.set l i k) (sym f.0) ∙ fill-first n k l (omega (arith, f.0, f.1))

pub filled-none : (n k : ℕ) (l : List ℕ) → position (λ p. eqb p 0) (take n l) ≡ None → l ≡ filled n k l
filled-none n k l e = fill-none n k l (first-none 0 (take n l) e)

-- The first place that has kind k closed; there is none: nothing changes.
close-first : (k : ℕ) (l : List ℕ) → first_with k l < length l → closed (first_with k l) l ≡ without k l
unfolding without closed
close-first k [] h = absurd (omega arith)
close-first k (p ∷ ps) h = by (eqb p k) (close-first k ps) h
  where
    by : (t : Bool) → (first_with k ps < length ps → closed (first_with k ps) ps ≡ without k ps) → cond (not t) (1 + first_with k ps) 0 < suc (length ps)
        → closed (cond (not t) (1 + first_with k ps) 0) (p ∷ ps) ≡ cond t (ps ++ (0 ∷ [])) (p ∷ without k ps)
    by true ih lt = refl
    by false ih lt =
        let m : 1 + first_with k ps ≡ suc (first_with k ps) = omega arith in
        rw m (ap (λ (t : List ℕ). p ∷ t) (ih (omega arith)))

close-none : (k : ℕ) (l : List ℕ) → length l ≤ first_with k l → l ≡ without k l
unfolding without
close-none k [] h = refl
close-none k (p ∷ ps) h = by (eqb p k) (close-none k ps) h
  where
    by : (t : Bool) → (length ps ≤ first_with k ps → ps ≡ without k ps) → suc (length ps) ≤ cond (not t) (1 + first_with k ps) 0 → p ∷ ps ≡ cond t (ps ++ (0 ∷ [])) (p ∷ without k ps)
    by true ih le = absurd (omega arith)
    by false ih le = ap (λ (t : List ℕ). p ∷ t) (ih (omega arith))

pub without-at : (k : ℕ) (l : List ℕ) (at : ℕ) → position (λ p. eqb p k) l ≡ Some at → closed at l ≡ without k l
without-at k l at e =
    let f = first-some k l at e in
    ap (λ (i : ℕ). closed i l) (sym f.0) ∙ close-first k l (omega (arith, f.0, f.1))

pub without-none : (k : ℕ) (l : List ℕ) → position (λ p. eqb p k) l ≡ None → l ≡ without k l
without-none k l e = close-none k l (first-none k l e)

-- What stands behind a place copied onto it, and the last place emptied.
pub closed-copied : (l : List ℕ) (at : ℕ) → length l ≡ 7 → at < 7 → L.set (copy_within l (at + 1) (length l) at) 6 0 ≡ closed at l
unfolding closed
closed-copied l at e h =
    let n : at + (length l - (at + 1)) ≡ 6 = omega arith in
    let s : List ℕ = drop (at + 1) l in
    let m : length s ≡ length l - (at + 1) = omega (arith, length-drop (at + 1) l) in
    let d : List ℕ = paste l at s (length l - (at + 1)) in
    let w : length d ≡ 7 = omega (arith, length-paste l at s (length l - (at + 1)) (omega arith) (omega arith)) in
    let w7 : length d ≤ 7 = omega arith in
    let t : take 6 d ≡ take at l ++ take (length l - (at + 1)) s =
    ap (λ (i : ℕ). take i d) (sym n) ∙ take-paste l at s (length l - (at + 1)) (omega arith) (omega arith)
    in
    rw (set_split d 6 0 (omega arith), drop_of_length-le d w7, t, take_all (length l - (at + 1)) s (omega arith), add-one at)
    (append_assoc (take at l) (drop (suc at) l) (0 ∷ []))
