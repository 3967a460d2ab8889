-- Laws of the checks: what is known of a line that is not refused.
use Rattle.std.proofs.Math.Nat.{suc-ne-zero}
use Rattle.std.specs.Prelude.{ℕ, zero, suc, ◌+◌, ◌*◌, ◌≤◌, ◌<◌, Bool, true, false, not, ◌||◌, ◌≡◌, refl, List, [], ◌∷◌, eqb, ltb, length, get_or}
use Rattle.std.proofs.Common.{arith, subst, eqb-true, le-ltb, ltb-true, ltb-false}
use Rattle.std.proofs.lemmas.Bool.{not-false, eqb-false}
use Rattle.refusals.specs.Refusals.{no_tokens, too_many_tokens, text_too_long, pairs_not_two, kind_too_large, pairs_not_in_order}
use Rattle.token.specs.Kind.{largest}
use Rattle.token.specs.Line.{line_of, most_tokens, most_bytes, some_over, misplaced, Over, Placed, check, refusal}
use Rattle.token.specs.Lent.{Lent}

-- ---- 5 and 6 in words

or-false : (a b : Bool) → (a || b) ≡ false → (a ≡ false) × (b ≡ false)
or-false true b e = (e, or-false-late b e)
  where
    or-false-late : (b : Bool) → true ≡ false → b ≡ false
    or-false-late true e = e
    or-false-late false e = refl
or-false false b e = (refl, e)

pub none_over : (ks : List ℕ) → some_over ks ≡ false → (p : ℕ) → p < length ks → get_or ks p 0 ≤ largest
unfolding some_over
none_over [] e p h = absurd (omega arith)
none_over (k ∷ ks) e zero h = ltb-false largest k (or-false (ltb largest k) (some_over ks) e).0
none_over (k ∷ ks) e (suc p) h = none_over ks (or-false (ltb largest k) (some_over ks) e).1 p (omega arith)

pub some-over : (ks : List ℕ) → some_over ks ≡ true → Over ks
unfolding some_over
some-over [] e = absurd (suc-ne-zero 0 cc)
some-over (k ∷ ks) e = go (ltb largest k) refl e (λ f. some-over ks f)
  where
    go : (b : Bool) → ltb largest k ≡ b → (b || some_over ks) ≡ true → (some_over ks ≡ true → Over ks) → Over (k ∷ ks)
    go true f e ih = record { place = 0; among = omega arith; over = ltb-true largest k f }
    go false f e ih =
        let w = ih e in
        record { place = suc w.place; among = omega (arith, w.among); over = w.over }

twice : (p : ℕ) → 2 * suc p ≡ suc (suc (2 * p))
twice p = omega arith

twice-1 : (p : ℕ) → 2 * suc p + 1 ≡ suc (suc (2 * p + 1))
twice-1 p = omega arith

twice-2 : (p : ℕ) → 2 * suc p + 2 ≡ suc (suc (2 * p + 2))
twice-2 p = omega arith

pub placed : (size end : ℕ) (ps : List ℕ) → misplaced size end ps ≡ false → Placed size end ps
unfolding misplaced
placed size end [] e = record { first = λ h. absurd (omega (arith, h)); follows = λ p h. absurd (omega (arith, h)); within = λ p h. absurd (omega (arith, h)) }
placed size end (o ∷ []) e = record { first = λ h. absurd (omega (arith, h)); follows = λ p h. absurd (omega (arith, h)); within = λ p h. absurd (omega (arith, h)) }
placed size end (o ∷ n ∷ ps) e = go (or-false (ltb o end) (ltb size (o + n) || misplaced size (o + n) ps) e) (λ f. placed size (o + n) ps f)
  where
    go : (ltb o end ≡ false) × ((ltb size (o + n) || misplaced size (o + n) ps) ≡ false) → (misplaced size (o + n) ps ≡ false → Placed size (o + n) ps) → Placed size end (o ∷ n ∷ ps)
    go w ih = last (or-false (ltb size (o + n)) (misplaced size (o + n) ps) w.1)
      where
        last : (ltb size (o + n) ≡ false) × (misplaced size (o + n) ps ≡ false) → Placed size end (o ∷ n ∷ ps)
        last v =
            let low : end ≤ o = ltb-false o end w.0 in
            let high : o + n ≤ size = ltb-false size (o + n) v.0 in
            let more : Placed size (o + n) ps = ih v.1 in
            record { first = λ _. low; follows = follows more; within = within high more }
          where
            follows : Placed size (o + n) ps → (p : ℕ) → 2 * p + 3 < length (o ∷ n ∷ ps) → get_or (o ∷ n ∷ ps) (2 * p) 0 + get_or (o ∷ n ∷ ps) (2 * p + 1) 0 ≤ get_or (o ∷ n ∷ ps) (2 * p + 2) 0
            follows more zero h = more.first (omega (arith, h))
            follows more (suc p) h = rw (twice-1 p, twice-2 p, twice p) (more.follows p (omega (arith, h)))

            within : o + n ≤ size → Placed size (o + n) ps → (p : ℕ) → 2 * p + 1 < length (o ∷ n ∷ ps) → get_or (o ∷ n ∷ ps) (2 * p) 0 + get_or (o ∷ n ∷ ps) (2 * p + 1) 0 ≤ size
            within high more zero h = high
            within high more (suc p) h = rw (twice-1 p, twice p) (more.within p (omega (arith, h)))

pub placed-not : (size end : ℕ) (ps : List ℕ) → Placed size end ps → misplaced size end ps ≡ false
unfolding misplaced
placed-not size end [] w = refl
placed-not size end (o ∷ []) w = refl
placed-not size end (o ∷ n ∷ ps) w =
    let low : end ≤ o = w.first (omega arith) in
    let high : o + n ≤ size = w.within 0 (omega arith) in
    rw (le-ltb o end low, le-ltb size (o + n) high)
    (placed-not size (o + n) ps (record { first = λ h. w.follows 0 (omega (arith, h)); follows = λ p h. next-follows p h; within = λ p h. next-within p h }))
  where
    next-follows : (p : ℕ) → 2 * p + 3 < length ps → get_or ps (2 * p) 0 + get_or ps (2 * p + 1) 0 ≤ get_or ps (2 * p + 2) 0
    next-follows p h = subst (λ (x : ℕ). get_or (o ∷ n ∷ ps) x 0 + get_or ps (2 * p + 1) 0 ≤ get_or ps (2 * p + 2) 0) (twice p)
        (subst (λ (x : ℕ). get_or (o ∷ n ∷ ps) (2 * suc p) 0 + get_or (o ∷ n ∷ ps) x 0 ≤ get_or ps (2 * p + 2) 0) (twice-1 p) (subst (λ (x : ℕ). get_or (o ∷ n ∷ ps) (2 * suc p) 0 + get_or (o ∷ n ∷ ps) (2 * suc p + 1) 0 ≤ get_or (o ∷ n ∷ ps) x 0) (twice-2 p) (w.follows (suc p) (omega (arith, h)))))

    next-within : (p : ℕ) → 2 * p + 1 < length ps → get_or ps (2 * p) 0 + get_or ps (2 * p + 1) 0 ≤ size
    next-within p h = subst (λ (x : ℕ). get_or (o ∷ n ∷ ps) x 0 + get_or ps (2 * p + 1) 0 ≤ size) (twice p) (subst (λ (x : ℕ). get_or (o ∷ n ∷ ps) (2 * suc p) 0 + get_or (o ∷ n ∷ ps) x 0 ≤ size) (twice-1 p) (w.within (suc p) (omega (arith, h))))

-- ---- a line that is not refused

pub check-none : (t : Bool) (n rest : ℕ) → 0 < n → check t n rest ≡ 0 → (t ≡ false) × (rest ≡ 0)
check-none true n rest h e = absurd (omega arith)
check-none false n rest h e = (refl, e)

pub lent : (most : ℕ) (kinds text pairs : List ℕ) → most ≤ most_tokens → refusal most (line_of kinds text pairs) ≡ 0 → Lent kinds text pairs
unfolding refusal
lent most kinds text pairs few e =
    let c1 = check-none (eqb (length kinds) 0) no_tokens _ (omega arith) e in
    let c2 = check-none (ltb most (length kinds)) too_many_tokens _ (omega arith) c1.1 in
    let c3 = check-none (ltb most_bytes (length text)) text_too_long _ (omega arith) c2.1 in
    let c4 = check-none (not (eqb (length pairs) (2 * length kinds))) pairs_not_two _ (omega arith) c3.1 in
    let c5 = check-none (some_over kinds) kind_too_large _ (omega arith) c4.1 in
    let c6 = check-none (misplaced (length text) 0 pairs) pairs_not_in_order 0 (omega arith) c5.1 in
    let paired : length pairs ≡ 2 * length kinds = eqb-true (length pairs) (2 * length kinds) (not-false (eqb (length pairs) (2 * length kinds)) c4.0) in
    let none : length kinds ≡ 0 → ⊥ = eqb-false (length kinds) 0 c1.0 in
    let n : length kinds ≤ most = ltb-false most (length kinds) c2.0 in
    record {
      some = positive (length kinds) none;
      few = omega arith;
      short = ltb-false most_bytes (length text) c3.0;
      paired = paired;
      within = λ p h. (placed (length text) 0 pairs c6.0).within p (omega (arith, h, paired));
    }
  where
    positive : (x : ℕ) → (x ≡ 0 → ⊥) → 0 < x
    positive zero h = absurd (h refl)
    positive (suc x) h = omega arith
