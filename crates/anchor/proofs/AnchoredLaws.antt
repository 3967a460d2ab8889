-- The anchors that are read are those that the words name; there is none exactly where the first token says so, and 12 is due exactly where one of the three
-- faults is so.
use Rattle.std.specs.Prelude.{Option, None, Some, ℕ, zero, suc, ◌+◌, ◌-◌, ◌≤◌, ◌<◌, Bool, true, false, cond, ◌&&◌, ◌||◌, ◌≡◌, ◌⊎◌, refl, List, eqb, ltb, length, get_or, drop, min}
use Rattle.std.specs.Option.{unwrap_or}
use Rattle.std.proofs.Common.{arith, sym, ap, subst, ◌∙◌, inl, inr, true≢false, eq-eqb, ne_eqb, eqb-true, le-ltb, ltb-false, get_or-drop, length-drop}
use Rattle.std.proofs.Math.Decide.{dec_lt}
use Rattle.std.proofs.lemmas.Option.{none-some}
use Rattle.std.proofs.lemmas.List.{get_or_past}
use Rattle.std.proofs.lemmas.List.Quantifiers.{position-Some}
use Rattle.refusals.specs.Refusals.{anchor_malformed}
use Rattle.token.specs.Kind.{close_bracket, comma, kind_at}
use Rattle.token.specs.Line.{Line, check, most_tokens, refusal, run, empty_run}
use Rattle.anchor.specs.Numbers.{Numbers, refused, no_anchor, found}
use Rattle.anchor.specs.Anchor.{begins_none, ends_id, id_count, bytes_of, no_bytes, is_bracket, text_end, two_brackets, text_run, counts_as_discard, id_alone, with_text, after_id, with_id, unrefused, anchor}
use Rattle.anchor.specs.Anchored.{IdEnds, SomeBytes, IsId, Closes, IdAlone, WithText, Anchored, RunsOut, NoBytes, NotClosed, Malformed, Within}
use Rattle.anchor.proofs.Places.{none-passes, position-is, bytes-some, some-bytes}

-- ---- kinds

bracket-is : (k : ℕ) → is_bracket k ≡ true → k ≡ close_bracket
bracket-is k e = eqb-true k close_bracket e

not-bracket : (k : ℕ) → is_bracket k ≡ false → k ≡ close_bracket → ⊥
not-bracket k e f = true≢false (sym (eq-eqb k close_bracket f) ∙ e)

-- what ends an id and is no bracket is a comma
is-comma : (k : ℕ) → ends_id k ≡ true → is_bracket k ≡ false → k ≡ comma
is-comma k e f = by (eqb k comma) refl e
  where
    by : (t : Bool) → eqb k comma ≡ t → (t || eqb k close_bracket) ≡ true → k ≡ comma
    by true g h = eqb-true k comma g
    by false g h = absurd (true≢false (sym h ∙ f))

-- ---- the id

module _ (l : Line) where
  id-ends : (n : ℕ) → id_count l.kinds ≡ Some n → IdEnds l.kinds n
  id-ends n e =
      let w = position-Some ends_id l.kinds n 0 e in
      record { among = w.0; ends = w.1; first = w.2 }

  id-counted : (n : ℕ) → IdEnds l.kinds n → id_count l.kinds ≡ Some n
  id-counted n w = position-is ends_id l.kinds n w.among w.ends w.first

  -- an id ends at one place
  id-same : (n m : ℕ) → IdEnds l.kinds n → IdEnds l.kinds m → n ≡ m
  id-same n m v w = ap (λ (o : Option ℕ). unwrap_or o 0) (sym (id-counted n v) ∙ id-counted m w)

  is-id : (n : ℕ) → IdEnds l.kinds n → no_bytes l n ≡ false → IsId l n
  is-id n w f = record { stands = w; bytes = bytes-some l n (λ z. true≢false (sym (eq-eqb (bytes_of l n) 0 z) ∙ f)) }

  id-bytes : (n : ℕ) → SomeBytes l n → no_bytes l n ≡ false
  id-bytes n w = ne_eqb (bytes_of l n) 0 (some-bytes l n w.place w.within w.bytes)

-- ---- the two brackets that close behind a Comma at n

module _ (kinds : List ℕ) (n : ℕ) where
  abbrev rest : List ℕ
  rest = drop (n + 1) kinds

  rest-at : (m : ℕ) → kind_at rest m ≡ kind_at kinds (n + 1 + m)
  rest-at m = get_or-drop (n + 1) kinds m 0

  rest-long : length rest ≡ length kinds - (n + 1)
  rest-long = length-drop (n + 1) kinds

  brackets-are : (m : ℕ) → two_brackets rest m ≡ true → (kind_at kinds (n + 1 + m) ≡ close_bracket) × (kind_at kinds (n + 1 + m + 1) ≡ close_bracket)
  brackets-are m e = by (is_bracket (kind_at rest m)) refl e
    where
      by : (t : Bool) → is_bracket (kind_at rest m) ≡ t → (t && is_bracket (kind_at rest (m + 1))) ≡ true → (kind_at kinds (n + 1 + m) ≡ close_bracket) × (kind_at kinds (n + 1 + m + 1) ≡ close_bracket)
      by true g h =
          let e : n + 1 + (m + 1) ≡ n + 1 + m + 1 = omega arith in
          (sym (rest-at m) ∙ bracket-is (kind_at rest m) g, ap (kind_at kinds) (sym e) ∙ sym (rest-at (m + 1)) ∙ bracket-is (kind_at rest (m + 1)) h)
      by false g h = absurd (true≢false (sym h))

  are-brackets : (m : ℕ) → kind_at kinds (n + 1 + m) ≡ close_bracket → kind_at kinds (n + 1 + m + 1) ≡ close_bracket → two_brackets rest m ≡ true
  are-brackets m e f =
      let g : n + 1 + (m + 1) ≡ n + 1 + m + 1 = omega arith in
      rw (eq-eqb (kind_at rest m) close_bracket (rest-at m ∙ e), eq-eqb (kind_at rest (m + 1)) close_bracket (rest-at (m + 1) ∙ ap (kind_at kinds) g ∙ f))

  -- what the definitions find closes, in words
  closes-inline : (m : ℕ) → text_end false rest ≡ Some m → two_brackets rest m ≡ true → Closes false kinds n (n + 1 + m)
  unfolding text_end
  closes-inline m e b =
      let w = position-Some is_bracket rest m 0 e in
      let k = brackets-are m b in
      record { after = omega arith; bracket = k.0; another = k.1; closing = λ q low high f. free w.2 q low high f }
    where
      free : ((k : ℕ) → k < m → is_bracket (get_or rest k 0) ≡ false) → (q : ℕ) → n < q → q < n + 1 + m → kind_at kinds q ≡ close_bracket → ⊥
      free first q low high f =
          let at : n + 1 + (q - (n + 1)) ≡ q = omega (arith, low) in
          not-bracket (kind_at rest (q - (n + 1))) (first (q - (n + 1)) (omega (arith, low, high))) (rest-at (q - (n + 1)) ∙ ap (kind_at kinds) at ∙ f)

  closes-whole : (m : ℕ) → text_end true rest ≡ Some m → two_brackets rest m ≡ true → Closes true kinds n (n + 1 + m)
  unfolding text_end
  closes-whole m e b = by (ltb (length rest) 2) refl e
    where
      by : (t : Bool) → ltb (length rest) 2 ≡ t → cond t None (Some (length rest - 2)) ≡ Some m → Closes true kinds n (n + 1 + m)
      by true g f = absurd (none-some m f)
      by false g f =
          let long : 2 ≤ length rest = ltb-false (length rest) 2 g in
          let is : length rest - 2 ≡ m = cc in
          let k = brackets-are m b in
          record { after = omega arith; bracket = k.0; another = k.1; closing = omega (arith, long, is, rest-long) }

  closes-found : (is_entire_line : Bool) (m : ℕ) → text_end is_entire_line rest ≡ Some m → two_brackets rest m ≡ true → Closes is_entire_line kinds n (n + 1 + m)
  closes-found true m = closes-whole m
  closes-found false m = closes-inline m

  -- and what closes in words is found
  module _ (p : ℕ) where
    abbrev count : ℕ
    count = p - (n + 1)

    end-whole : Closes true kinds n p → text_end true rest ≡ Some count
    unfolding text_end
    end-whole w =
        let low : 2 ≤ length rest = omega (arith, rest-long, w.after, w.closing) in
        let is : length rest - 2 ≡ count = omega (arith, rest-long, w.after, w.closing) in
        rw (le-ltb (length rest) 2 low) (ap Some is)

    end-inline : Closes false kinds n p → p < length kinds → text_end false rest ≡ Some count
    unfolding text_end
    end-inline w lt =
        let at : n + 1 + count ≡ p = omega (arith, w.after) in
        position-is is_bracket rest count (omega (arith, rest-long, w.after, lt)) (eq-eqb (kind_at rest count) close_bracket (rest-at count ∙ ap (kind_at kinds) at ∙ w.bracket))
        (λ k h. ne_eqb (kind_at rest k) close_bracket (λ f. w.closing (n + 1 + k) (omega arith) (omega (arith, h, at)) (sym (rest-at k) ∙ f)))

    brackets-found : (is_entire_line : Bool) → Closes is_entire_line kinds n p → two_brackets rest count ≡ true
    brackets-found is_entire_line w =
        let at : n + 1 + count ≡ p = omega (arith, w.after) in
        are-brackets count (ap (kind_at kinds) at ∙ w.bracket) (ap (λ (q : ℕ). kind_at kinds (q + 1)) at ∙ w.another)

    end-found : (is_entire_line : Bool) → Closes is_entire_line kinds n p → p < length kinds → text_end is_entire_line rest ≡ Some count
    end-found true w lt = end-whole w
    end-found false w lt = end-inline w lt

-- ---- an id and what follows it

-- a place at which a CloseBracket stands is in the line
in-line : (kinds : List ℕ) (p : ℕ) → kind_at kinds p ≡ close_bracket → p < length kinds
in-line kinds p e = by (dec_lt p (length kinds))
  where
    by : Dec (p < length kinds) → p < length kinds
    by (yes g) = g
    by (no g) =
        let none : kind_at kinds p ≡ 0 = get_or_past kinds p 0 (omega (arith, g)) in
        absurd (omega (arith, none, e))

module _ (is_entire_line : Bool) (l : Line) where
  abbrev read : Numbers
  read = with_id is_entire_line l (id_count l.kinds)

  alone-read : (a : Numbers) → IdAlone l a → read ≡ a
  unfolding with_id
  alone-read a w = rw (id-counted l w.n w.id.stands, id-bytes l w.n w.id.bytes, eq-eqb (kind_at l.kinds w.n) close_bracket w.bracket) (sym w.numbers)

  text-read : (a : Numbers) → WithText is_entire_line l a → read ≡ a
  unfolding with_id with_text
  text-read a w =
      let c = w.closes in
      let m = w.p - (w.n + 1) in
      let end : w.n + 1 + m + 2 ≡ w.p + 2 = omega (arith, c.after) in
      let no : kind_at l.kinds w.n ≡ close_bracket → ⊥ = λ e. (let z : ◌≡◌ {A = ℕ} 10 13 = sym e ∙ w.comma in omega (arith, z)) in
      rw (id-counted l w.n w.id.stands, id-bytes l w.n w.id.bytes, ne_eqb (kind_at l.kinds w.n) close_bracket no, end-found l.kinds w.n w.p is_entire_line c (in-line l.kinds w.p c.bracket), brackets-found l.kinds w.n w.p is_entire_line c, end)
      (sym w.numbers)

  is-read : (a : Numbers) → Anchored is_entire_line l a → read ≡ a
  is-read a (inl w) = alone-read a w
  is-read a (inr w) = text-read a w

  -- ---- 12 and a fault, or an anchor in words

  abbrev Fault : Type 0
  Fault = RunsOut l ⊎ NoBytes l ⊎ NotClosed is_entire_line l

  abbrev Either : Numbers → Type 0
  Either a = ((a ≡ refused anchor_malformed) × Fault) ⊎ Anchored is_entire_line l a

  -- where the brackets are not found, none close
  not-closed : (n : ℕ) → IsId l n → kind_at l.kinds n ≡ comma
      → ((p : ℕ) → text_end is_entire_line (drop (n + 1) l.kinds) ≡ Some (p - (n + 1)) → two_brackets (drop (n + 1) l.kinds) (p - (n + 1)) ≡ true → ⊥) → Fault
  not-closed n w c h =
      inr (inr (record {
        n = n;
        id = w;
        comma = c;
        nowhere = λ p v. h p (end-found l.kinds n p is_entire_line v (in-line l.kinds p v.bracket)) (brackets-found l.kinds n p is_entire_line v);
      }))

  text-either : (n : ℕ) → IsId l n → kind_at l.kinds n ≡ comma → (o : Option ℕ) → text_end is_entire_line (drop (n + 1) l.kinds) ≡ o → Either (with_text n (drop (n + 1) l.kinds) o)
  unfolding with_text
  text-either n w c None e = inl (refl, not-closed n w c (λ p f g. none-some _ (sym e ∙ f)))
  text-either n w c (Some m) e = by (two_brackets (drop (n + 1) l.kinds) m) refl
    where
      by : (t : Bool) → two_brackets (drop (n + 1) l.kinds) m ≡ t
          → Either (cond t (found (run 0 n) (text_run (n + 1) m) (n + 1 + m + 2) (counts_as_discard (drop (n + 1) l.kinds) m)) (refused anchor_malformed))
      by true g =
          let back : n + 1 + m - (n + 1) ≡ m = omega arith in
          inr (inr (record { n = n; p = n + 1 + m; id = w; comma = c; closes = closes-found l.kinds n is_entire_line m e g; numbers = rw back refl }))
      by false g = inl (refl, not-closed n w c (λ p f h. true≢false (sym h ∙ ap (two_brackets (drop (n + 1) l.kinds)) (ap (λ (o : Option ℕ). unwrap_or o 0) (sym f ∙ e)) ∙ g)))

  id-either : (n : ℕ) → IsId l n → Either (after_id is_entire_line l.kinds n)
  id-either n w = by (is_bracket (kind_at l.kinds n)) refl
    where
      by : (t : Bool) → is_bracket (kind_at l.kinds n) ≡ t
          → Either (cond t (id_alone l.kinds n) (with_text n (drop (n + 1) l.kinds) (text_end is_entire_line (drop (n + 1) l.kinds))))
      by true g = inr (inl (record { n = n; id = w; bracket = bracket-is (kind_at l.kinds n) g; numbers = refl }))
      by false g = text-either n w (is-comma (kind_at l.kinds n) w.stands.ends g) (text_end is_entire_line (drop (n + 1) l.kinds)) refl

  read-either : Either read
  unfolding with_id
  read-either = by (id_count l.kinds) refl
    where
      bytes : (n : ℕ) → IdEnds l.kinds n → (t : Bool) → no_bytes l n ≡ t → Either (cond t (refused anchor_malformed) (after_id is_entire_line l.kinds n))
      bytes n w true f = inl (refl, inr (inl (record { n = n; stands = w; none = λ b. true≢false (sym f ∙ id-bytes l n b) })))
      bytes n w false f = id-either n (is-id l n w f)

      by : (o : Option ℕ) → id_count l.kinds ≡ o → Either (with_id is_entire_line l o)
      by None e = inl (refl, inl (none-passes ends_id l.kinds e))
      by (Some n) e = bytes n (id-ends l n e) (no_bytes l n) refl

  -- where a fault is so, no numbers are those of an anchor
  fault-alone : Fault → (a : Numbers) → IdAlone l a → ⊥
  fault-alone (inl h) a w = true≢false (sym w.id.stands.ends ∙ h w.n w.id.stands.among)
  fault-alone (inr (inl v)) a w = v.none (subst (SomeBytes l) (id-same l w.n v.n w.id.stands v.stands) w.id.bytes)
  fault-alone (inr (inr v)) a w =
      let at : kind_at l.kinds w.n ≡ kind_at l.kinds v.n = ap (kind_at l.kinds) (id-same l w.n v.n w.id.stands v.id.stands) in
      let z : ◌≡◌ {A = ℕ} 10 13 = sym w.bracket ∙ at ∙ v.comma in
      omega (arith, z)

  fault-text : Fault → (a : Numbers) → WithText is_entire_line l a → ⊥
  fault-text (inl h) a w = true≢false (sym w.id.stands.ends ∙ h w.n w.id.stands.among)
  fault-text (inr (inl v)) a w = v.none (subst (SomeBytes l) (id-same l w.n v.n w.id.stands v.stands) w.id.bytes)
  fault-text (inr (inr v)) a w = v.nowhere w.p (subst (λ (n : ℕ). Closes is_entire_line l.kinds n w.p) (id-same l w.n v.n w.id.stands v.id.stands) w.closes)

  fault-none : Fault → (a : Numbers) → Anchored is_entire_line l a → ⊥
  fault-none f a (inl w) = fault-alone f a w
  fault-none f a (inr w) = fault-text f a w

  -- ---- any line: what each check gives

  refused-due : (n : ℕ) → refusal most_tokens l ≡ suc n → anchor is_entire_line l ≡ refused (suc n)
  unfolding anchor
  refused-due n e = rw e

  pub none-due : refusal most_tokens l ≡ 0 → begins_none (kind_at l.kinds 0) ≡ true → anchor is_entire_line l ≡ no_anchor
  unfolding anchor unrefused
  none-due e b = rw (e, b)

  read-due : refusal most_tokens l ≡ 0 → begins_none (kind_at l.kinds 0) ≡ false → anchor is_entire_line l ≡ read
  unfolding anchor unrefused
  read-due e b = rw (e, b)

  -- an anchor in words is the one that is read
  pub anchored-read : refusal most_tokens l ≡ 0 → begins_none (kind_at l.kinds 0) ≡ false → (a : Numbers) → Anchored is_entire_line l a → anchor is_entire_line l ≡ a
  anchored-read e b a w = read-due e b ∙ is-read a w

  -- and where one of the three faults is so, 12 is due
  pub malformed-due : Malformed is_entire_line l → anchor is_entire_line l ≡ refused anchor_malformed
  malformed-due w = by read-either
    where
      by : Either read → anchor is_entire_line l ≡ refused anchor_malformed
      by (inl e) = read-due w.checked w.begins ∙ e.0
      by (inr v) = absurd (fault-none w.fault read v)

  -- what the checks of a line refuse is 1 to 6
  few : (t : Bool) (n rest : ℕ) → n ≤ 6 → rest ≤ 6 → check t n rest ≤ 6
  few true n rest h g = h
  few false n rest h g = g

  refusal-few : refusal most_tokens l ≤ 6
  unfolding refusal
  refusal-few =
      few _ 1 _ (omega arith)
      (few _ 2 _ (omega arith) (few _ 3 _ (omega arith) (few _ 4 _ (omega arith) (few _ 5 _ (omega arith) (few _ 6 0 (omega arith) (omega arith))))))

  anchored-numbers : (a : Numbers) → Anchored is_entire_line l a → (a.refusal ≡ 0) × (a.anchor ≡ 1)
  anchored-numbers a (inl w) = (ap (λ (x : Numbers). x.refusal) w.numbers, ap (λ (x : Numbers). x.anchor) w.numbers)
  anchored-numbers a (inr w) = (ap (λ (x : Numbers). x.refusal) w.numbers, ap (λ (x : Numbers). x.anchor) w.numbers)

  -- what a line is that checks 1 to 6 let through
  module _ (P : Type 0) (none : refusal most_tokens l ≡ 0 → begins_none (kind_at l.kinds 0) ≡ true → anchor is_entire_line l ≡ no_anchor → P)
      (malformed : Malformed is_entire_line l → anchor is_entire_line l ≡ refused anchor_malformed → P)
      (anchored : refusal most_tokens l ≡ 0 → begins_none (kind_at l.kinds 0) ≡ false → Anchored is_entire_line l (anchor is_entire_line l) → P)
      (refused_by : (n : ℕ) → suc n ≤ 6 → anchor is_entire_line l ≡ refused (suc n) → P) where
    one-of : P
    one-of = checks (refusal most_tokens l) refl
      where
        some : refusal most_tokens l ≡ 0 → begins_none (kind_at l.kinds 0) ≡ false → Either read → P
        some c b (inl e) = malformed (record { checked = c; begins = b; fault = e.1 }) (read-due c b ∙ e.0)
        some c b (inr w) = anchored c b (subst (Anchored is_entire_line l) (sym (read-due c b)) w)

        first : refusal most_tokens l ≡ 0 → (t : Bool) → begins_none (kind_at l.kinds 0) ≡ t → P
        first c true b = none c b (none-due c b)
        first c false b = some c b read-either

        checks : (r : ℕ) → refusal most_tokens l ≡ r → P
        checks zero c = first c (begins_none (kind_at l.kinds 0)) refl
        checks (suc n) c = refused_by n (omega (arith, c, refusal-few)) (refused-due n c)

  told-refusal : (a : Numbers) → anchor is_entire_line l ≡ a → (anchor is_entire_line l).refusal ≡ a.refusal
  told-refusal a = ap (λ (x : Numbers). x.refusal)

  told-anchor : (a : Numbers) → anchor is_entire_line l ≡ a → (anchor is_entire_line l).anchor ≡ a.anchor
  told-anchor a = ap (λ (x : Numbers). x.anchor)

  -- where 12 is answered, one of the three faults is so
  pub malformed : (anchor is_entire_line l).refusal ≡ anchor_malformed → Malformed is_entire_line l
  malformed e =
      one-of (Malformed is_entire_line l) (λ c b f. absurd (omega (arith, e, told-refusal no_anchor f))) (λ w f. w)
      (λ c b w. absurd (omega (arith, e, (anchored-numbers (anchor is_entire_line l) w).0))) (λ n h f. absurd (omega (arith, e, h, told-refusal (refused (suc n)) f)))

  -- what is answered as an anchor is one in words
  abbrev pub IsAnchored : Type 0
  IsAnchored = (refusal most_tokens l ≡ 0) × (begins_none (kind_at l.kinds 0) ≡ false) × Anchored is_entire_line l (anchor is_entire_line l)

  pub anchored-only : (anchor is_entire_line l).anchor ≡ 1 → IsAnchored
  anchored-only e =
      one-of IsAnchored (λ c b f. absurd (omega (arith, e, told-anchor no_anchor f))) (λ w f. absurd (omega (arith, e, told-anchor (refused anchor_malformed) f))) (λ c b w. (c, b, w))
      (λ n h f. absurd (omega (arith, e, told-anchor (refused (suc n)) f)))

  -- and where there is no anchor and no refusal, the first token says so
  abbrev pub BeginsNone : Type 0
  BeginsNone = (refusal most_tokens l ≡ 0) × (begins_none (kind_at l.kinds 0) ≡ true)

  pub none-only : (anchor is_entire_line l).refusal ≡ 0 → (anchor is_entire_line l).anchor ≡ 0 → BeginsNone
  none-only e g =
      one-of BeginsNone (λ c b f. (c, b)) (λ w f. absurd (omega (arith, e, told-refusal (refused anchor_malformed) f)))
      (λ c b w. absurd (omega (arith, g, (anchored-numbers (anchor is_entire_line l) w).1))) (λ n h f. absurd (omega (arith, e, told-refusal (refused (suc n)) f)))

  -- "a whole line .. is all consumed" after the Comma
  pub all-consumed : (a : Numbers) → WithText true l a → a.consumed ≡ length l.kinds
  all-consumed a w = ap (λ (x : Numbers). x.consumed) w.numbers ∙ w.closes.closing

  -- ---- where the runs stand

  alone-fits : (n : ℕ) → IsId l n → Within (length l.kinds) (found (run 0 n) empty_run (min (n + 2) (length l.kinds)) false)
  alone-fits n w =
      record {
        id_first = refl;
        id_some = omega (arith, w.bytes.within);
        id_within = omega (arith, w.stands.among);
        text_after = λ h. absurd (omega (arith, h));
        text_within = omega arith;
        consumed = omega arith;
      }

  -- the run of a text of m tokens from place s on
  run-fits : (s m : ℕ) → (0 < (text_run s m).count → (text_run s m).place.0 ≡ s) × ((text_run s m).place.0 + (text_run s m).count ≤ s + m)
  unfolding text_run
  run-fits s zero = (λ h. absurd (omega (arith, h)), omega arith)
  run-fits s (suc m) = (λ h. refl, omega arith)

  text-fits : (n p : ℕ) → IsId l n → Closes is_entire_line l.kinds n p
      → Within (length l.kinds) (found (run 0 n) (text_run (n + 1) (p - (n + 1))) (p + 2) (counts_as_discard (drop (n + 1) l.kinds) (p - (n + 1))))
  text-fits n p w c =
      let r = run-fits (n + 1) (p - (n + 1)) in
      record {
        id_first = refl;
        id_some = omega (arith, w.bytes.within);
        id_within = omega (arith, c.after);
        text_after = λ h. omega (arith, r.0 h);
        text_within = omega (arith, r.1, c.after);
        consumed = omega (arith, in-line l.kinds (p + 1) c.another);
      }

  pub within : (a : Numbers) → Anchored is_entire_line l a → Within (length l.kinds) a
  within a (inl w) = subst (Within (length l.kinds)) (sym w.numbers) (alone-fits w.n w.id)
  within a (inr w) = subst (Within (length l.kinds)) (sym w.numbers) (text-fits w.n w.p w.id w.closes)
