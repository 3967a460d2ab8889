-- Laws of reading a part and of entering it, one for each way through the code.
use Rattle.std.specs.Prelude.{ℕ, ◌+◌, ◌-◌, ◌≤◌, ◌<◌, ◌≡◌, Bool, ◌&&◌, List, [], ◌∷◌, drop, eqb}
use Rattle.std.specs.List.{position_or_len}
use Rattle.std.proofs.Math.Path.{refl, sym, ap}
use Rattle.std.proofs.Common.{◌∙◌, get_or-take, length-drop, take-take, take_all}
use Rattle.std.proofs.Math.Bool.{true, false, cond}
use Rattle.std.proofs.lemmas.Bool.{false≢true}
use native.Mathlib.Omega.{arith}
use borrow.Author.Tests.{eq-eqb, ne_eqb, lt-ltb, le-ltb, ltb-false, not-true}
use Rattle.std.proofs.Math.Dec.{ltb}
use Rattle.std.proofs.Math.ListN.{length, take, get_or}
use Rattle.std.proofs.Math.Seq.{get_or-drop}
use Rattle.refusals.specs.Refusals.{subs_text_too_long}
use Rattle.substitutions.specs.declared.Substitutions.{Substitutions}
use Rattle.substitutions.specs.declared.Mode.{Mode}
use Rattle.std.proofs.Common.{drop_of_length-le, drop-cons, map}
use Rattle.std.proofs.Math.Numerals.{add-one}
use Rattle.substitutions.specs.declared.Subs.{Subs}
use Rattle.substitutions.specs.Kinds.{number_of, flagged}
use Rattle.substitutions.specs.Moves.{refusal_of, insert_of, remove_of}
use Rattle.std.specs.Prelude.{Option}
use Rattle.subs_names.specs.declared.StepOrGroup.{StepOrGroup}
use Rattle.substitutions.specs.declared.Move.{Move}
use Rattle.substitutions.specs.declared.Move.TheVariants.{Insert, Prepend, Remove}
use Rattle.subs_names.specs.Names.{lookup_of}
use Rattle.customize_subs.specs.Text.{split, first_of, last_of}
use Rattle.customize_subs.specs.Customizing.{part_of, move_of, entered, strategy_of, name_of, entered_name, stepped, through, start_of, meta_of, meta_refusal}
use Rattle.customize_subs.proofs.TextLaws.{between-length, between_cons, first-comma, parts-cons, parts_none}
use Rattle.customize_subs.proofs.Places.{to_comma, between, parts_from, front_of, PartAt, named, named_at, NameAt}
use Rattle.customize_subs.specs.Steps.{is_no_op}

-- A set that is_no_op is what the move gives.
pub no-op-same : (m : Mode) (t : Move) (k : ℕ) (s : Substitutions) → is_no_op t k s ≡ true → s ≡ move_of m t k s
unfolding insert_of remove_of
no-op-same m Insert k s e = rw e refl
no-op-same m Prepend k s e = absurd (false≢true e)
no-op-same m Remove k s e = rw (not-true (flagged k s.flags) e) refl

-- The first and the last byte of a part, and what is left without it.
module _ (a e : ℕ) (l : List ℕ) (lt : a < e) (le : e ≤ length l) where
  first-is : first_of (between a e l) ≡ get_or l a 0
  first-is = rw (between_cons a e l lt le)

  last-is : last_of (between a e l) ≡ get_or l (e - 1) 0
  unfolding between
  last-is =
      let m : length (take (e - a) (drop a l)) ≡ e - a = between-length a e l le in
      let n : a + (e - a - 1) ≡ e - 1 = omega arith in
      rw m (get_or-take (e - a) (drop a l) (e - a - 1) 0 (omega arith) ∙ get_or-drop a l (e - a - 1) 0 ∙ ap (λ (n : ℕ). get_or l n 0) n)

  less-first : drop 1 (between a e l) ≡ between (a + 1) e l
  less-first = rw (between_cons a e l lt le)

  less-last : take (length (between a e l) - 1) (between a e l) ≡ between a (e - 1) l
  unfolding between
  less-last =
      let m : length (take (e - a) (drop a l)) ≡ e - a = between-length a e l le in
      let n : e - a - 1 ≡ e - 1 - a = omega arith in
      rw m (take-take (e - a - 1) (e - a) (drop a l) (omega arith) ∙ ap (λ (n : ℕ). take n (drop a l)) n)

  -- The move that a part asks for, and its name.
  abbrev part : List ℕ
  part = between a e l

  pub reads-plus : get_or l a 0 ≡ 43 → NameAt a e l (named Insert (a + 1) e)
  unfolding strategy_of name_of named_at
  reads-plus p =
      let f = eq-eqb (first_of part) 43 (first-is ∙ p) in
      record { places = rw f; strategy = rw f; name = rw f (sym less-first) }

  pub reads-trailing : (get_or l a 0 ≡ 43 → ⊥) → get_or l (e - 1) 0 ≡ 43 → NameAt a e l (named Prepend a (e - 1))
  unfolding strategy_of name_of named_at
  reads-trailing p q =
      let f = ne_eqb (first_of part) 43 (λ z. p (sym first-is ∙ z)) in
      let g = eq-eqb (last_of part) 43 (last-is ∙ q) in
      record { places = rw (f, g); strategy = rw (f, g); name = rw (f, g) (sym less-last) }

  pub reads-minus : (get_or l a 0 ≡ 43 → ⊥) → (get_or l (e - 1) 0 ≡ 43 → ⊥) → get_or l a 0 ≡ 45 → NameAt a e l (named Remove (a + 1) e)
  unfolding strategy_of name_of named_at
  reads-minus p q r =
      let f = ne_eqb (first_of part) 43 (λ z. p (sym first-is ∙ z)) in
      let g = ne_eqb (last_of part) 43 (λ z. q (sym last-is ∙ z)) in
      let h = eq-eqb (first_of part) 45 (first-is ∙ r) in
      record { places = rw (f, g, h); strategy = rw (f, g, h); name = rw (f, g, h) (sym less-first) }

  pub reads_plain : (get_or l a 0 ≡ 43 → ⊥) → (get_or l (e - 1) 0 ≡ 43 → ⊥) → (get_or l a 0 ≡ 45 → ⊥) → NameAt a e l (named Insert a e)
  unfolding strategy_of name_of named_at
  reads_plain p q r =
      let f = ne_eqb (first_of part) 43 (λ z. p (sym first-is ∙ z)) in
      let g = ne_eqb (last_of part) 43 (λ z. q (sym last-is ∙ z)) in
      let h = ne_eqb (first_of part) 45 (λ z. r (sym first-is ∙ z)) in
      record { places = rw (f, g, h); strategy = rw (f, g, h); name = rw (f, g, h) }

-- Where a part stands, by the lengths of what stands there.
pub part-stands : (m : Mode) (a e from to : ℕ) (text : List ℕ) → e ≤ length text → from ≤ to → to ≤ e → between from e text ≡ front_of m (between a e text)
    → between from to text ≡ part_of m (between a e text) → PartAt m a e text (record { start = from; end = to })
part-stands m a e from to text le o u f p = record {
  begins = omega (arith, between-length from e text le, ap length f);
  ends = omega (arith, between-length from to text (omega arith), ap length p);
  part = p;
}

-- One turn of the loop over the parts: the part from start up to end, read by the mode, stands from a up to b.
pub stepped-short : (m : Mode) (s : Substitutions) (p : List ℕ) → length p < 4 → s ≡ stepped m s p
unfolding stepped
stepped-short m s p h = rw (lt-ltb (length p) 4 h)

stepped-long : (m : Mode) (s : Substitutions) (p : List ℕ) → 4 ≤ length p → entered_name m (strategy_of p) (lookup_of (name_of p)) s ≡ stepped m s p
unfolding stepped
stepped-long m s p h = rw (le-ltb (length p) 4 h)

-- One part, as it is read: its length, its move, its name and what that name is found to be.
module _ (m : Mode) (s : Substitutions) (p part : List ℕ) (q : p ≡ part) where
  pub part-short : length p < 4 → s ≡ stepped m s part
  part-short k = stepped-short m s p k ∙ ap (stepped m s) q

  pub part-named : (how : Move) (name : List ℕ) (found : Option StepOrGroup) → 4 ≤ length p → how ≡ strategy_of p → name ≡ name_of p → found ≡ lookup_of name
      → entered_name m how found s ≡ stepped m s part
  part-named how name found k w n f = rw (f, n, w) (stepped-long m s p k ∙ ap (stepped m s) q)

module _ (m : Mode) (s : Substitutions) (text : List ℕ) (start end : ℕ) (h : start ≤ length text) (e : end ≡ start + to_comma (drop start text)) where
  turn-with : (t : Substitutions) → t ≡ stepped m s (part_of m (between start end text))
      → through m t (parts_from (end + 1) text) ≡ through m s (parts_from start text)
  unfolding through
  turn-with t q = rw (parts-cons start end text h e, q)

  module _ (a b : ℕ) (le : b ≤ length text) (q : between a b text ≡ part_of m (between start end text)) where
    pub turn-short : b - a < 4 → through m s (parts_from (end + 1) text) ≡ through m s (parts_from start text)
    turn-short k = turn-with s (stepped-short m s (between a b text) (omega (arith, between-length a b text le)) ∙ ap (stepped m s) q)

    pub turn-name : (how : Move) (found : Option StepOrGroup) (name : List ℕ) (t : Substitutions) → 4 ≤ b - a → how ≡ strategy_of (between a b text)
        → name ≡ name_of (between a b text) → found ≡ lookup_of name → t ≡ entered_name m how found s
        → through m t (parts_from (end + 1) text) ≡ through m s (parts_from start text)
    turn-name how found name t k w n f r =
        turn-with t
        (r ∙ rw (f, n, w) (stepped-long m s (between a b text) (omega (arith, between-length a b text le)) ∙ ap (stepped m s) q))

-- The same where the part is cut off what is left of the text, as a slice of it.
module _ (text : List ℕ) (start : ℕ) where
  left : List ℕ
  left = take (length text - start) (drop start text)

  all-left : left ≡ drop start text
  unfolding left
  all-left = take_all (length text - start) (drop start text) (omega (arith, length-drop start text))

  pub left-long : length (take (length text - start) (drop start text)) ≡ length text - start
  unfolding left
  left-long = ap length all-left ∙ length-drop start text

  pub turn-cut : (m : Mode) (s : Substitutions) (size : ℕ) → start ≤ length text → size ≡ position_or_len (λ b. eqb b 44) (take (length text - start) (drop start text))
      → (t : Substitutions) → t ≡ stepped m s (part_of m (take size (take (length text - start) (drop start text))))
      → through m t (parts_from (start + (size + 1)) text) ≡ through m s (parts_from start text)
  unfolding between left
  turn-cut m s size h e t q =
      let n : start + size - start ≡ size = omega arith in
      let k : start + (size + 1) ≡ start + size + 1 = omega arith in
      let c = ap (λ (i : ℕ). start + i) (e ∙ ap (position_or_len (λ b. eqb b 44)) all-left ∙ sym (first-comma (drop start text))) in
      let p = ap (λ (r : List ℕ). stepped m s (part_of m (take size r))) all-left ∙ ap (λ (i : ℕ). stepped m s (part_of m (take i (drop start text)))) (sym n) in
      rw k (turn-with m s text start (start + size) h c t (q ∙ p))

pub turns-over : (m : Mode) (s : Substitutions) (text : List ℕ) (start : ℕ) → length text < start → through m s (parts_from start text) ≡ s
unfolding through
turns-over m s text start h = rw (parts_none start text h)

-- The parts one after the other.
pub through-next : (m : Mode) (s : Substitutions) (parts : List (List ℕ)) (part : List ℕ) (behind : List (List ℕ)) {next : Substitutions} → parts ≡ part ∷ behind
    → next ≡ stepped m s (part_of m part) → through m next behind ≡ through m s parts
unfolding through
through-next m s parts part behind e n = rw (e, n)

pub through-over : (m : Mode) (s : Substitutions) (parts : List (List ℕ)) → parts ≡ [] → s ≡ through m s parts
unfolding through
through-over m s parts e = rw e

-- Kinds one after the other.
module _ (m : Mode) (how : Move) (s r : Substitutions) where
  pub entered-none : s ≡ entered m how [] s
  unfolding entered
  entered-none = refl

  pub entered-one : (k : ℕ) → r ≡ move_of m how k s → r ≡ entered m how (k ∷ []) s
  unfolding entered
  entered-one k e = e

  pub entered-two : (k₁ k₂ : ℕ) (s₁ : Substitutions) → s₁ ≡ move_of m how k₁ s → r ≡ move_of m how k₂ s₁ → r ≡ entered m how (k₁ ∷ k₂ ∷ []) s
  unfolding entered
  entered-two k₁ k₂ s₁ e₁ e = e ∙ ap (move_of m how k₂) e₁

  pub entered-six : (k₁ k₂ k₃ k₄ k₅ k₆ : ℕ) (s₁ s₂ s₃ s₄ s₅ : Substitutions)
      → s₁ ≡ move_of m how k₁ s → s₂ ≡ move_of m how k₂ s₁ → s₃ ≡ move_of m how k₃ s₂ → s₄ ≡ move_of m how k₄ s₃ → s₅ ≡ move_of m how k₅ s₄ → r ≡ move_of m how k₆ s₅
      → r ≡ entered m how (k₁ ∷ k₂ ∷ k₃ ∷ k₄ ∷ k₅ ∷ k₆ ∷ []) s
  unfolding entered
  entered-six k₁ k₂ k₃ k₄ k₅ k₆ s₁ s₂ s₃ s₄ s₅ e₁ e₂ e₃ e₄ e₅ e =
      e ∙ ap (move_of m how k₆) (e₅ ∙ ap (move_of m how k₅) (e₄ ∙ ap (move_of m how k₄) (e₃ ∙ ap (move_of m how k₃) (e₂ ∙ ap (move_of m how k₂) e₁))))

-- Kinds of a list, from place i on.
module _ (m : Mode) (how : Move) (s r : Substitutions) (kinds : List Subs) (i : ℕ) where
  pub entered-next : (d : Subs) → i < length kinds → r ≡ move_of m how (number_of (get_or kinds i d)) s
      → entered m how (map number_of (drop (i + 1) kinds)) r ≡ entered m how (map number_of (drop i kinds)) s
  unfolding entered
  entered-next d lt e = rw (drop-cons kinds i d lt, add-one i, e)

pub entered-over : (m : Mode) (how : Move) (s : Substitutions) (kinds : List Subs) (i : ℕ) → length kinds ≤ i → s ≡ entered m how (map number_of (drop i kinds)) s
unfolding entered
entered-over m how s kinds i h = rw (drop_of_length-le kinds h)

-- The refusals.
module _ (m : Mode) (s : Substitutions) (text : List ℕ) where
  pub refusal-absent : (present : Bool) → present ≡ false → refusal_of m s ≡ meta_refusal m s present text
  unfolding meta_refusal
  refusal-absent present e = rw e

  pub refusal-long : (present : Bool) → present ≡ true → 65535 < length text → subs_text_too_long ≡ meta_refusal m s present text
  unfolding meta_refusal
  refusal-long present e h = rw (e, lt-ltb 65535 (length text) h)

  pub refusal-short : (present : Bool) → length text ≤ 65535 → refusal_of m s ≡ meta_refusal m s present text
  unfolding meta_refusal
  refusal-short true h = rw (le-ltb 65535 (length text) h)
  refusal-short false h = refl

  -- Where nothing is refused the text is not too long and the set is accepted.
  pub short-text : (present : Bool) → present ≡ true → meta_refusal m s present text ≡ 0 → length text ≤ 65535
  unfolding meta_refusal
  short-text present e z = by (ltb 65535 (length text)) refl (rw e at z)
    where
      by : (t : Bool) → ltb 65535 (length text) ≡ t → cond t subs_text_too_long (refusal_of m s) ≡ 0 → length text ≤ 65535
      by true q z = absurd (omega arith)
      by false q z = ltb-false 65535 (length text) q

  pub set-accepted : (present : Bool) → meta_refusal m s present text ≡ 0 → refusal_of m s ≡ 0
  unfolding meta_refusal
  set-accepted present z = by (present && ltb 65535 (length text)) z
    where
      by : (t : Bool) → cond t subs_text_too_long (refusal_of m s) ≡ 0 → refusal_of m s ≡ 0
      by true z = absurd (omega arith)
      by false z = z

  -- The set that is answered.
  pub meta-absent : (present : Bool) → present ≡ false → s ≡ meta_of m s present text
  unfolding meta_of
  meta-absent present e = rw e

  pub meta-present : (present : Bool) (b r : Substitutions) → present ≡ true → b ≡ start_of s text → r ≡ through m b (split text) → r ≡ meta_of m s present text
  unfolding meta_of
  meta-present present b r e q w = rw (e, sym q) w
