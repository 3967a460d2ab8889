-- Parts of the text by their places, and laws for each way through the loops that find them.
use Prim.Native.Nat.{ℕ, zero, suc, ◌+◌, ◌-◌, ◌≤◌, ◌<◌}
use Rattle.std.specs.Prelude.{◌≡◌, refl, Bool, true, false, cond, ◌||◌, List, [], ◌∷◌, ◌++◌, eqb, ltb, leb, drop, position, Some, None}
use Rattle.std.proofs.Common.{sym, ◌∙◌, drop_of_length-le, drop-drop, take-suc, get_or-drop, length-take-le, take_all}
use Rattle.std.proofs.Math.Path.{ap}
use Rattle.std.proofs.Math.Bool.{and-false, or_assoc}
use Rattle.std.proofs.lemmas.Bool.{false≢true}
use native.Mathlib.Omega.{arith}
use Rattle.std.proofs.Math.Numerals.{add-one}
use borrow.Author.Tests.{ne_eqb, le-leb, lt-leb, lt-ltb, leb-true, ltb-false}
use Rattle.std.specs.Option.{unwrap_or}
use Rattle.std.specs.List.{slice_split, onto_first, All, IsFirstMatchOrLen, position_or_len}
use Rattle.std.proofs.lemmas.List.Recursion.{is_position_or_len}
use Rattle.std.specs.Bool.{MatchBool}
use Rattle.std.specs.Fn.{ComputesKey}
use Rattle.std.specs.Slice.Iter.{split_steps, split_rest, split_done, split_callee}
use Rattle.std.specs.declared.slice.Split.{Split}
use Rattle.std.proofs.lemmas.List.Splits.{slice_split_none, slice_split_at}
use Rattle.std.proofs.lemmas.Grind.{common_steps}
use denote.Ref.{Bor}
use denote.Param.Members.{Mut}
use mathlib.Core.Path.{subst}
use Rattle.std.specs.Int.Bits.{bit_or, or_zero_l, or_zero_r, or_self}
use Rattle.std.proofs.Math.Dec.{leb-suc-suc}
use Rattle.std.proofs.Math.ListN.{length, take, get_or, length-drop}
use Rattle.std.proofs.Math.Seq.{drop-cons}
use Rattle.substitutions.specs.Kinds.{one}
use Rattle.substitutions.proofs.KindsLaws.{bool_eq}
use Rattle.customize_subs.specs.Text.{on_first, split, front, blank, back, is_modifier, modified}
use Rattle.customize_subs.proofs.Places.{to_comma, between, parts_from}

-- 1 where f is 1 or t holds, else 0.
pub found-or : (f : ℕ) (t : Bool) → f ≤ 1 → (bit_or f (one t) ≤ 1) × (eqb (bit_or f (one t)) 1 ≡ (eqb f 1 || t))
found-or zero true le = rw (or_zero_l 1) (omega arith, refl)
found-or zero false le = rw (or_zero_l 0) (omega arith, refl)
found-or (suc zero) true le = rw (or_self 1) (omega arith, refl)
found-or (suc zero) false le = rw (or_zero_r 1) (omega arith, refl)
found-or (suc (suc n)) t le = absurd (omega arith)

-- The first comma.
pub comma-end : (text : List ℕ) (i : ℕ) → length text ≤ i → to_comma (drop i text) ≡ 0
unfolding to_comma
comma-end text i h = rw (drop_of_length-le text h)

module _ (text : List ℕ) (i : ℕ) (lt : i < length text) where
  pub comma-here : get_or text i 0 ≡ 44 → to_comma (drop i text) ≡ 0
  unfolding to_comma
  comma-here h = rw (drop-cons text i 0 lt, h)

  pub comma-next : (get_or text i 0 ≡ 44 → ⊥) → to_comma (drop i text) ≡ to_comma (drop (i + 1) text) + 1
  unfolding to_comma
  comma-next h = rw (drop-cons text i 0 lt, ne_eqb (get_or text i 0) 44 h, add-one i, add-one (to_comma (drop (suc i) text)))

  -- Any + or -.
  pub modified-next : modified (drop i text) ≡ (is_modifier (get_or text i 0) || modified (drop (i + 1) text))
  unfolding modified
  modified-next = rw (drop-cons text i 0 lt, add-one i)

  -- f is 1 where one of the bytes before place i is a + or -, else 0
  pub modified-found : (f : ℕ) (m : Bool) → f ≤ 1 → (eqb f 1 || modified (drop i text)) ≡ m
      → (eqb (bit_or f (one (is_modifier (get_or text i 0)))) 1 || modified (drop (i + 1) text)) ≡ m
  modified-found f m le h =
      let t = is_modifier (get_or text i 0) in
      let rest = modified (drop (i + 1) text) in
      ap (λ (x : Bool). x || rest) (found-or f t le).1 ∙ or_assoc (eqb f 1) t rest ∙ ap (λ (x : Bool). eqb f 1 || x) (sym modified-next) ∙ h

  -- f says whether one of the bytes before place i is a + or -
  pub modified-so-far : (f m : Bool) → (f || modified (drop i text)) ≡ m
      → ((f || is_modifier (get_or text i 0)) || modified (drop (i + 1) text)) ≡ m
  modified-so-far f m h =
      or_assoc f (is_modifier (get_or text i 0)) (modified (drop (i + 1) text)) ∙ ap (λ (x : Bool). f || x) (sym modified-next) ∙ h

pub modified-begins : (text : List ℕ) → is_modifier (get_or text 0 0) ≡ true → modified text ≡ true
unfolding modified
modified-begins [] e = absurd (false≢true e)
modified-begins (b ∷ bs) e = rw e

pub begins-none : (text : List ℕ) → length text ≡ 0 → false ≡ is_modifier (get_or text 0 0)
begins-none [] e = refl
begins-none (b ∷ bs) e = absurd (omega (arith, e))

pub one-is : (t : Bool) → eqb (one t) 1 ≡ t
one-is true = refl
one-is false = refl

pub modified-end : (text : List ℕ) (i : ℕ) → length text ≤ i → false ≡ modified (drop i text)
unfolding modified
modified-end text i h = rw (drop_of_length-le text h)

-- Bytes between two places.
pub between_none : (a e : ℕ) (l : List ℕ) → e ≤ a → between a e l ≡ []
unfolding between
between_none a e l h =
    let z : e - a ≡ 0 = omega arith in
    rw z

pub between-length : (a e : ℕ) (l : List ℕ) → e ≤ length l → length (between a e l) ≡ e - a
unfolding between
between-length a e l h = length-take-le (e - a) (drop a l) (omega (arith, length-drop a l))

module _ (a e : ℕ) (l : List ℕ) (lt : a < e) (le : e ≤ length l) where
  pub between_cons : between a e l ≡ get_or l a 0 ∷ between (a + 1) e l
  unfolding between
  between_cons =
      let m : e - a ≡ suc (e - (a + 1)) = omega arith in
      let h : a < length l = omega arith in
      rw (m, drop-cons l a 0 h, add-one a)

  pub between-snoc : between a e l ≡ between a (e - 1) l ++ (get_or l (e - 1) 0 ∷ [])
  unfolding between
  between-snoc =
      let m : e - a ≡ suc (e - 1 - a) = omega arith in
      let i : a + (e - 1 - a) ≡ e - 1 = omega arith in
      rw m
      (take-suc (drop a l) (e - 1 - a) 0 (omega (arith, length-drop a l))
      ∙ ap (λ (x : ℕ). take (e - 1 - a) (drop a l) ++ (x ∷ [])) (get_or-drop a l (e - 1 - a) 0 ∙ ap (λ (n : ℕ). get_or l n 0) i))

  pub front-next : get_or l a 0 ≡ 32 → front (between (a + 1) e l) ≡ front (between a e l)
  unfolding front
  front-next h = rw (between_cons, h)

  pub front-stop : (get_or l a 0 ≡ 32 → ⊥) → between a e l ≡ front (between a e l)
  unfolding front
  front-stop h = rw (between_cons, ne_eqb (get_or l a 0) 32 h)

pub front-end : (a e : ℕ) (l : List ℕ) → e ≤ a → between a e l ≡ front (between a e l)
unfolding front
front-end a e l h = rw (between_none a e l h)

pub back_end : (a e : ℕ) (l : List ℕ) → e ≤ a → between a e l ≡ back (between a e l)
unfolding back
back_end a e l h = rw (between_none a e l h)

-- Spaces at the end.
blank-space : (l : List ℕ) → blank (l ++ (32 ∷ [])) ≡ blank l
unfolding blank
blank-space [] = refl
blank-space (b ∷ l) = rw (blank-space l)

back-space : (l : List ℕ) → back (l ++ (32 ∷ [])) ≡ back l
unfolding back blank
back-space [] = refl
back-space (b ∷ l) = rw (blank-space l, back-space l)

blank-stop : (l : List ℕ) (b : ℕ) → (b ≡ 32 → ⊥) → blank (l ++ (b ∷ [])) ≡ false
unfolding blank
blank-stop [] b h = rw (ne_eqb b 32 h)
blank-stop (x ∷ l) b h = rw (blank-stop l b h, and-false (eqb x 32))

back-stop : (l : List ℕ) (b : ℕ) → (b ≡ 32 → ⊥) → l ++ (b ∷ []) ≡ back (l ++ (b ∷ []))
unfolding back
back-stop [] b h = rw (blank-stop [] b h)
back-stop (x ∷ l) b h = rw (blank-stop (x ∷ l) b h) (ap (λ (t : List ℕ). x ∷ t) (back-stop l b h))

module _ (a e : ℕ) (l : List ℕ) (lt : a < e) (le : e ≤ length l) where
  pub back-next : get_or l (e - 1) 0 ≡ 32 → back (between a (e - 1) l) ≡ back (between a e l)
  back-next h = rw (between-snoc a e l lt le, h) (sym (back-space (between a (e - 1) l)))

  pub back-here : (get_or l (e - 1) 0 ≡ 32 → ⊥) → between a e l ≡ back (between a e l)
  back-here h = rw (between-snoc a e l lt le) (back-stop (between a (e - 1) l) (get_or l (e - 1) 0) h)

-- The first part, and the parts behind its comma.
rest : ℕ → List ℕ → List (List ℕ)
rest n xs = cond (ltb n (length xs)) (split (drop (suc n) xs)) []

split-first : (xs : List ℕ) → split xs ≡ take (to_comma xs) xs ∷ rest (to_comma xs) xs
unfolding split to_comma on_first rest
split-first [] = refl
split-first (b ∷ bs) = by (eqb b 44) (split-first bs)
  where
    by : (t : Bool) → split bs ≡ take (to_comma bs) bs ∷ rest (to_comma bs) bs
        → cond t ([] ∷ split bs) (on_first b (split bs)) ≡ take (cond t 0 (suc (to_comma bs))) (b ∷ bs) ∷ rest (cond t 0 (suc (to_comma bs))) (b ∷ bs)
    by true ih = rw (lt-ltb 0 (suc (length bs)) (omega arith))
    by false ih = rw (ih, leb-suc-suc (suc (to_comma bs)) (length bs))

-- two tests are the same where the facts are
leb-same : (a b c d : ℕ) → (a ≤ b → c ≤ d) → (c ≤ d → a ≤ b) → leb a b ≡ leb c d
leb-same a b c d f g = bool_eq (leb a b) (leb c d) (λ e. le-leb c d (f (leb-true a b e))) (λ e. le-leb a b (g (leb-true c d e)))

rest_from : (n start : ℕ) (text : List ℕ) → start ≤ length text → rest n (drop start text) ≡ parts_from (start + n + 1) text
unfolding parts_from rest
rest_from n start text h =
    let e : start + suc n ≡ start + n + 1 = omega arith in
    rw (
      length-drop start text,
      drop-drop (suc n) start text,
      e,
      leb-same (suc n) (length text - start) (start + n + 1) (length text) (λ p. omega arith) (λ p. omega arith),
    )

parts-some : (start : ℕ) (text : List ℕ) → start ≤ length text → parts_from start text ≡ split (drop start text)
unfolding parts_from
parts-some start text h = rw (le-leb start (length text) h)

pub parts-cons : (start end : ℕ) (text : List ℕ) → start ≤ length text → end ≡ start + to_comma (drop start text)
    → parts_from start text ≡ between start end text ∷ parts_from (end + 1) text
unfolding between
parts-cons start end text h e =
    let ys = drop start text in
    let n : end - start ≡ to_comma ys = omega arith in
    rw (n, e) (parts-some start text h ∙ split-first ys ∙ ap (λ (l : List (List ℕ)). take (to_comma ys) ys ∷ l) (rest_from (to_comma ys) start text h))

pub parts_none : (start : ℕ) (text : List ℕ) → length text < start → parts_from start text ≡ []
unfolding parts_from
parts_none start text h = rw (lt-leb start (length text) h)

pub parts_all : (text : List ℕ) → parts_from 0 text ≡ split text
unfolding parts_from
parts_all text = rw (le-leb 0 (length text) (omega arith))

-- The first comma, by std's name for its place.
pub first-comma : (xs : List ℕ) → to_comma xs ≡ position_or_len (λ b. eqb b 44) xs
unfolding to_comma
first-comma = is_position_or_len to_comma (λ b. eqb b 44) refl (λ x xs. let one : suc (to_comma xs) ≡ 1 + to_comma xs = omega arith in ap (λ (n : ℕ). cond (eqb x 44) 0 n) one)

to_comma-le : (xs : List ℕ) → to_comma xs ≤ length xs
unfolding to_comma
to_comma-le [] = omega arith
to_comma-le (b ∷ bs) = by (eqb b 44) (to_comma-le bs)
  where
    by : (t : Bool) → to_comma bs ≤ length bs → cond t 0 (suc (to_comma bs)) ≤ suc (length bs)
    by true h = omega arith
    by false h = omega (arith, h)

-- The search for it, which finds its place or none.
found-or-all : (n m : ℕ) (t : Bool) → n ≤ m → ltb n m ≡ t → (unwrap_or (cond t (Some n) None) m ≡ n) × (unwrap_or (cond t (Some n) None) m ≤ m)
found-or-all n m true few h = (refl, few)
found-or-all n m false few h = (omega (arith, few, ltb-false n m h), omega arith)

pub comma-found : (xs : List ℕ) → (unwrap_or (position (λ b. eqb b 44) xs) (length xs) ≡ position_or_len (λ b. eqb b 44) xs) × (unwrap_or (position (λ b. eqb b 44) xs) (length xs) ≤ length xs)
comma-found xs = found-or-all (position_or_len (λ b. eqb b 44) xs) (length xs) _ (omega (arith, to_comma-le xs, first-comma xs)) refl

-- The parts are those that std's `split` gives.
pub split-is : (xs : List ℕ) → slice_split (λ b. eqb b 44) xs ≡ split xs
unfolding split on_first
split-is [] = refl
split-is (b ∷ bs) = rw (split-is bs) (ap (λ (l : List (List ℕ)). cond (eqb b 44) ([] ∷ split bs) l) (onto-is b (split bs)))
  where
    onto-is : (b : ℕ) (parts : List (List ℕ)) → onto_first b parts ≡ on_first b parts
    onto-is b [] = refl
    onto-is b (p ∷ ps) = refl

-- The parts that std's `split` still has to give, and what one call of its `next` says of them.
abbrev pub parts_left : {F : Type 0} → Split ℕ F → List (List ℕ)
parts_left s = cond (split_done s) [] (split (split_rest s))

first-part : (p : ℕ → Bool) (xs x rest : List ℕ) (done : Bool) → MatchBool done (xs ≡ x) ((y : ℕ) × (xs ≡ x ++ (y ∷ rest))) → IsFirstMatchOrLen p xs (length x)
    → slice_split p xs ≡ x ∷ cond done [] (slice_split p rest)
first-part p xs x rest true e h = ap (slice_split p) e ∙ slice_split_none p x (λ k d l. subst (λ (ys : List ℕ). p (get_or ys k d) ≡ false) e (h.0 k d (omega arith) l))
first-part p xs x rest false e h =
    let front : All (λ z. p z ≡ false) x = λ k d l. let a = h.0 k d (omega arith) l in let b = e.1 in grind (arith, common_steps) in
    let hit : p e.0 ≡ true = let b = e.1 in let a = h.1 (grind (arith, common_steps)) e.0 in grind (arith, common_steps) in
    ap (slice_split p) e.1 ∙ slice_split_at p x e.0 rest front hit

module _ {F : Type 0} (g : Mut F (Bor ℕ × Unit {0}) Bool) (s t : Split ℕ F) where
  pub part-next : (x : Bor (List ℕ)) → split_steps g s (Some x) t → ComputesKey g (λ b. eqb b 44) (split_callee s) → parts_left s ≡ x.now ∷ parts_left t
  part-next x k h =
      ap (λ (b : Bool). cond b [] (split (split_rest s))) k.0
      ∙ sym (split-is (split_rest s))
      ∙ first-part (λ b. eqb b 44) (split_rest s) x.now (split_rest t) (split_done t) k.1 (k.2 (λ b. eqb b 44) h).1
      ∙ ap (λ (l : List (List ℕ)). x.now ∷ cond (split_done t) [] l) (split-is (split_rest t))

pub parts-start : {F : Type 0} (s : Split ℕ F) (text : List ℕ) → split_rest s ≡ text → split_done s ≡ false → parts_left s ≡ split text
parts-start s text e d = ap (λ (b : Bool). cond b [] (split (split_rest s))) d ∙ ap split e

pub parts-over : {F : Type 0} (s : Split ℕ F) → split_done s ≡ true → parts_left s ≡ []
parts-over s d = ap (λ (b : Bool). cond b [] (split (split_rest s))) d

-- Spaces taken off one by one, at the front and at the end of a list.
pub front_more : (l : List ℕ) → 1 ≤ length l → get_or l 0 0 ≡ 32 → front (take (length l - 1) (drop 1 l)) ≡ front l
unfolding front
front_more [] h e = absurd (omega arith)
front_more (b ∷ bs) h e = rw (e, take_all (suc (length bs) - 1) bs (omega arith))

pub front_over : (l : List ℕ) → (get_or l 0 0 ≡ 32 → ⊥) → l ≡ front l
unfolding front
front_over [] e = refl
front_over (b ∷ bs) e = rw (ne_eqb b 32 e)

pub front_none : (l : List ℕ) → length l < 1 → l ≡ front l
unfolding front
front_none [] h = refl
front_none (b ∷ bs) h = absurd (omega arith)

pub back_none : (l : List ℕ) → length l < 1 → l ≡ back l
unfolding back
back_none [] h = refl
back_none (b ∷ bs) h = absurd (omega arith)

whole : (l : List ℕ) → between 0 (length l) l ≡ l
unfolding between
whole l = take_all (length l - 0) l (omega arith)

pub back_more : (l : List ℕ) → 1 ≤ length l → get_or l (length l - 1) 0 ≡ 32 → back (take (length l - 1) l) ≡ back l
unfolding between
back_more l h e =
    let m : length l - 1 - 0 ≡ length l - 1 = omega arith in
    ap (λ (n : ℕ). back (take n l)) (sym m) ∙ back-next 0 (length l) l (omega arith) (omega arith) e ∙ ap back (whole l)

pub back_over : (l : List ℕ) → 1 ≤ length l → (get_or l (length l - 1) 0 ≡ 32 → ⊥) → l ≡ back l
back_over l h e = sym (whole l) ∙ back-here 0 (length l) l (omega arith) (omega arith) e ∙ ap back (whole l)
