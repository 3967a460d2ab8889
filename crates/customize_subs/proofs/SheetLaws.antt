-- Sheet mode on sets is `Sheet` on their orders: for a sound set, what `meta_of Sheet` makes of it is the set of the order that
-- `sheet_order` makes of its order.
use Rattle.std.specs.Prelude.{ℕ, ◌-◌, ◌≤◌, ◌≡◌, Bool, cond, ◌&&◌, List, [], ◌∷◌, eqb, leb, ltb, length, take, drop}
use Rattle.std.proofs.Math.Path.{refl, ap}
use Rattle.std.proofs.Common.{sym, ◌∙◌, arith, eqb-true, leb-true}
use Rattle.std.proofs.Math.Bool.{true, false}
use Rattle.substitutions.specs.declared.Substitutions.{Substitutions}
use Rattle.substitutions.specs.declared.Mode.TheVariants.{Sheet}
use Rattle.substitutions.specs.Kinds.{flagged, one}
use Rattle.substitutions.specs.Held.{times, sound}
use Rattle.substitutions.specs.Moves.{empty_set, insert_of}
use Rattle.substitutions.specs.Order.{order_of, set_of}
use Rattle.substitutions.proofs.KindsLaws.{and_left, and_right}
use Rattle.substitutions.proofs.HeldLaws.{times-cons}
use Rattle.substitutions.proofs.MovesLaws.{sound-held}
use Rattle.substitutions.proofs.StartingLaws.{none-sound}
use Rattle.substitutions.proofs.OrderLaws.{others, insert-seven, remove-others, prepend-first, sound-set, sound-times}
use Rattle.subs_names.specs.declared.StepOrGroup.{StepOrGroup}
use Rattle.subs_names.specs.declared.StepOrGroup.TheVariants.{None, Normal, Verbatim, SpecialChars, Callouts, Quotes, Attributes, Replacements, Macros, PostReplacements}
use Rattle.std.specs.Prelude as looked_up
use Rattle.std.specs.Prelude.{Option, Some}
use Rattle.subs_names.specs.Names.{lookup_of}
use Rattle.substitutions.specs.declared.Move.{Move}
use Rattle.substitutions.specs.declared.Move.TheVariants.{Insert, Prepend, Remove}
use Rattle.customize_subs.specs.Text.{split, spaced, modified, first_of, last_of}
use Rattle.customize_subs.specs.Customizing.{move_of, kinds_of, entered, entered_name, strategy_of, name_of, stepped, through, start_of, meta_of}
use Rattle.customize_subs.proofs.MetaLaws.{kinds, kinds-right, moves-sound}
use Rattle.customize_subs.specs.Sheet.{steps_of, has, take_out, put_last, put_first, in_turn, appended, prepended, removed, by_name, on_part, on_parts, sheet_order}

-- A step is there exactly when it has a place.
has-none : (k : ℕ) (ps : List ℕ) → times k ps ≡ 0 → has k (order_of ps) ≡ false
unfolding has order_of
has-none k [] e = refl
has-none k (p ∷ ps) e = by (eqb p 0) (eqb p k) refl (has-none k ps)
  where
    by : (z t : Bool) → eqb p k ≡ t → (times k ps ≡ 0 → has k (order_of ps) ≡ false) → has k (cond z (order_of ps) (p ∷ order_of ps)) ≡ false
    by z true q ih = absurd (omega (arith, e, times-cons k p ps, ap one q))
    by true false q ih = ih (omega (arith, e, times-cons k p ps))
    by false false q ih = rw q (ih (omega (arith, e, times-cons k p ps)))

has_some : (k : ℕ) (ps : List ℕ) → 1 ≤ k → 1 ≤ times k ps → has k (order_of ps) ≡ true
unfolding has order_of times
has_some k [] a h = absurd (omega arith)
has_some k (p ∷ ps) a h = by (eqb p 0) refl (eqb p k) refl (has_some k ps a)
  where
    by : (z : Bool) → eqb p 0 ≡ z → (t : Bool) → eqb p k ≡ t → (1 ≤ times k ps → has k (order_of ps) ≡ true)
        → has k (cond z (order_of ps) (p ∷ order_of ps)) ≡ true
    by true z true q ih = absurd (omega (arith, eqb-true p 0 z, eqb-true p k q))
    by true z false q ih = ih (omega (arith, h, ap one q))
    by false z true q ih = rw q
    by false z false q ih = rw q (ih (omega (arith, h, ap one q)))

others-out : (k : ℕ) (l : List ℕ) → others k l ≡ take_out k l
unfolding others take_out
others-out k [] = refl
others-out k (x ∷ xs) = rw (others-out k xs)

-- A set and an order that go together.
abbrev Follows : Substitutions → List ℕ → Type 0
Follows s order = (sound s ≡ true) × (order_of s.places ≡ order)

-- What a part's move does to an order, by one step and by the steps of a name.
abbrev put : Move → ℕ → List ℕ → List ℕ
put Insert = put_last
put Prepend = put_first
put Remove = take_out

abbrev put_all : Move → List ℕ → List ℕ → List ℕ
put_all Insert = appended
put_all Prepend = prepended
put_all Remove = removed

all-in-turn : (how : Move) (steps order : List ℕ) → in_turn (put how) steps order ≡ put_all how steps order
all-in-turn Insert steps order = refl
all-in-turn Prepend steps order = refl
all-in-turn Remove steps order = refl

module _ (s : Substitutions) (k : ℕ) (a : 1 ≤ k) (b : k ≤ 7) (e : sound s ≡ true) where
  insert-puts : order_of (insert_of 7 k s).places ≡ put_last k (order_of s.places)
  unfolding put_last insert_of
  insert-puts = by (flagged k s.flags) refl
    where
      by : (t : Bool) → flagged k s.flags ≡ t → order_of (insert_of 7 k s).places ≡ put_last k (order_of s.places)
      by true f = rw (f, has_some k s.places a (omega (arith, sound-times s k a b e, ap one f)))
      by false f =
          insert-seven s k a b (sound-held s e) f
          ∙ rw (has-none k s.places (omega (arith, sound-times s k a b e, ap one f)))

  moves_put : (how : Move) → order_of (move_of Sheet how k s).places ≡ put how k (order_of s.places)
  unfolding put_first
  moves_put Insert = insert-puts
  moves_put Prepend = prepend-first s k a b (sound-held s e) ∙ rw (others-out k (order_of s.places))
  moves_put Remove = remove-others s k a b (sound-held s e) ∙ others-out k (order_of s.places)

follows-kind : (how : Move) (k : ℕ) (s : Substitutions) (order : List ℕ) → 1 ≤ k → k ≤ 7 → Follows s order → Follows (move_of Sheet how k s) (put how k order)
follows-kind how k s order a b h = (moves-sound how k s a b h.0, moves_put s k a b h.0 how ∙ ap (put how k) h.1)

follows-kinds : (how : Move) (ks : List ℕ) (s : Substitutions) (order : List ℕ) → kinds ks ≡ true → Follows s order → Follows (entered Sheet how ks s) (in_turn (put how) ks order)
unfolding kinds entered in_turn
follows-kinds how [] s order e h = h
follows-kinds how (k ∷ ks) s order e h =
    let f = and_left (leb 1 k && leb k 7) (kinds ks) e in
    follows-kinds how ks (move_of Sheet how k s) (put how k order) (and_right (leb 1 k && leb k 7) (kinds ks) e)
    (follows-kind how k s order (leb-true 1 k (and_left (leb 1 k) (leb k 7) f)) (leb-true k 7 (and_right (leb 1 k) (leb k 7) f)) h)

-- A name stands for the same kinds in both.
same-steps : (step : StepOrGroup) → kinds_of Sheet step ≡ steps_of step
same-steps None = refl
same-steps Normal = refl
same-steps Verbatim = refl
same-steps SpecialChars = refl
same-steps Callouts = refl
same-steps Quotes = refl
same-steps Attributes = refl
same-steps Replacements = refl
same-steps Macros = refl
same-steps PostReplacements = refl

follows-name : (how : Move) (found : Option StepOrGroup) (s : Substitutions) (order : List ℕ) → Follows s order → Follows (entered_name Sheet how found s) (by_name (put_all how) found order)
follows-name how (Some step) s order h =
    let r = follows-kinds how (kinds_of Sheet step) s order (kinds-right Sheet step) h in
    (r.0, r.1 ∙ all-in-turn how (kinds_of Sheet step) order ∙ ap (λ (steps : List ℕ). put_all how steps order) (same-steps step))
follows-name how looked_up.None s order h = h

follows-part : (s : Substitutions) (order part : List ℕ) → Follows s order → Follows (stepped Sheet s part) (on_part part order)
unfolding stepped strategy_of name_of on_part
follows-part s order part h = by (ltb (length part) 4) (eqb (first_of part) 43) (eqb (last_of part) 43) (eqb (first_of part) 45)
  where
    by : (short plus trailing minus : Bool)
        → Follows (cond short s (entered_name Sheet (cond plus Insert (cond trailing Prepend (cond minus Remove Insert)))
        (lookup_of (cond plus (drop 1 part) (cond trailing (take (length part - 1) part) (cond minus (drop 1 part) part)))) s))
        (cond short order
        (cond plus (by_name appended (lookup_of (drop 1 part)) order)
        (cond trailing (by_name prepended (lookup_of (take (length part - 1) part)) order)
        (cond minus (by_name removed (lookup_of (drop 1 part)) order) (by_name appended (lookup_of part) order)))))
    by true plus trailing minus = h
    by false true trailing minus = follows-name Insert (lookup_of (drop 1 part)) s order h
    by false false true minus = follows-name Prepend (lookup_of (take (length part - 1) part)) s order h
    by false false false true = follows-name Remove (lookup_of (drop 1 part)) s order h
    by false false false false = follows-name Insert (lookup_of part) s order h

follows-parts : (s : Substitutions) (order : List ℕ) (parts : List (List ℕ)) → Follows s order → Follows (through Sheet s parts) (on_parts parts order)
unfolding through on_parts
follows-parts s order [] h = h
follows-parts s order (part ∷ parts) h = follows-parts (stepped Sheet s (spaced part)) (on_part (spaced part) order) parts (follows-part s order (spaced part) h)

none-ordered : order_of empty_set.places ≡ []
unfolding order_of
none-ordered = refl

follows-text : (s : Substitutions) (order text : List ℕ) → Follows s order → Follows (meta_of Sheet s true text) (sheet_order order text)
unfolding meta_of start_of sheet_order
follows-text s order text h = follows-parts (cond (modified text) s empty_set) (cond (modified text) order []) (split text) (by (modified text))
  where
    by : (t : Bool) → Follows (cond t s empty_set) (cond t order [])
    by true = h
    by false = (none-sound, none-ordered)

-- The laws.
module _ (s : Substitutions) (text : List ℕ) (e : sound s ≡ true) where
  pub sheet-order : order_of (meta_of Sheet s true text).places ≡ sheet_order (order_of s.places) text
  sheet-order = (follows-text s (order_of s.places) text (e, refl)).1

  pub sheet-set : meta_of Sheet s true text ≡ set_of (sheet_order (order_of s.places) text)
  sheet-set = sym (sound-set (meta_of Sheet s true text) (follows-text s (order_of s.places) text (e, refl)).0) ∙ ap set_of sheet-order
