-- What `from_meta` gives is held, and in sheet mode sound.
use Rattle.std.specs.Prelude.{ℕ, ◌≤◌, ◌≡◌, refl, Bool, cond, ◌&&◌, ltb, length}
use Rattle.std.proofs.Math.Bool.{true, false}
use mathlib.Core.List.{List, [], ◌∷◌}
use Rattle.std.proofs.Common.{arith, leb-true}
use Rattle.std.proofs.Math.Dec.{leb}
use Rattle.refusals.specs.Refusals.{set_not_held, set_not_sound}
use Rattle.substitutions.specs.declared.Substitutions.{Substitutions}
use Rattle.substitutions.specs.declared.Mode.{Mode}
use Rattle.substitutions.specs.declared.Mode.TheVariants.{Port, Sheet}
use Rattle.substitutions.specs.Held.{held, sound}
use Rattle.substitutions.specs.Moves.{empty_set, room, refusal_of}
use Rattle.substitutions.proofs.KindsLaws.{and_left, and_right}
use Rattle.substitutions.proofs.MovesLaws.{insert-held, remove-held, prepend-held, insert-sound, remove-sound, prepend-sound, sound-held}
use Rattle.substitutions.proofs.StartingLaws.{none-sound}
use Rattle.substitutions.proofs.AnswersLaws.{accepted}
use Rattle.subs_names.specs.declared.StepOrGroup.{StepOrGroup}
use Rattle.subs_names.specs.declared.StepOrGroup.TheVariants.{None, Normal, Verbatim, SpecialChars, Callouts, Quotes, Attributes, Replacements, Macros, PostReplacements}
use Rattle.std.specs.Prelude as looked_up
use Rattle.std.specs.Prelude.{Option, Some}
use Rattle.substitutions.specs.declared.Move.{Move}
use Rattle.substitutions.specs.declared.Move.TheVariants.{Insert, Prepend, Remove}
use Rattle.subs_names.specs.Names.{lookup_of}
use Rattle.customize_subs.specs.Text.{split, modified}
use Rattle.customize_subs.specs.Customizing.{part_of, move_of, kinds_of, entered, entered_name, strategy_of, name_of, stepped, through, start_of, meta_of, meta_refusal}
use Rattle.customize_subs.proofs.CustomizingLaws.{set-accepted}

-- Every name stands for kinds of 1 to 7.
unfoldable pub kinds : List ℕ → Bool
kinds [] = true
kinds (k ∷ ks) = leb 1 k && leb k 7 && kinds ks

pub kinds-right : (m : Mode) (step : StepOrGroup) → kinds (kinds_of m step) ≡ true
unfolding kinds
kinds-right m None = refl
kinds-right m Normal = refl
kinds-right Port Verbatim = refl
kinds-right Sheet Verbatim = refl
kinds-right m SpecialChars = refl
kinds-right m Callouts = refl
kinds-right m Quotes = refl
kinds-right m Attributes = refl
kinds-right m Replacements = refl
kinds-right m Macros = refl
kinds-right m PostReplacements = refl

-- What every move keeps, the whole text keeps.
module _ (m : Mode) (Kept : Substitutions → Type 0)
    (moves : (how : Move) (k : ℕ) (s : Substitutions) → 1 ≤ k → k ≤ 7 → Kept s → Kept (move_of m how k s)) where
  keeps-kinds : (how : Move) (ks : List ℕ) (s : Substitutions) → kinds ks ≡ true → Kept s → Kept (entered m how ks s)
  unfolding kinds entered
  keeps-kinds how [] s e h = h
  keeps-kinds how (k ∷ ks) s e h =
      let f = and_left (leb 1 k && leb k 7) (kinds ks) e in
      keeps-kinds how ks (move_of m how k s) (and_right (leb 1 k && leb k 7) (kinds ks) e)
      (moves how k s (leb-true 1 k (and_left (leb 1 k) (leb k 7) f)) (leb-true k 7 (and_right (leb 1 k) (leb k 7) f)) h)

  keeps-name : (how : Move) (found : Option StepOrGroup) (s : Substitutions) → Kept s → Kept (entered_name m how found s)
  keeps-name how (Some step) s h = keeps-kinds how (kinds_of m step) s (kinds-right m step) h
  keeps-name how looked_up.None s h = h

  keeps-part : (s : Substitutions) (part : List ℕ) → Kept s → Kept (stepped m s part)
  unfolding stepped
  keeps-part s part h = by (ltb (length part) 4)
    where
      by : (t : Bool) → Kept (cond t s (entered_name m (strategy_of part) (lookup_of (name_of part)) s))
      by true = h
      by false = keeps-name (strategy_of part) (lookup_of (name_of part)) s h

  keeps-parts : (s : Substitutions) (parts : List (List ℕ)) → Kept s → Kept (through m s parts)
  unfolding through
  keeps-parts s [] h = h
  keeps-parts s (part ∷ parts) h = keeps-parts (stepped m s (part_of m part)) parts (keeps-part s (part_of m part) h)

  keeps-meta : (s : Substitutions) (present : Bool) (text : List ℕ) → Kept empty_set → Kept s → Kept (meta_of m s present text)
  unfolding meta_of start_of
  keeps-meta s false text none h = h
  keeps-meta s true text none h = keeps-parts (cond (modified text) s empty_set) (split text) (by (modified text))
    where
      by : (t : Bool) → Kept (cond t s empty_set)
      by true = h
      by false = none

room-six : (m : Mode) → 6 ≤ room m
room-six Port = omega arith
room-six Sheet = omega arith

room-seven : (m : Mode) → room m ≤ 7
room-seven Port = omega arith
room-seven Sheet = omega arith

moves-held : (m : Mode) (how : Move) (k : ℕ) (s : Substitutions) → 1 ≤ k → k ≤ 7 → held s ≡ true → held (move_of m how k s) ≡ true
moves-held m Insert k s a b h = insert-held s k a b (room m) (room-six m) (room-seven m) h
moves-held m Prepend k s a b h = prepend-held s k a b h
moves-held m Remove k s a b h = remove-held s k a b h

pub moves-sound : (how : Move) (k : ℕ) (s : Substitutions) → 1 ≤ k → k ≤ 7 → sound s ≡ true → sound (move_of Sheet how k s) ≡ true
moves-sound Insert k s a b h = insert-sound s k a b h
moves-sound Prepend k s a b h = prepend-sound s k a b h
moves-sound Remove k s a b h = remove-sound s k a b h

none-held : held empty_set ≡ true
none-held = sound-held empty_set none-sound

pub sheet-sound : (s : Substitutions) → refusal_of Sheet s ≡ 0 → sound s ≡ true
unfolding refusal_of
sheet-sound s e = by (held s) (sound s) e
  where
    by : (t u : Bool) → ◌≡◌ {A = ℕ} (cond t (cond u 0 set_not_sound) set_not_held) 0 → u ≡ true
    by t true q = refl
    by true false q = absurd (omega arith)
    by false false q = absurd (omega arith)

-- What a part's move and the set that a text begins with keep.
pub entered-held : (m : Mode) (how : Move) (step : StepOrGroup) (s : Substitutions) → held s ≡ true → held (entered m how (kinds_of m step) s) ≡ true
entered-held m how step s h = keeps-kinds m (λ t. held t ≡ true) (moves-held m) how (kinds_of m step) s (kinds-right m step) h

pub stepped-held : (m : Mode) (s : Substitutions) (part : List ℕ) → held s ≡ true → held (stepped m s part) ≡ true
stepped-held m s part h = keeps-part m (λ t. held t ≡ true) (moves-held m) s part h

pub start-held : (s : Substitutions) (text : List ℕ) → held s ≡ true → held (start_of s text) ≡ true
unfolding start_of
start-held s text h = by (modified text)
  where
    by : (t : Bool) → held (cond t s empty_set) ≡ true
    by true = h
    by false = none-held

-- The laws.
pub meta-held : (m : Mode) (s : Substitutions) (present : Bool) (text : List ℕ) → meta_refusal m s present text ≡ 0 → held (meta_of m s present text) ≡ true
meta-held m s present text e =
    keeps-meta m (λ t. held t ≡ true) (moves-held m) s present text none-held (accepted m s (set-accepted m s text present e))

pub meta-sound : (s : Substitutions) (present : Bool) (text : List ℕ) → meta_refusal Sheet s present text ≡ 0 → sound (meta_of Sheet s present text) ≡ true
meta-sound s present text e =
    keeps-meta Sheet (λ t. sound t ≡ true) moves-sound s present text none-sound (sheet-sound s (set-accepted Sheet s text present e))
