-- What `from_meta` promises of its answer r to a set, a subs text and whether there is one, in port mode and in sheet mode.
use Rattle.std.specs.Prelude.{ℕ, ◌≡◌, Bool, true, false, List, length, ltb, Option, Some, None}
use Rattle.substitutions.specs.declared.Substitutions.{Substitutions}
use Rattle.substitutions.specs.declared.SetAnswer.{SetAnswer}
use Rattle.substitutions.specs.declared.Mode.{Mode}
use Rattle.substitutions.specs.declared.Mode.TheVariants.{Port, Sheet}
use Rattle.substitutions.specs.Held.{held, sound}
use Rattle.substitutions.specs.Order.{order_of, set_of}
use Rattle.customize_subs.specs.Customizing.{port_meta, sheet_meta}
use Rattle.customize_subs.specs.Sheet.{sheet_order}

pub record PortOutcome (s : Substitutions) (present : Bool) (text : List ℕ) (r : SetAnswer) : Type 0 where
  -- the refusal's number and the set given, or 0 and the set that the text makes
  pub answer : r ≡ port_meta s present text
  -- where nothing is refused the set is held again
  pub stays_held : r.refusal ≡ 0 → held r.set ≡ true

pub record SheetOutcome (s : Substitutions) (present : Bool) (text : List ℕ) (r : SetAnswer) : Type 0 where
  pub answer : r ≡ sheet_meta s present text
  -- where there is a subs attribute and nothing is refused: the set of the order that `Sheet` gives
  pub order : r.refusal ≡ 0 → present ≡ true → r.set ≡ set_of (sheet_order (order_of s.places) text)
  -- where nothing is refused the set is sound again
  pub stays_sound : r.refusal ≡ 0 → sound r.set ≡ true

abbrev pub MetaOutcome : Mode → Substitutions → Bool → List ℕ → SetAnswer → Type 0
MetaOutcome Port = PortOutcome
MetaOutcome Sheet = SheetOutcome

-- The same of a text that may be missing: then whatever text is taken for it.
abbrev pub Makes : Mode → Substitutions → Option (List ℕ) → SetAnswer → Type 0
Makes m s None r = (text : List ℕ) → MetaOutcome m s false text r
Makes m s (Some text) r = MetaOutcome m s true text r

-- Whether there is a text over 65,535 bytes.
abbrev pub is_too_long : Option (List ℕ) → Bool
is_too_long None = false
is_too_long (Some text) = ltb 65535 (length text)
