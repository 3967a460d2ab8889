-- A name that is inserted into the empty set.
use Rattle.std.specs.Prelude.{ℕ, zero, suc, ◌<◌, Bool, true, false, List, ◌≡◌, refl, eqb, get_or}
use Rattle.std.proofs.Math.Nat.{zero-div}
use Rattle.std.proofs.Common.{arith, sym, ap, ◌∙◌, ext_get_or, eqb-true}
use Rattle.std.proofs.lemmas.Bool.{false≢true, eqb-false}
use Rattle.substitutions.specs.declared.Substitutions.{Substitutions}
use Rattle.substitutions.specs.declared.Mode.{Mode}
use Rattle.substitutions.specs.declared.Mode.TheVariants.{Port, Sheet}
use Rattle.substitutions.specs.Kinds.{flag_of, flagged}
use Rattle.substitutions.specs.Held.{held}
use Rattle.substitutions.specs.Moves.{set, empty_set, filled, insert_of}
use Rattle.substitutions.specs.HeldPlaces.{place}
use Rattle.substitutions.proofs.HeldPlacesLaws.{held-read}
use Rattle.subs_names.specs.declared.StepOrGroup.{StepOrGroup}
use Rattle.subs_names.specs.declared.StepOrGroup.TheVariants.{None, Normal, Verbatim, SpecialChars, Callouts, Quotes, Attributes, Replacements, Macros, PostReplacements}
use Rattle.substitutions.specs.declared.Move.{Move}
use Rattle.substitutions.specs.declared.Move.TheVariants.{Insert}
use Rattle.customize_subs.specs.Customizing.{kinds_of, entered}
use Rattle.customize_subs.specs.Steps.{set_of_name}

-- A held set with no flag is empty, since each kind placed has a flag.
no_flag : (k : ℕ) → flagged k 0 ≡ false
unfolding flagged
no_flag k = rw (zero-div (flag_of k)) refl

abbrev zeros : List ℕ
zeros = empty_set.places

zero-at : (i : ℕ) → get_or zeros i 0 ≡ 0
zero-at zero = refl
zero-at (suc zero) = refl
zero-at (suc (suc zero)) = refl
zero-at (suc (suc (suc zero))) = refl
zero-at (suc (suc (suc (suc zero)))) = refl
zero-at (suc (suc (suc (suc (suc zero))))) = refl
zero-at (suc (suc (suc (suc (suc (suc zero)))))) = refl
zero-at (suc (suc (suc (suc (suc (suc (suc i))))))) = refl

module _ (s : Substitutions) (h : held s ≡ true) (f : s.flags ≡ 0) where
  place-empty : (i : ℕ) → i < 7 → place s i ≡ 0
  place-empty i lt = go (eqb (place s i) 0) refl
    where
      go : (b : Bool) → eqb (place s i) 0 ≡ b → place s i ≡ 0
      go true e = eqb-true _ _ e
      go false e =
          let g = (held-read s h).covered i lt (eqb-false _ _ e) in
          absurd (false≢true (sym (no_flag (place s i)) ∙ ap (flagged (place s i)) (sym f) ∙ g))

  pub flagless-empty : s ≡ empty_set
  flagless-empty =
      let seven = (held-read s h).seven in
      let e : s.places ≡ zeros = ext_get_or 0 s.places zeros seven (λ i lt. place-empty i (omega (arith, seven, lt)) ∙ sym (zero-at i)) in
      ap (λ (ps : List ℕ). set ps s.flags) e ∙ ap (set zeros) f

-- The set of a name alone is what its insert makes of the empty set.
set-of-name-is : (m : Mode) (step : StepOrGroup) → set_of_name m step ≡ entered m Insert (kinds_of m step) empty_set
unfolding entered insert_of filled flagged
set-of-name-is Port None = refl
set-of-name-is Port Normal = refl
set-of-name-is Port Verbatim = refl
set-of-name-is Port SpecialChars = refl
set-of-name-is Port Callouts = refl
set-of-name-is Port Quotes = refl
set-of-name-is Port Attributes = refl
set-of-name-is Port Replacements = refl
set-of-name-is Port Macros = refl
set-of-name-is Port PostReplacements = refl
set-of-name-is Sheet None = refl
set-of-name-is Sheet Normal = refl
set-of-name-is Sheet Verbatim = refl
set-of-name-is Sheet SpecialChars = refl
set-of-name-is Sheet Callouts = refl
set-of-name-is Sheet Quotes = refl
set-of-name-is Sheet Attributes = refl
set-of-name-is Sheet Replacements = refl
set-of-name-is Sheet Macros = refl
set-of-name-is Sheet PostReplacements = refl

pub enter-into-empty : (m : Mode) (how : Move) (step : StepOrGroup) (s r : Substitutions) → held s ≡ true → s.flags ≡ 0 → how ≡ Insert → r ≡ set_of_name m step
    → r ≡ entered m how (kinds_of m step) s
enter-into-empty m how step s r h f i e =
    e ∙ set-of-name-is m step ∙ ap (entered m Insert (kinds_of m step)) (sym (flagless-empty s h f)) ∙ ap (λ (x : Move). entered m x (kinds_of m step) s) (sym i)
