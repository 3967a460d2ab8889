-- The seven kinds, their numbers and their flags.
use Rattle.std.specs.Prelude.{ℕ, zero, suc, ◌+◌, ◌-◌, ◌/◌, ◌%◌, ◌^◌, ◌≡◌, ◌≤◌, Bool, true, false, cond, ◌&&◌, eqb, Result, Ok, Err}
use Rattle.substitutions.specs.declared.Subs.{Subs}
use Rattle.substitutions.specs.declared.Subs.TheVariants.{SpecialChars, InlineFormatting, AttrRefs, CharReplacement, Macros, PostReplacement, Callouts}
use Rattle.substitutions.specs.declared.NotAKind.{NotAKind}

-- Kinds 1 to 7: specialchars, quotes, attributes, replacements, macros, post_replacements, callouts.
abbrev pub number_of : Subs → ℕ
number_of SpecialChars = 1
number_of InlineFormatting = 2
number_of AttrRefs = 3
number_of CharReplacement = 4
number_of Macros = 5
number_of PostReplacement = 6
number_of Callouts = 7

-- The number of a kind, which is one of 1 to 7.
abbrev pub Gives : Subs → ℕ → Type 0
Gives sub n = (n ≡ number_of sub) × ((1 ≤ n) × (n ≤ 7))

-- The kind of a number: 1 to 7 have one, no other number has.
unfoldable pub kind_of : ℕ → Result Subs NotAKind
kind_of n =
    cond (eqb n 1) (Ok SpecialChars)
    (cond (eqb n 2) (Ok InlineFormatting)
    (cond (eqb n 3) (Ok AttrRefs)
    (cond (eqb n 4) (Ok CharReplacement)
    (cond (eqb n 5) (Ok Macros)
    (cond (eqb n 6) (Ok PostReplacement)
    (cond (eqb n 7) (Ok Callouts)
    (Err (record { 0 = n }))))))))

-- Kind k has flag 2 to the power k − 1.
abbrev pub flag_of : ℕ → ℕ
flag_of k = 2 ^ (k - 1)

-- Whether the flag of kind k is set in a flag byte.
unfoldable pub flagged : ℕ → ℕ → Bool
flagged k flags = eqb (flags / flag_of k % 2) 1

-- 1 where a test holds.
abbrev pub one : Bool → ℕ
one true = 1
one false = 0

-- Whether each of the kinds 1 to n passes a test, and the sum of a number over them.
unfoldable pub each : ℕ → (ℕ → Bool) → Bool
each zero test = true
each (suc n) test = test (suc n) && each n test

unfoldable pub sum : ℕ → (ℕ → ℕ) → ℕ
sum zero number = 0
sum (suc n) number = number (suc n) + sum n number
