-- The refusals of the code, each with its number of the table.
use Rattle.std.specs.Prelude.{ℕ, ◌≡◌, Result, Ok, Err}
use Rattle.refusals.specs.declared.Refusal.{Refusal}
use Rattle.refusals.specs.declared.Refusal.TheVariants.{NoTokens, TooManyTokens, TextTooLong, PairsNotTwo, KindTooLarge, PairsNotInOrder, RowsTooShort, NoClosingBracket, SubsTextTooLong, SetNotHeld, SetNotSound, AnchorMalformed}
use Rattle.refusals.specs.Refusals.{no_tokens, too_many_tokens, text_too_long, pairs_not_two, kind_too_large, pairs_not_in_order, rows_too_short, no_closing_bracket, subs_text_too_long, set_not_held, set_not_sound, anchor_malformed}

abbrev pub number_of : Refusal → ℕ
number_of NoTokens = no_tokens
number_of TooManyTokens = too_many_tokens
number_of TextTooLong = text_too_long
number_of PairsNotTwo = pairs_not_two
number_of KindTooLarge = kind_too_large
number_of PairsNotInOrder = pairs_not_in_order
number_of RowsTooShort = rows_too_short
number_of NoClosingBracket = no_closing_bracket
number_of SubsTextTooLong = subs_text_too_long
number_of SetNotHeld = set_not_held
number_of SetNotSound = set_not_sound
number_of AnchorMalformed = anchor_malformed

abbrev pub Gives : Refusal → ℕ → Type 0
Gives r n = n ≡ number_of r

-- the number with which a call is refused, 0 where it is not
abbrev pub refusal_number : {T : Type 0} → Result T Refusal → ℕ
refusal_number (Ok _) = 0
refusal_number (Err r) = number_of r
