-- What is said of each refusal.
use Rattle.std.specs.Prelude.{ℕ, List, codes}
use Rattle.refusals.specs.declared.Refusal.{Refusal}
use Rattle.refusals.specs.declared.Refusal.TheVariants.{NoTokens, TooManyTokens, TextTooLong, PairsNotTwo, KindTooLarge, PairsNotInOrder, RowsTooShort, NoClosingBracket, SubsTextTooLong, SetNotHeld, SetNotSound, AnchorMalformed}

abbrev pub words : Refusal → List ℕ
words NoTokens = codes "no tokens"
words TooManyTokens = codes "over 4,096 tokens"
words TextTooLong = codes "the text is over 65,535 bytes"
words PairsNotTwo = codes "not two numbers for each kind"
words KindTooLarge = codes "some kind is over 50"
words PairsNotInOrder = codes "a token starts before the previous ends, or ends past the text"
words RowsTooShort = codes "the row buffer is too short"
words NoClosingBracket = codes "no closing bracket"
words SubsTextTooLong = codes "the subs text is over 65,535 bytes"
words SetNotHeld = codes "the set is not held"
words SetNotSound = codes "the set is held but not sound"
words AnchorMalformed = codes "the anchor does not close as it should, or its id has no bytes"
