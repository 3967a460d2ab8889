-- Laws of the refusals' numbers: none is 0, which is told of a call that is not refused, and no two refusals have the same.
use Rattle.std.specs.Prelude.{ℕ, zero, suc, ◌<◌, ◌≡◌, refl}
use Rattle.std.proofs.Common.{arith, sym, ap, ◌∙◌}
use Rattle.refusals.specs.declared.Refusal.{Refusal}
use Rattle.refusals.specs.declared.Refusal.TheVariants.{NoTokens, TooManyTokens, TextTooLong, PairsNotTwo, KindTooLarge, PairsNotInOrder, RowsTooShort, NoClosingBracket, SubsTextTooLong, SetNotHeld, SetNotSound, AnchorMalformed}
use Rattle.refusals.specs.Numbered.{number_of}

pub number-some : (r : Refusal) → 0 < number_of r
number-some NoTokens = omega arith
number-some TooManyTokens = omega arith
number-some TextTooLong = omega arith
number-some PairsNotTwo = omega arith
number-some KindTooLarge = omega arith
number-some PairsNotInOrder = omega arith
number-some RowsTooShort = omega arith
number-some NoClosingBracket = omega arith
number-some SubsTextTooLong = omega arith
number-some SetNotHeld = omega arith
number-some SetNotSound = omega arith
number-some AnchorMalformed = omega arith

-- the refusal of a number
of_number : ℕ → Refusal
of_number zero = NoTokens
of_number (suc zero) = NoTokens
of_number (suc (suc zero)) = TooManyTokens
of_number (suc (suc (suc zero))) = TextTooLong
of_number (suc (suc (suc (suc zero)))) = PairsNotTwo
of_number (suc (suc (suc (suc (suc zero))))) = KindTooLarge
of_number (suc (suc (suc (suc (suc (suc zero)))))) = PairsNotInOrder
of_number (suc (suc (suc (suc (suc (suc (suc zero))))))) = RowsTooShort
of_number (suc (suc (suc (suc (suc (suc (suc (suc zero)))))))) = NoClosingBracket
of_number (suc (suc (suc (suc (suc (suc (suc (suc (suc zero))))))))) = SubsTextTooLong
of_number (suc (suc (suc (suc (suc (suc (suc (suc (suc (suc zero)))))))))) = SetNotHeld
of_number (suc (suc (suc (suc (suc (suc (suc (suc (suc (suc (suc zero))))))))))) = SetNotSound
of_number n = AnchorMalformed

of-number : (r : Refusal) → of_number (number_of r) ≡ r
unfolding of_number
of-number NoTokens = refl
of-number TooManyTokens = refl
of-number TextTooLong = refl
of-number PairsNotTwo = refl
of-number KindTooLarge = refl
of-number PairsNotInOrder = refl
of-number RowsTooShort = refl
of-number NoClosingBracket = refl
of-number SubsTextTooLong = refl
of-number SetNotHeld = refl
of-number SetNotSound = refl
of-number AnchorMalformed = refl

pub number-same : (r s : Refusal) → number_of r ≡ number_of s → r ≡ s
number-same r s e = sym (of-number r) ∙ ap of_number e ∙ of-number s
