-- The moves and the flag test of a kind given by its number. Document 01's moves take "a kind as one of seven enum cases"; a number outside 1 to 7
-- names no kind, and is passed over, as a part of a subs text is whose name is not in the list.
use Rattle.std.specs.Prelude.{Bool, false, Result, Ok, Err}
use Rattle.substitutions.specs.declared.Substitutions.{Substitutions}
use Rattle.substitutions.specs.declared.SetAnswer.{SetAnswer}
use Rattle.substitutions.specs.declared.Mode.{Mode}
use Rattle.substitutions.specs.declared.Subs.{Subs}
use Rattle.substitutions.specs.declared.NotAKind.{NotAKind}
use Rattle.substitutions.specs.Kinds.{number_of, flagged}
use Rattle.substitutions.specs.Moves.{refusal_of}

-- What the move answers for a kind; with no kind the set's own refusal, 0 for none, and the set given.
abbrev pub by_number : (Mode → Substitutions → Subs → SetAnswer) → Mode → Substitutions → Result Subs NotAKind → SetAnswer
by_number move m s (Ok sub) = move m s sub
by_number move m s (Err _) = record { refusal = refusal_of m s; set = s }

-- Whether the set has the flag of the kind; with no kind it has not.
abbrev pub contains_number : Substitutions → Result Subs NotAKind → Bool
contains_number s (Ok sub) = flagged (number_of sub) s.flags
contains_number s (Err _) = false
