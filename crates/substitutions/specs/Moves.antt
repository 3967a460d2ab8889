-- The three moves, and what a call of one answers.
use Rattle.std.specs.Prelude.{ℕ, zero, suc, ◌+◌, ◌-◌, cond, List, [], ◌∷◌, ◌++◌, eqb, length, take, Result, Ok, Err}
use Rattle.refusals.specs.declared.Refusal.{Refusal}
use Rattle.refusals.specs.Refusals.{set_not_held, set_not_sound}
use Rattle.refusals.specs.Numbered.{number_of as refused_by}
use Rattle.substitutions.specs.declared.Substitutions.{Substitutions}
use Rattle.substitutions.specs.declared.SetAnswer.{SetAnswer}
use Rattle.substitutions.specs.declared.Subs.{Subs}
use Rattle.substitutions.specs.declared.Move.{Move}
use Rattle.substitutions.specs.declared.Move.TheVariants.{Insert, Remove, Prepend}
use Rattle.substitutions.specs.declared.Mode.{Mode}
use Rattle.substitutions.specs.declared.Mode.TheVariants.{Port, Sheet}
use Rattle.substitutions.specs.Kinds.{number_of, flag_of, flagged}
use Rattle.substitutions.specs.Held.{held, sound}

abbrev pub set : List ℕ → ℕ → Substitutions
set places flags = record { places = places; flags = flags }

abbrev pub empty_set : Substitutions
empty_set = set (0 ∷ 0 ∷ 0 ∷ 0 ∷ 0 ∷ 0 ∷ 0 ∷ []) 0

-- How many places insert may fill: the first six; sheet mode: insert may fill the seventh place.
abbrev pub room : Mode → ℕ
room Port = 6
room Sheet = 7

-- Kind k in the first empty place among the first n; none of them empty: nothing changes.
unfoldable pub filled : ℕ → ℕ → List ℕ → List ℕ
filled zero k ps = ps
filled (suc n) k [] = []
filled (suc n) k (p ∷ ps) = cond (eqb p 0) (k ∷ ps) (p ∷ filled n k ps)

-- Kind k taken out and the gap closed: what stood behind it moves forward by one, and the last place is empty.
unfoldable pub without : ℕ → List ℕ → List ℕ
without k [] = []
without k (p ∷ ps) = cond (eqb p k) (ps ++ (0 ∷ [])) (p ∷ without k ps)

-- Kind k first, moved there or put there, and the others behind it, on the same number of places.
unfoldable pub led : ℕ → List ℕ → List ℕ
led k ps = take (length ps) (k ∷ without k ps)

-- Insert does nothing if the flag is set; else it sets the flag and fills the first empty place among the first n.
-- With these filled the flag alone is set.
unfoldable pub insert_of : ℕ → ℕ → Substitutions → Substitutions
insert_of n k s = cond (flagged k s.flags) s (set (filled n k s.places) (s.flags + flag_of k))

-- Remove closes the gap and clears the flag, also one without a place; with no flag there is nothing to remove.
unfoldable pub remove_of : ℕ → Substitutions → Substitutions
remove_of k s = cond (flagged k s.flags) (set (without k s.places) (s.flags - flag_of k)) s

-- Prepend moves or puts the kind first, and its flag is set.
unfoldable pub prepend_of : ℕ → Substitutions → Substitutions
prepend_of k s = set (led k s.places) (cond (flagged k s.flags) s.flags (s.flags + flag_of k))

-- What each move makes of a set.
abbrev pub moved : Mode → Move → ℕ → Substitutions → Substitutions
moved m Insert k s = insert_of (room m) k s
moved m Prepend k s = prepend_of k s
moved m Remove k s = remove_of k s

-- The set is turned away with 10 exactly when it is not held, in sheet mode with 11 exactly when it is held but not sound.
unfoldable pub refusal_of : Mode → Substitutions → ℕ
refusal_of Port s = cond (held s) 0 set_not_held
refusal_of Sheet s = cond (held s) (cond (sound s) 0 set_not_sound) set_not_held

-- A refusal gives its number and the set given.
abbrev pub refused_with : ℕ → Substitutions → SetAnswer
refused_with n s = record { refusal = n; set = s }

-- The first refusal that applies, 0 for none; with none, 0 and the set that the move gives.
unfoldable pub answer : ℕ → Substitutions → Substitutions → SetAnswer
answer zero s moved = record { refusal = 0; set = moved }
answer (suc n) s moved = refused_with (suc n) s

-- What the moves answer.
unfoldable pub insert_answer : Mode → Substitutions → Subs → SetAnswer
insert_answer m s k = answer (refusal_of m s) s (insert_of (room m) (number_of k) s)

unfoldable pub remove_answer : Mode → Substitutions → Subs → SetAnswer
remove_answer m s k = answer (refusal_of m s) s (remove_of (number_of k) s)

unfoldable pub prepend_answer : Mode → Substitutions → Subs → SetAnswer
prepend_answer m s k = answer (refusal_of m s) s (prepend_of (number_of k) s)

-- A move's outcome as C is handed it: 0 and the set that the move gives, or the number of the refusal and the set given.
abbrev pub answer_of : Substitutions → Result Substitutions Refusal → SetAnswer
answer_of s (Ok moved) = record { refusal = 0; set = moved }
answer_of s (Err r) = refused_with (refused_by r) s

-- What each move answers.
abbrev pub answered : Move → Mode → Substitutions → Subs → SetAnswer
answered Insert = insert_answer
answered Remove = remove_answer
answered Prepend = prepend_answer
