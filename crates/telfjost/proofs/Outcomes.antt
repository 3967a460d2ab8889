-- What an entry answers, in the numbers of a C function's result.
use Prim.Native.Nat.{ℕ, ◌<◌}
use native.Mathlib.Omega.{arith}
use mathlib.Core.Path.{◌≡◌, sym, subst}
use mathlib.Core.List.{List}
use lib.ListN.{length}
use Rattle.token.specs.Line.{Line, most_tokens}
use Rattle.attr_list.specs.Answer.{Answer, Refused, Read}
use Rattle.attr_list.specs.declared.entries.Entry.{Entry}
use Rattle.attr_list.specs.Reading.{Reading, refused, gives, answer_of, reading}
use Rattle.attr_list.specs.ReadAsList.{TakenAsList, ReadAsList}
use Rattle.attr_list.specs.Outcome.{Outcome, WhenReadAsList}
use Rattle.attr_list.proofs.RefusalLaws.{Numbered, reading-numbered}
use Rattle.telfjost.specs.declared.TelfjostList.{TelfjostList}
use Rattle.telfjost.specs.Outcome.{NumbersOf, OutcomeWithin, ListOutcome}

-- a refusal's number is not 0
abbrev Told : Answer → Type 0
Told (Refused n) = 0 < n
Told (Read rows consumed rejoined) = Unit {0}

told : (r : Reading) → Numbered r → Told (answer_of r)
told (refused n) w = w
told (gives rows consumed rejoined) w = tt

module _ (most : ℕ) (e : Entry) (l : Line) (given left : List ℕ) (r : TelfjostList) where
  list-said : (a : Answer) → Told a → NumbersOf a r → WhenReadAsList most e l given a left → r.refusal ≡ 0 → TakenAsList e l → ReadAsList most e l given r.rows r.consumed r.rejoined left
  list-said (Refused n) v w s z t = absurd (omega (arith, v, w.refusal, z))
  list-said (Read rows consumed rejoined) v w s z t =
      subst (λ (x : ℕ). ReadAsList most e l given x r.consumed r.rejoined left) (sym w.rows)
      (subst (λ (x : ℕ). ReadAsList most e l given rows x r.rejoined left) (sym w.consumed)
      (subst (λ (x : ℕ). ReadAsList most e l given rows consumed x left) (sym w.rejoined) (s t)))

  pub numbers_within : (a : Answer) → Outcome most e l given a left → NumbersOf a r → OutcomeWithin most e l given r left
  numbers_within a o w =
      let given_by = reading most e l (length given) in
      record {
        numbers = subst (λ (x : Answer). NumbersOf x r) o.answer w;
        buffer = o.buffer;
        list = list-said a (subst Told (sym o.answer) (told given_by (reading-numbered most e l (length given)))) w o.list;
      }

-- the main reader's
pub list-outcome : (e : Entry) (l : Line) (given left : List ℕ) (r : TelfjostList) (a : Answer) → Outcome most_tokens e l given a left → NumbersOf a r → ListOutcome e l given r left
list-outcome = numbers_within most_tokens
