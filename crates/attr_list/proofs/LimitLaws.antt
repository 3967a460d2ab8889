-- A reader with a limit of its own, any up to the main reader's: a line of at most so many tokens has the main reading, and one of more gets 2.
use Rattle.std.specs.Prelude.{ℕ, ◌≤◌, ◌<◌, ◌≡◌, List, length}
use Rattle.std.proofs.Common.{arith, sym, eq-eqb, ne_eqb, lt-ltb, le-ltb}
use Rattle.std.proofs.Math.Decide.{dec_lt}
use Rattle.refusals.specs.Refusals.{no_tokens, too_many_tokens}
use Rattle.token.specs.Line.{Line, most_tokens, refusal}
use Rattle.attr_list.specs.declared.entries.Entry.{Entry}
use Rattle.attr_list.specs.Answer.{Answer, Refused}
use Rattle.attr_list.specs.Reading.{refused, lent_refusal, reading}
use Rattle.attr_list.specs.Outcome.{Outcome}
use Rattle.attr_list.proofs.Readings.{gives_as, gives-refused, gives-outcome}
use Rattle.attr_list.specs.Limit.{limited}

module _ (most : ℕ) (up_to : most ≤ most_tokens) (e : Entry) (l : Line) where
  -- a line that fits: the two limits do not tell, and the rest of the checks are the same
  same-refusal : length l.kinds ≤ most → refusal most l ≡ refusal most_tokens l
  unfolding refusal
  same-refusal fits = rw (le-ltb most (length l.kinds) fits, le-ltb most_tokens (length l.kinds) (omega (arith, up_to, fits)))

  pub within : (room : ℕ) → length l.kinds ≤ most → reading most e l room ≡ reading most_tokens e l room
  unfolding reading lent_refusal
  within room fits = rw (same-refusal fits)

  -- any other has a token, and 2 is its first check that applies
  over-refusal : most < length l.kinds → refusal most l ≡ too_many_tokens
  unfolding refusal
  over-refusal more = rw (ne_eqb (length l.kinds) 0 (λ z. omega (arith, z, more)), lt-ltb most (length l.kinds) more)

  pub over : (room : ℕ) → most < length l.kinds → reading most e l room ≡ refused too_many_tokens
  unfolding reading lent_refusal
  over room more = rw (over-refusal more)

  -- a line of no tokens is refused by 1, whatever the limit
  pub none : (room : ℕ) → length l.kinds ≡ 0 → reading most e l room ≡ refused no_tokens
  unfolding reading lent_refusal refusal
  none room z = rw (eq-eqb (length l.kinds) 0 z)

  -- the law of a limit
  pub reading-limited : (room : ℕ) → reading most e l room ≡ limited most e l room
  reading-limited room = go (dec_lt most (length l.kinds))
    where
      go : Dec (most < length l.kinds) → reading most e l room ≡ limited most e l room
      go (yes h) = rw (lt-ltb most (length l.kinds) h) (over room h)
      go (no h) = rw (le-ltb most (length l.kinds) (omega (arith, h))) (within room (omega (arith, h)))

  -- and so of what an entry answers and leaves, demand 3 included
  module _ (given : List ℕ) where
    pub outcome-within : length l.kinds ≤ most → (a : Answer) (left : List ℕ) → Outcome most_tokens e l given a left → Outcome most e l given a left
    outcome-within fits a left o =
        gives-outcome most e l given a left (gives_as given _ _ a left (record { answer = o.answer; buffer = o.buffer }) (sym (within (length given) fits)))

    pub outcome-over : most < length l.kinds → Outcome most e l given (Refused too_many_tokens) given
    outcome-over more =
        gives-outcome most e l given (Refused too_many_tokens) given (gives_as given (refused too_many_tokens) _ (Refused too_many_tokens) given (gives-refused given too_many_tokens) (sym (over (length given) more)))

-- the lowest limit: nothing is read, and every line that has a token gets 2
pub none-within-0 : (e : Entry) (l : Line) (room : ℕ) → 0 < length l.kinds → reading 0 e l room ≡ refused too_many_tokens
none-within-0 e l room some = over 0 (omega arith) e l room some
