-- The eight numbers of an answer.
use Rattle.std.specs.Prelude.{ℕ, Bool, cond, Option, None, Some, Result, Ok, Err}
use Rattle.refusals.specs.declared.Refusal.{Refusal}
use Rattle.refusals.specs.Refusals.{anchor_malformed}
use Rattle.refusals.specs.Numbered.{number_of}
use Rattle.token.specs.declared.Run.{Run}
use Rattle.anchor.specs.declared.Anchor as code

pub record Numbers : Type 0 where
  -- the number with which the line is refused, 0 where it is not; where it is, all others are 0
  pub refusal : ℕ
  -- 1 where there is an anchor; where there is none, all others are 0
  pub anchor : ℕ
  -- the run of the id, and that of the reference text, 0 and 0 where that is absent
  pub id_place : ℕ
  pub id_count : ℕ
  pub text_place : ℕ
  pub text_count : ℕ
  -- how many tokens are consumed
  pub consumed : ℕ
  -- 1 where the first token of the reference text counts as Discard
  pub discard : ℕ

-- refused with a number; every other number is 0
abbrev pub refused : (number : ℕ) → Numbers
refused n = record { refusal = n; anchor = 0; id_place = 0; id_count = 0; text_place = 0; text_count = 0; consumed = 0; discard = 0 }

-- "'no anchor' .. consumes nothing"
abbrev pub no_anchor : Numbers
no_anchor = refused 0

-- an anchor: "the answer gives both runs, the tokens consumed, and whether the first token counts as Discard"
abbrev pub found : (id text : Run) → (consumed : ℕ) → (discard : Bool) → Numbers
found id text consumed discard =
    record {
      refusal = 0;
      anchor = 1;
      id_place = id.place.0;
      id_count = id.count;
      text_place = text.place.0;
      text_count = text.count;
      consumed = consumed;
      discard = cond discard 1 0;
    }

-- the numbers of what the code answers: refused, no anchor, or an anchor, whose reference text may be absent
abbrev pub numbers_of : Result (Option code.Anchor) Refusal → Numbers
numbers_of (Err r) = refused (number_of r)
numbers_of (Ok None) = no_anchor
numbers_of (Ok (Some a)) = found a.id a.reftext a.consumed a.discard

-- the numbers of what is read behind the first token; None is 12
abbrev pub numbers_or_12 : Option code.Anchor → Numbers
numbers_or_12 None = refused anchor_malformed
numbers_or_12 (Some a) = found a.id a.reftext a.consumed a.discard
