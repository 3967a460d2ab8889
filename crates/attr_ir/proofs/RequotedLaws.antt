-- What an editor writes back of an attribute's rows: the author's tokens of a positional, and of the value of a named attribute (an id and `subs` or `cols`
-- among them), by the run and the mark of the row. They stand in the attribute from..to of a line. Assumes nothing.
use Rattle.std.specs.Prelude.{ℕ, Bool, true, false, cond, refl, List, [], ◌∷◌}
use Rattle.token.specs.Line.{Line, Token}
use Rattle.runs.specs.Run.{kept, in_run, is_whitespace, is_equals, trim, onward, quote_mark, unquote, run_of}
use Rattle.runs.specs.Requoted.{Requoted}
use Rattle.runs.proofs.RequotedLaws.{KeptAt, requoted-at, kept-at-tail, kept-at-onward, kept-at-trim}
use Rattle.attr_ir.specs.Ir.{less_first, less_space, after_equals, value, value_mark, value_tokens}

module _ (l : Line) where
  first-at : (ts : List Token) → KeptAt l ts → KeptAt l (less_first ts)
  first-at [] s = s
  first-at (t ∷ ts) s = kept-at-tail l t ts s

  space-at : (ts : List Token) → KeptAt l ts → KeptAt l (less_space ts)
  space-at [] s = s
  space-at (t ∷ ts) s = go (is_whitespace t) s (kept-at-tail l t ts s)
    where
      go : (b : Bool) → KeptAt l (t ∷ ts) → KeptAt l ts → KeptAt l (cond b ts (t ∷ ts))
      go true all rest = rest
      go false all rest = all

  module _ (from to : ℕ) where
    trimmed : KeptAt l (trim (kept l from to))
    trimmed = kept-at-trim l (kept l from to) (record { from = from; to = to; tokens = refl })

    pub positional-requoted : Requoted (quote_mark (trim (kept l from to))) (trim (kept l from to)) (in_run l (run_of (unquote (trim (kept l from to)))))
    positional-requoted = requoted-at l (trim (kept l from to)) trimmed

    pub value-requoted : Requoted (value_mark (after_equals (trim (kept l from to)))) (less_space (after_equals (trim (kept l from to)))) (in_run l (run_of (value_tokens (trim (kept l from to)))))
    unfolding value_tokens value value_mark
    value-requoted =
        let behind = first-at (onward is_equals (trim (kept l from to))) (kept-at-onward l is_equals (trim (kept l from to)) trimmed) in
        requoted-at l (less_space (after_equals (trim (kept l from to)))) (space-at (after_equals (trim (kept l from to))) behind)
