-- `unquote` takes the run of the kept tokens, and without its two quotes the run of those between them. Assumes nothing.
use native.Mathlib.Omega.{arith}
use mathlib.Core.Path.{sym, ◌∙◌}
use Rattle.runs.proofs.Quotes.{quotes-room, unquoted-part, unquoted-text, plain-part, plain-text}
use Rattle.runs.proofs.places.Places.unquote.Goals as goal

pub quotes_round-mark-requires : goal.quotes_round-mark-requires
quotes_round-mark-requires c = record { among = omega (arith, c.run_of-run.ensures.part.within); ends = c.run_of-run.ensures.part.ends }

pub returns-then-is_none : goal.returns-then-is_none
returns-then-is_none c =
    let r = c.run_of-run.ensures in
    let m = c.quotes_round-mark.ensures in
    let none = sym c.is_none.ensures ∙ c.if-is_none.true in
    record { text = plain-text _ _ _ _ r.part _ m none r.run; part = plain-part _ _ _ _ r.part _ m none }

pub overflow_sub-inside : goal.overflow_sub-inside
overflow_sub-inside c = omega (arith, quotes-room _ _ _ _ c.run_of-run.ensures.part _ c.quotes_round-mark.ensures (sym c.is_none.ensures ∙ c.if-is_none.false))

pub invariant_of-inside : goal.invariant_of-inside
invariant_of-inside c =
    let r = c.run_of-run.ensures in
    let room = quotes-room _ _ _ _ r.part _ c.quotes_round-mark.ensures (sym c.is_none.ensures ∙ c.if-is_none.false) in
    record { within = (omega (arith, room), omega (arith, r.part.within)) }

pub returns : goal.returns
returns c =
    let r = c.run_of-run.ensures in
    let m = c.quotes_round-mark.ensures in
    let some = sym c.is_none.ensures ∙ c.if-is_none.false in
    let s = c.run_of.ensures in
    record { text = unquoted-text _ _ _ _ r.part _ m some _ s.run; part = unquoted-part _ _ _ _ r.part _ m some _ s.part }
