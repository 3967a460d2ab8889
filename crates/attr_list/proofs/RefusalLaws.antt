-- A refusal of a reading has a number: 0 stands for none in an answer's numbers.
use Rattle.std.specs.Prelude.{ℕ, zero, suc, ◌<◌, Bool, true, false, cond, eqb}
use Rattle.std.proofs.Common.{arith}
use Rattle.refusals.specs.Refusals.{no_closing_bracket}
use Rattle.token.specs.Kind.{close_bracket, kind_at}
use Rattle.token.specs.Line.{Line}
use Rattle.std.specs.Prelude.{Option, Some, None}
use Rattle.token.specs.declared.TokenPlace.{TokenPlace}
use Rattle.closing.specs.declared.LinkMacro.{LinkMacro}
use Rattle.closing.specs.declared.LinkMacro.TheVariants.{AsList, AsText}
use Rattle.closing.specs.Closing.{closing}
use Rattle.closing.specs.Link.{link_macro}
use Rattle.attr_list.specs.declared.entries.Entry.{Entry}
use Rattle.attr_list.specs.declared.entries.Entry.TheVariants.{Block, BlockMacro, Inline, Link}
use Rattle.attr_list.specs.Reading.{Reading, refused, gives, list_to, link_to, read_by, unless_closed, lent_refusal, unless_refused, reading}

abbrev pub Numbered : Reading → Type 0
Numbered (refused n) = 0 < n
Numbered (gives rows consumed rejoined) = Unit {0}

either : (b : Bool) (r s : Reading) → Numbered r → Numbered s → Numbered (cond b r s)
either true r s v w = v
either false r s v w = w

list-numbered : (l : Line) (block : Bool) (c : Option TokenPlace) → Numbered (list_to l block c)
list-numbered l block (Some end) = tt
list-numbered l block None = omega arith

link-numbered : (l : Line) (m : LinkMacro) → Numbered (link_to l m)
link-numbered l AsList = list-numbered l false (closing false l.kinds)
link-numbered l (AsText end) = either (eqb (kind_at l.kinds end.0) close_bracket) _ (refused no_closing_bracket) tt (omega arith)

by-numbered : (e : Entry) (l : Line) → Numbered (read_by e l)
by-numbered Block l = list-numbered l true (closing true l.kinds)
by-numbered BlockMacro l = list-numbered l false (closing true l.kinds)
by-numbered Inline l = list-numbered l false (closing false l.kinds)
by-numbered Link l = link-numbered l (link_macro l.kinds l.pairs)

pub reading-numbered : (most : ℕ) (e : Entry) (l : Line) (room : ℕ) → Numbered (reading most e l room)
unfolding reading
reading-numbered most e l room = go (lent_refusal most l room)
  where
    go : (n : ℕ) → Numbered (unless_refused n (unless_closed l.kinds (read_by e l)))
    go zero = either (eqb (kind_at l.kinds 0) close_bracket) (gives _ 1 0) (read_by e l) tt (by-numbered e l)
    go (suc n) = omega arith
