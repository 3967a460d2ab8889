-- Each row that an entry gives has one of the eight tags, whichever entry, line and limit. Assumes nothing.
use Rattle.std.specs.Prelude.{ℕ, zero, suc, ◌+◌, Bool, true, false, cond, refl, List, [], ◌∷◌, eqb, Option, Some, None}
use Rattle.std.specs.List.{All}
use Rattle.std.proofs.lemmas.List.Elements.{All-nil}
use Rattle.token.specs.declared.TokenPlace.{TokenPlace}
use Rattle.token.specs.Kind.{close_bracket, kind_at}
use Rattle.token.specs.Line.{Line}
use Rattle.runs.specs.Run.{kept}
use Rattle.row.specs.declared.tag.Tag.TheVariants as tag
use Rattle.row.specs.Tagged.{Tagged}
use Rattle.delimiters.specs.Delimit.{Stretch}
use Rattle.closing.specs.declared.LinkMacro.{LinkMacro}
use Rattle.closing.specs.declared.LinkMacro.TheVariants.{AsList, AsText}
use Rattle.closing.specs.Closing.{closing}
use Rattle.closing.specs.Link.{link_macro}
use Rattle.refusals.specs.Refusals.{no_closing_bracket}
use Rattle.put_rows.proofs.TagLaws.{one-tagged}
use Rattle.list_rows.proofs.TagLaws.{rows-tagged, list-tagged}
use Rattle.attr_list.specs.declared.entries.Entry.{Entry}
use Rattle.attr_list.specs.declared.entries.Entry.TheVariants.{Block, BlockMacro, Inline, Link}
use Rattle.attr_list.specs.Entry.{is_block}
use Rattle.attr_list.specs.Reading.{Reading, refused, gives, list_to, text_row, text_to, link_to, read_by, unless_closed, lent_refusal, unless_refused, reading}
use Rattle.attr_list.specs.ReadAsList.{rows_of_attributes}
use Rattle.attr_list.specs.TaggedRows.{TaggedRows}

-- the rows of a list, by its attributes
pub attributes-tagged : (e : Entry) (l : Line) (ss : List Stretch) → All Tagged (rows_of_attributes e l ss)
attributes-tagged e l ss = rows-tagged l (is_block e) false ss

pub list-to-tagged : (l : Line) (block : Bool) (end : Option TokenPlace) → TaggedRows (list_to l block end)
list-to-tagged l block None = record {}
list-to-tagged l block (Some end) = list-tagged l block end.0

pub text-tagged : (l : Line) (end : ℕ) → TaggedRows (text_to l end)
text-tagged l end = go (eqb (kind_at l.kinds end) close_bracket)
  where
    go : (b : Bool) → TaggedRows (cond b (gives (text_row (kept l 0 end) ∷ []) (end + 1) 0) (refused no_closing_bracket))
    go true = one-tagged (text_row (kept l 0 end)) (record { tag = tag.Positional; is = refl })
    go false = record {}

pub link-tagged : (l : Line) (taken : LinkMacro) → TaggedRows (link_to l taken)
link-tagged l AsList = list-to-tagged l false (closing false l.kinds)
link-tagged l (AsText end) = text-tagged l end.0

pub read-tagged : (e : Entry) (l : Line) → TaggedRows (read_by e l)
read-tagged Block l = list-to-tagged l true (closing true l.kinds)
read-tagged BlockMacro l = list-to-tagged l false (closing true l.kinds)
read-tagged Inline l = list-to-tagged l false (closing false l.kinds)
read-tagged Link l = link-tagged l (link_macro l.kinds l.pairs)

pub closed-tagged : (kinds : List ℕ) (r : Reading) → TaggedRows r → TaggedRows (unless_closed kinds r)
closed-tagged kinds r w = go (eqb (kind_at kinds 0) close_bracket)
  where
    go : (b : Bool) → TaggedRows (cond b (gives [] 1 0) r)
    go true = All-nil Tagged
    go false = w

pub refused-tagged : (n : ℕ) (r : Reading) → TaggedRows r → TaggedRows (unless_refused n r)
refused-tagged zero r w = w
refused-tagged (suc n) r w = record {}

-- what each entry gives
pub reading-tagged : (most : ℕ) (e : Entry) (l : Line) (room : ℕ) → TaggedRows (reading most e l room)
unfolding reading
reading-tagged most e l room = refused-tagged (lent_refusal most l room) (unless_closed l.kinds (read_by e l)) (closed-tagged l.kinds (read_by e l) (read-tagged e l))
