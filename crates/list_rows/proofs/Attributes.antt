-- The loop over the attributes, with the commas in a lent slice: the first n of `commas` are those that part.
use Prim.Native.Nat.{ℕ, suc, ◌+◌, ◌*◌, ◌-◌, ◌≤◌, ◌<◌}
use native.Mathlib.Omega.{arith}
use borrow.Author.Tests.{eqb-true}
use mathlib.Core.Bool.{Bool, true, false, ◌&&◌}
use mathlib.Core.Path.{◌≡◌, refl, sym, ap, ◌∙◌}
use mathlib.Core.List.{List, [], ◌∷◌}
use lib.Dec.{eqb}
use lib.ListN.{length, get_or}
use Rattle.std.proofs.lemmas.Bool.{and_parts}
use Rattle.token.specs.Kind.{word}
use Rattle.token.specs.declared.quotes.QuoteMark.TheVariants as mark
use Rattle.token.specs.Line.{Line, token_at, lexeme_at, run, empty_run}
use Rattle.runs.specs.Run.{kept, run_of, last_of, trim, trim_start, trim_end, leave, quote_mark, quoted, unquote}
use Rattle.runs.proofs.KeptLaws.{kept-none, kept-one}
use Rattle.row.specs.declared.Row.{Row}
use Rattle.row.specs.declared.tag.Tag.TheVariants as tag
use Rattle.row.specs.Tag.{tag_number}
use Rattle.row.specs.Row.{width, one_run, empty_positional, positional, Wrote}
use Rattle.delimiters.specs.Delimit.{parted}
use Rattle.put_rows.specs.declared.Written.{Written}
use Rattle.attr_ir.specs.Look.{look, sight}
use Rattle.attr_ir.specs.Ir.{attr_ir, ir_as}
use Rattle.put_rows.specs.Rows.{Read, one_row}
use Rattle.attribute.specs.Attribute.{attribute, reading, ir_read}
use Rattle.attribute.proofs.Laws.{again}
use Rattle.put_rows.specs.Written.{WroteId}
use Rattle.attribute.specs.Outcome.{Attributed}
use Rattle.put_rows.proofs.Outcomes.{all_told}
use Rattle.list_rows.specs.ListRows.{rows_from}
use Rattle.list_rows.proofs.ListRowsLaws.{Listing, listing-comma, listing-next, listing-last}

-- ---- an attribute of no tokens, and one of one Word: the row that is written for it

-- a call that wrote what an attribute gives
pub attributed : (l : Line) (from to : ℕ) (block has : Bool) (before : List ℕ) (at : ℕ) (d : Read) (after : List ℕ) (r : Written) → WroteId before at d after r → d ≡ attribute block has (kept l from to) → r.rows ≤ at + (to - from + 1) → Attributed l from to block has before at r after
attributed l from to block has before at d after r w e few =
    let v = all_told before at d (attribute block has (kept l from to)) after r (at + (to - from + 1)) w e few in
    record { answer = v.0; buffer = v.1.0; few = v.1.1 }

none_read : (block has : Bool) → attribute block has [] ≡ one_row has empty_positional
unfolding reading trim trim_start trim_end
none_read block has = again block has []

pub none_row : (block has : Bool) (l : Line) (from to : ℕ) → from ≡ to → (row : Row) → row ≡ one_run (tag_number tag.EmptyPositional) empty_run → one_row has row ≡ attribute block has (kept l from to)
none_row block has l from to e row is = ap (one_row has) is ∙ sym (ap (attribute block has) (kept-none l from to (omega (arith, e))) ∙ none_read block has)

word_read : (block has : Bool) (p : ℕ) (bs : List ℕ) → attribute block has (record { place = p; kind = word; lexeme = bs } ∷ []) ≡ one_row has (positional (run p (suc (p - p))) mark.None)
unfolding reading trim trim_start trim_end leave attr_ir look sight ir_as quote_mark quoted unquote ir_read run_of last_of
word_read block has p bs = again block has (record { place = p; kind = word; lexeme = bs } ∷ [])

word_kept : (l : Line) (p : ℕ) → get_or l.kinds p 0 ≡ word → kept l p (p + 1) ≡ record { place = p; kind = word; lexeme = lexeme_at l p } ∷ []
unfolding token_at
word_kept l p e = kept-one l p (λ z. absurd (omega (arith, e, z))) ∙ rw e refl

both_true : (a b : Bool) → a && b ≡ true → (a ≡ true) × (b ≡ true)
both_true a b e = and_parts a b e

pub word_row : (block has : Bool) (l : Line) (from to : ℕ) → (eqb to (from + 1) && eqb (get_or l.kinds from 0) word) ≡ true → (row : Row) → row ≡ one_run (tag_number tag.Positional) (run from 1) → one_row has row ≡ attribute block has (kept l from to)
word_row block has l from to t row is =
    let w = both_true (eqb to (from + 1)) (eqb (get_or l.kinds from 0) word) t in
    let one : suc (from - from) ≡ 1 = omega arith in
    ap (one_row has) is
    ∙ sym (
    ap (λ (x : ℕ). attribute block has (kept l from x)) (eqb-true to (from + 1) w.0)
    ∙ ap (attribute block has) (word_kept l from (eqb-true (get_or l.kinds from 0) word w.1))
    ∙ word_read block has from (lexeme_at l from)
    ∙ ap (λ (n : ℕ). one_row has (positional (run from n) mark.None)) one
    )

-- ---- the loop

module _ (l : Line) (commas : List ℕ) (end : ℕ) (block : Bool) (base cur : List ℕ) (from at : ℕ) (id : Bool) (j : ℕ) (w : Listing l commas end block base cur from at id j) where
  -- what the reading of an attribute asks
  pub comma-room : (c : ℕ) → c ≡ get_or commas j 0 → j < length commas → width * (end + 1) ≤ length base → (from ≤ c) × (c < end) × (width * (at + (c - from) + 1) ≤ length cur)
  comma-room c e h room =
      let v = listing-comma l commas end block base cur from at id j w h in
      rw e (v.0, v.1, omega (arith, v.0, v.1, w.few, w.writes.long, room))

  pub next : (c : ℕ) → c ≡ get_or commas j 0 → j < length commas → (r : Written) (after : List ℕ) → Attributed l from c block id cur at r after → Listing l commas end block base after (c + 1) r.rows r.id (j + 1)
  next c e h r after v =
      let few : r.rows ≤ at + (get_or commas j 0 - from) + 1 = omega (arith, e, v.few) in
      rw e (listing-next l commas end block base cur from at id j w h after r.rows r.id (attribute block id (kept l from c)) (ap (λ (x : ℕ). attribute block id (kept l from x)) e)
      (record { count = ap (λ (x : Written). x.rows) v.answer; buffer = v.buffer })
      (ap (λ (x : Written). x.id) v.answer) few)

  pub last : length commas ≤ j → (r : Written) (after : List ℕ) → Attributed l from end block id cur at r after → Wrote base 0 (rows_from l block false (parted 0 commas end)).rows after r.rows
  last h r after v =
      listing-last l commas end block base cur from at id j w h after r.rows (attribute block id (kept l from end)) refl
      (record { count = ap (λ (x : Written). x.rows) v.answer; buffer = v.buffer })
