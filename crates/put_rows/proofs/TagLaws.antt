-- Each row of what an attribute holds has one of the eight tags: of shorthand, of groups whose rows have one, of an id, of a positional. Assumes nothing.
use Rattle.std.specs.Prelude.{ℕ, Bool, true, false, cond, ◌&&◌, ◌||◌, refl, List, [], ◌∷◌, eqb}
use Rattle.std.specs.List.{All}
use Rattle.std.proofs.Common.{sym, subst}
use Rattle.std.proofs.lemmas.List.Elements.{All-nil, All-cons}
use Rattle.token.specs.declared.Run.{Run}
use Rattle.token.specs.declared.quotes.QuoteMark.{QuoteMark}
use Rattle.token.specs.declared.quotes.QuoteMark.TheVariants as mark
use Rattle.token.specs.Line.{Line, Token}
use Rattle.runs.specs.Run.{of_kind, is_hash, is_percent, kept, trim, run_of}
use Rattle.row.specs.declared.Row.{Row}
use Rattle.row.specs.declared.tag.Tag.{Tag}
use Rattle.row.specs.declared.tag.Tag.TheVariants as tag
use Rattle.row.specs.Tag.{tag_number}
use Rattle.row.specs.Row.{one_run, positional, ident, role, option, diagnostic}
use Rattle.row.specs.Tagged.{Tagged}
use Rattle.put_rows.specs.Rows.{Read, one_row, row_first, Piece, pieces, symbol_row, last_empty, shorthand_read, in_shorthand, groups, unless_empty, group_rows, split_rows, id_read, id_run, run_rows}
use Rattle.put_rows.proofs.RowsLaws.{id-by-run}

-- one row
pub one-tagged : (r : Row) → Tagged r → All Tagged (r ∷ [])
one-tagged r w = All-cons Tagged r [] w (All-nil Tagged)

-- ---- shorthand

pub symbol-tagged : (t : Token) (r : Run) → Tagged (symbol_row t r)
symbol-tagged t r = go (is_hash t) (is_percent t)
  where
    go : (a b : Bool) → Tagged (cond a (ident r mark.None) (cond b (option r) (role r)))
    go true b = record { tag = tag.Id; is = refl }
    go false true = record { tag = tag.Option; is = refl }
    go false false = record { tag = tag.Role; is = refl }

pub diagnostic-tagged : (p n : ℕ) → All Tagged (diagnostic p n ∷ [])
diagnostic-tagged p n = one-tagged (diagnostic p n) (record { tag = tag.Diagnostic; is = refl })

pub shorthand-read-tagged : (has : Bool) (ps : List Piece) → All Tagged (shorthand_read has ps).rows
unfolding shorthand_read
shorthand-read-tagged has [] = All-nil Tagged
shorthand-read-tagged has (p ∷ ps) = go (last_empty p.taken ps) (is_hash p.symbol && has) (shorthand-read-tagged (is_hash p.symbol || has) ps)
  where
    go : (a b : Bool) → All Tagged (shorthand_read (is_hash p.symbol || has) ps).rows
        → All Tagged (cond a (one_row has (diagnostic p.symbol.place 1)) (cond b (one_row has (diagnostic p.symbol.place 4)) (row_first (symbol_row p.symbol (run_of p.taken)) (shorthand_read (is_hash p.symbol || has) ps)))).rows
    go true b w = diagnostic-tagged p.symbol.place 1
    go false true w = diagnostic-tagged p.symbol.place 4
    go false false w = All-cons Tagged (symbol_row p.symbol (run_of p.taken)) (shorthand_read (is_hash p.symbol || has) ps).rows (symbol-tagged p.symbol (run_of p.taken)) w

pub shorthand-tagged : (has : Bool) (ts : List Token) → All Tagged (in_shorthand has ts).rows
shorthand-tagged has ts = shorthand-read-tagged has (pieces ts)

-- ---- groups

module _ (f : Run → Row) (w : (r : Run) → Tagged (f r)) where
  pub unless-tagged : (ts : List Token) (rs : List Row) → All Tagged rs → All Tagged (unless_empty f ts rs)
  unless-tagged [] rs h = h
  unless-tagged (t ∷ ts) rs h = All-cons Tagged (f (run_of (t ∷ ts))) rs (w (run_of (t ∷ ts))) h

  pub groups-tagged : (gs : List (List Token)) → All Tagged (group_rows f gs)
  unfolding group_rows
  groups-tagged [] = All-nil Tagged
  groups-tagged (g ∷ gs) = unless-tagged (trim g) (group_rows f gs) (groups-tagged gs)

pub split-tagged : (t : Tag) (kind : ℕ) (ts : List Token) → All Tagged (split_rows (tag_number t) kind ts)
split-tagged t kind ts = groups-tagged (one_run (tag_number t)) (λ r. record { tag = t; is = refl }) (groups (of_kind kind) ts)

-- ---- ids and positionals

pub id-run-tagged : (has : Bool) (r : Run) (m : QuoteMark) → All Tagged (id_run has r m).rows
unfolding id_run
id-run-tagged has r m = go (eqb r.count 0) has
  where
    go : (a b : Bool) → All Tagged (cond a (one_row has (diagnostic 0 3)) (cond b (one_row true (diagnostic r.place.0 4)) (one_row true (ident r m)))).rows
    go true b = diagnostic-tagged 0 3
    go false true = diagnostic-tagged r.place.0 4
    go false false = one-tagged (ident r m) (record { tag = tag.Id; is = refl })

pub id-tagged : (has : Bool) (ts : List Token) (m : QuoteMark) → All Tagged (id_read has ts m).rows
id-tagged has ts m = subst (λ (d : Read). All Tagged d.rows) (sym (id-by-run has ts m)) (id-run-tagged has (run_of ts) m)

pub run-tagged : (l : Line) (from to : ℕ) → All Tagged (run_rows l from to)
run-tagged l from to = one-tagged (positional (run_of (kept l from to)) mark.None) (record { tag = tag.Positional; is = refl })
