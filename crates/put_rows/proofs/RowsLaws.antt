-- Laws of the rows of what an attribute holds: there are no more than tokens; an id by the run of its tokens.
use Rattle.std.specs.Prelude.{suc, ◌+◌, ◌-◌, ◌≤◌, Bool, true, false, cond, ◌&&◌, ◌||◌, ◌≡◌, refl, List, [], ◌∷◌, length}
use Rattle.std.proofs.Common.{arith}
use Rattle.std.proofs.Math.Dec.{eqb-suc-zero}
use Rattle.token.specs.declared.Run.{Run}
use Rattle.token.specs.declared.quotes.QuoteMark.{QuoteMark}
use Rattle.token.specs.Line.{Token}
use Rattle.runs.specs.Run.{is_hash, is_whitespace, up_to, onward, trim_start, leave, trim_end, trim, last_of, run_of}
use Rattle.row.specs.declared.Row.{Row}
use Rattle.row.specs.Row.{diagnostic}
use Rattle.put_rows.specs.Rows.{row_first, one_row, is_stop, Piece, pieces, symbol_row, last_empty, shorthand_read, later_groups, groups, unless_empty, group_rows, id_read, id_run}

-- ---- how many tokens are left

pub cut-length : (p : Token → Bool) (ts : List Token) → length (up_to p ts) + length (onward p ts) ≡ length ts
unfolding up_to onward
cut-length p [] = refl
cut-length p (t ∷ ts) = go (p t) (cut-length p ts)
  where
    go : (b : Bool) → length (up_to p ts) + length (onward p ts) ≡ length ts → length (cond b [] (t ∷ up_to p ts)) + length (cond b (t ∷ ts) (onward p ts)) ≡ length (t ∷ ts)
    go true h = omega arith
    go false h = omega (arith, h)

start-length : (ts : List Token) → length (trim_start ts) ≤ length ts
unfolding trim_start
start-length [] = omega arith
start-length (t ∷ ts) = go (is_whitespace t) (start-length ts)
  where
    go : (b : Bool) → length (trim_start ts) ≤ length ts → length (cond b (trim_start ts) (t ∷ ts)) ≤ length (t ∷ ts)
    go true h = omega (arith, h)
    go false h = omega arith

leave-length : (t : Token) (ts : List Token) → length (leave t ts) ≤ suc (length ts)
unfolding leave
leave-length t [] = go (is_whitespace t)
  where
    go : (b : Bool) → length (cond b [] (t ∷ [])) ≤ 1
    go true = omega arith
    go false = omega arith
leave-length t (u ∷ us) = omega arith

end-length : (ts : List Token) → length (trim_end ts) ≤ length ts
unfolding trim_end
end-length [] = omega arith
end-length (t ∷ ts) =
    let h : length (trim_end ts) ≤ length ts = end-length ts in
    omega (arith, leave-length t (trim_end ts))

pub trim-length : (ts : List Token) → length (trim ts) ≤ length ts
unfolding trim
trim-length ts = omega (arith, end-length (trim_start ts), start-length ts)

-- ---- how many rows

up_to-length : (p : Token → Bool) (ts : List Token) → length (up_to p ts) ≤ length ts
up_to-length p ts = omega (arith, cut-length p ts)

pub onward-length : (p : Token → Bool) (ts : List Token) → length (onward p ts) ≤ length ts
onward-length p ts = omega (arith, cut-length p ts)

unless-length : (f : Run → Row) (ts : List Token) (rs : List Row) → length (unless_empty f ts rs) ≤ length ts + length rs
unless-length f [] rs = omega arith
unless-length f (t ∷ ts) rs = omega arith

-- the rows of the groups after each delimiter: what stands before the first delimiter gives none of them
later_rows : (f : Run → Row) (p : Token → Bool) (ts : List Token) → length (group_rows f (later_groups p ts)) + length (up_to p ts) ≤ length ts
unfolding group_rows later_groups up_to
later_rows f p [] = omega arith
later_rows f p (t ∷ ts) = go (p t) (later_rows f p ts)
  where
    go : (b : Bool) → length (group_rows f (later_groups p ts)) + length (up_to p ts) ≤ length ts
        → length (group_rows f (cond b (up_to p ts ∷ later_groups p ts) (later_groups p ts))) + length (cond b [] (t ∷ up_to p ts)) ≤ length (t ∷ ts)
    go true h = omega (arith, h, unless-length f (trim (up_to p ts)) (group_rows f (later_groups p ts)), trim-length (up_to p ts))
    go false h = omega (arith, h)

pub group-few : (f : Run → Row) (p : Token → Bool) (ts : List Token) → length (group_rows f (groups p ts)) ≤ length ts
unfolding group_rows groups
group-few f p ts = omega (arith, later_rows f p ts, unless-length f (trim (up_to p ts)) (group_rows f (later_groups p ts)), trim-length (up_to p ts))

pub pieces-few : (ts : List Token) → length (pieces ts) ≤ length ts
unfolding pieces
pieces-few [] = omega arith
pieces-few (t ∷ ts) = go (is_stop t) (pieces-few ts)
  where
    go : (b : Bool) → length (pieces ts) ≤ length ts → length (cond b (record { symbol = t; taken = up_to is_stop ts } ∷ pieces ts) (pieces ts)) ≤ length (t ∷ ts)
    go true h = omega (arith, h)
    go false h = omega (arith, h)

pub shorthand-few : (has : Bool) (ps : List Piece) → length (shorthand_read has ps).rows ≤ length ps
unfolding shorthand_read
shorthand-few has [] = omega arith
shorthand-few has (p ∷ ps) = go (last_empty p.taken ps) (is_hash p.symbol && has) (shorthand-few (is_hash p.symbol || has) ps)
  where
    go : (a b : Bool) → length (shorthand_read (is_hash p.symbol || has) ps).rows ≤ length ps
        → length (cond a (one_row has (diagnostic p.symbol.place 1)) (cond b (one_row has (diagnostic p.symbol.place 4)) (row_first (symbol_row p.symbol (run_of p.taken)) (shorthand_read (is_hash p.symbol || has) ps)))).rows ≤ length (p ∷ ps)
    go true b h = omega arith
    go false true h = omega arith
    go false false h = omega (arith, h)

pub id-few : (has : Bool) (ts : List Token) (m : QuoteMark) → length (id_read has ts m).rows ≤ 1
unfolding id_read
id-few has [] m = omega arith
id-few true (t ∷ ts) m = omega arith
id-few false (t ∷ ts) m = omega arith

-- ---- an id by the run of its tokens

pub id-by-run : (has : Bool) (ts : List Token) (m : QuoteMark) → id_read has ts m ≡ id_run has (run_of ts) m
unfolding id_read id_run run_of
id-by-run has [] m = refl
id-by-run has (t ∷ ts) m = rw (eqb-suc-zero ((last_of t ts).place - t.place))
