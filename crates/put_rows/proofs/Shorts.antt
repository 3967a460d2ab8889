-- The loop over the pieces of a shorthand.
use Prim.Native.Nat.{ℕ, ◌+◌, ◌-◌, ◌≤◌, ◌<◌}
use native.Mathlib.Omega.{arith}
use mathlib.Core.Bool.{Bool, true, false, ◌&&◌, ◌||◌}
use mathlib.Core.Path.{◌≡◌, sym, ap, subst, ◌∙◌}
use mathlib.Core.List.{List, [], ◌∷◌}
use lib.Dec.{eqb}
use lib.ListN.{length, get_or}
use borrow.Author.Tests.{eq-eqb, ne_eqb}
use Rattle.std.proofs.Math.Bool.{and-false, or-true, or-false}
use Rattle.token.specs.declared.Run.{Run}
use Rattle.token.specs.Kind.{hash, percent}
use Rattle.token.specs.Line.{line_of, token_at}
use Rattle.runs.specs.Run.{kept, is_hash, run_of}
use Rattle.runs.proofs.KeptLaws.{kind-is, kept-none}
use Rattle.runs.specs.Places.{all, StartsAt}
use Rattle.row.specs.declared.Row.{Row}
use Rattle.row.specs.Row.{one_run, diagnostic}
use Rattle.row.specs.Tag.{tag_number}
use Rattle.row.proofs.Laws.{Writes, length-with_rows, writes-part, writes-wrote}
use Rattle.put_rows.specs.declared.Written.{Written}
use Rattle.put_rows.specs.Rows.{Read, one_row, row_first, symbol_tag, pieces, shorthand_read}
use Rattle.put_rows.specs.Written.{WroteId, StopsAt, StopFirst}
use Rattle.put_rows.proofs.Lists.{short-last, short-second, short-more, short_none}

-- ---- whether a Hash is the list's second id, and whether the list then has one, by the symbol's kind

module _ (kind : ℕ) (id : Bool) where
  pub second-id : kind ≡ hash → id ≡ true → (eqb kind hash && id) ≡ true
  second-id e f = rw (eq-eqb kind hash e, f)

  pub no-hash : (kind ≡ hash → ⊥) → (eqb kind hash && id) ≡ false
  no-hash n = rw (ne_eqb kind hash n)

  pub first-id : id ≡ false → (eqb kind hash && id) ≡ false
  first-id f = rw f (and-false (eqb kind hash))

  pub has-id : id ≡ true → id ≡ (eqb kind hash || id)
  has-id f = rw f (sym (or-true (eqb kind hash)))

  pub hash-id : id ≡ false → eqb kind hash ≡ (eqb kind hash || id)
  hash-id f = rw f (sym (or-false (eqb kind hash)))

-- ---- the loop

pub record Shorting (kinds text pairs : List ℕ) (from to : ℕ) (has : Bool) (base : List ℕ) (at i : ℕ) (cur : List ℕ) (n : ℕ) (id : Bool) : Type 0 where
  pub low : from ≤ i
  pub high : i ≤ to
  pub few : n ≤ at + (i - from)
  pub long : length cur ≡ length base
  pub symbol : StopFirst kinds text pairs i to
  pub writes : Writes base at (shorthand_read has (pieces (kept (line_of kinds text pairs) from to))).rows cur n (shorthand_read id (pieces (kept (line_of kinds text pairs) i to))).rows
  pub ids : (shorthand_read id (pieces (kept (line_of kinds text pairs) i to))).has_id ≡ (shorthand_read has (pieces (kept (line_of kinds text pairs) from to))).has_id

-- what is left to read is d
record Left (kinds text pairs : List ℕ) (from to : ℕ) (has : Bool) (base : List ℕ) (at : ℕ) (cur : List ℕ) (n : ℕ) (d : Read) : Type 0 where
  pub writes : Writes base at (shorthand_read has (pieces (kept (line_of kinds text pairs) from to))).rows cur n d.rows
  pub ids : d.has_id ≡ (shorthand_read has (pieces (kept (line_of kinds text pairs) from to))).has_id

module _ (kinds text pairs : List ℕ) (from to : ℕ) (has : Bool) (base : List ℕ) (at : ℕ) where
  module _ (i : ℕ) (cur : List ℕ) (n : ℕ) (id : Bool) (w : Shorting kinds text pairs from to has base at i cur n id) where
    left_is : (d : Read) → shorthand_read id (pieces (kept (line_of kinds text pairs) i to)) ≡ d → Left kinds text pairs from to has base at cur n d
    left_is d e = subst (λ (x : Read). Left kinds text pairs from to has base at cur n x) e (record { writes = w.writes; ids = w.ids })

    -- the last row of the attribute
    ends_by : (r : Row) (after : List ℕ) (q : Written) → shorthand_read id (pieces (kept (line_of kinds text pairs) i to)) ≡ one_row id r → WroteId cur n (one_row id r) after q → WroteId base at (shorthand_read has (pieces (kept (line_of kinds text pairs) from to))) after q
    ends_by r after q e v =
        let d = left_is (one_row id r) e in
        record { wrote = writes-wrote base at _ after q.rows (writes-part base at _ cur n (r ∷ []) [] after q.rows d.writes v.wrote); id = v.id ∙ d.ids }

    module _ (h : i < to) (start : ℕ) (v : StartsAt all kinds (i + 1) to start) where
      pub shorting-last : to ≤ start → (after : List ℕ) (q : Written) → WroteId cur n (one_row id (diagnostic i 1)) after q → WroteId base at (shorthand_read has (pieces (kept (line_of kinds text pairs) from to))) after q
      shorting-last g after q = ends_by (diagnostic i 1) after q (short-last (line_of kinds text pairs) i to start h (w.symbol.first h) (w.symbol.stop h) (v.part.same text pairs) id g)

      module _ (g : start < to) where
        hashes : eqb (get_or kinds i 0) hash ≡ is_hash (token_at (line_of kinds text pairs) i)
        hashes = sym (kind-is (line_of kinds text pairs) i hash)

        pub shorting-second : (eqb (get_or kinds i 0) hash && id) ≡ true → (after : List ℕ) (q : Written) → WroteId cur n (one_row id (diagnostic i 4)) after q → WroteId base at (shorthand_read has (pieces (kept (line_of kinds text pairs) from to))) after q
        shorting-second z after q =
            ends_by (diagnostic i 4) after q (short-second (line_of kinds text pairs) i to start h (w.symbol.first h) (w.symbol.stop h) (v.part.same text pairs) id g (v.first g) (ap (λ (b : Bool). b && id) (sym hashes) ∙ z))

        pub shorting-next : (eqb (get_or kinds i 0) hash && id) ≡ false → (m : ℕ) → StopsAt kinds text pairs start to m → (run : Run) → run ≡ run_of (kept (line_of kinds text pairs) start m) → (tag : ℕ) → tag ≡ tag_number (symbol_tag (get_or kinds i 0))
            → (row : Row) → row ≡ one_run tag run → (id' : Bool) → id' ≡ (eqb (get_or kinds i 0) hash || id) → (after : List ℕ) (q : Written) → WroteId cur n (one_row id' row) after q → Shorting kinds text pairs from to has base at m after q.rows q.id
        shorting-next z m s run e tag f row t id' p after q put =
            let l = line_of kinds text pairs in
            let tags : tag_number (symbol_tag (token_at l i).kind) ≡ tag = rw (kind-is l i hash, kind-is l i percent) (sym f) in
            let ids : (is_hash (token_at l i) || id) ≡ q.id = ap (λ (b : Bool). b || id) (sym hashes) ∙ sym p ∙ sym put.id in
            let d = left_is (row_first row (shorthand_read q.id (pieces (kept l m to))))
            (short-more l i to start h (w.symbol.first h) (w.symbol.stop h) (v.part.same text pairs) id g (v.first g) (ap (λ (b : Bool). b && id) (sym hashes) ∙ z) m s.low s.high s.found
            ∙ rw (tags, ids, ← e, ← t)) in
            record {
              low = omega (arith, w.low, v.part.low, s.low);
              high = s.high;
              few = omega (arith, w.few, w.low, v.part.low, s.low, put.wrote.count);
              long = ap length put.wrote.buffer ∙ length-with_rows cur n (row ∷ []) ∙ w.long;
              symbol = record { first = s.found.kept; stop = s.found.here };
              writes = writes-part base at _ cur n (row ∷ []) _ after q.rows d.writes put.wrote;
              ids = d.ids;
            }

    pub shorting-end : to ≤ i → WroteId base at (shorthand_read has (pieces (kept (line_of kinds text pairs) from to))) cur (record { rows = n; id = id })
    shorting-end h =
        let d = left_is (record { rows = []; has_id = id }) (short_none id (kept (line_of kinds text pairs) i to) (kept-none (line_of kinds text pairs) i to h)) in
        record { wrote = writes-wrote base at _ cur n d.writes; id = d.ids }
