-- Rows of groups and ids, and the search for the next symbol.
use Prim.Native.Nat.{ℕ, ◌+◌, ◌*◌, ◌-◌, ◌≤◌, ◌<◌}
use native.Mathlib.Omega.{arith}
use mathlib.Core.Bool.{Bool, true, false, ◌||◌}
use mathlib.Core.Path.{◌≡◌, refl, sym, ap, subst, ◌∙◌}
use mathlib.Core.List.{List, [], ◌∷◌}
use lib.ListN.{length, get_or}
use lib.Seq.{sets}
use borrow.Author.Tests.{eq-eqb, ne_eqb}
use Rattle.token.specs.declared.Run.{Run}
use Rattle.token.specs.declared.quotes.QuoteMark.{QuoteMark}
use Rattle.token.specs.Kind.{attr_ref, dots, hash, percent}
use Rattle.token.specs.Line.{Token, line_of, token_at}
use Rattle.runs.specs.Run.{kept, of_kind, of_one, is_hash, is_percent, trim, run_of}
use Rattle.runs.specs.Places.{FoundAt}
use Rattle.runs.proofs.NamesLaws.{kind-of}
use Rattle.std.proofs.lemmas.Bool.{false≢true}
use Rattle.runs.specs.declared.places.Places as read
use Rattle.runs.proofs.Finds.{found-in}
use Rattle.row.specs.declared.Row.{Row}
use Rattle.row.specs.Row.{width, numbers, one_run, diagnostic, ident, Wrote}
use Rattle.row.proofs.Laws.{Writes, writes_start, writes-part, writes-wrote, wrote_none, wrote_one}
use Rattle.put_rows.specs.declared.Written.{Written}
use Rattle.put_rows.specs.Rows.{Read, one_row, is_stop, unless_empty, groups, group_rows, id_run}
use Rattle.put_rows.specs.Written.{WroteId, StopsAt, Grouped}
use Rattle.put_rows.proofs.Lists.{groups-next, groups-last, group_rows-first, unless-none, run-count}

-- ---- one row

pub wrote-row : (before : List ℕ) (at : ℕ) (row : Row) (id : Bool) (after : List ℕ) → after ≡ sets before (width * at) (numbers row) → WroteId before at (one_row id row) after (record { rows = at + 1; id = id })
wrote-row before at row id after e = rw e (record { wrote = wrote_one before at row; id = refl })

pub wrote-same : (before : List ℕ) (at : ℕ) (a b : Read) (after : List ℕ) (r : Written) → a ≡ b → WroteId before at a after r → WroteId before at b after r
wrote-same before at a b after r e w = subst (λ (x : Read). WroteId before at x after r) e w

-- ---- one group

run-some : (ts : List Token) → ((run_of ts).count ≡ 0 → ⊥) → (f : Run → Row) → unless_empty f ts [] ≡ f (run_of ts) ∷ []
unfolding run_of
run-some [] e f = absurd (e refl)
run-some (t ∷ ts) e f = refl

module _ (kinds : List ℕ) (from to : ℕ) (r : Run) (e : (text pairs : List ℕ) → r ≡ run_of (trim (kept (line_of kinds text pairs) from to))) (tag : ℕ) (buffer : List ℕ) (at : ℕ) where
  pub group-none : r.count ≡ 0 → (text pairs : List ℕ) → Wrote buffer at (unless_empty (one_run tag) (trim (kept (line_of kinds text pairs) from to)) []) buffer at
  group-none h text pairs =
      let ts = trim (kept (line_of kinds text pairs) from to) in
      rw (unless-none (one_run tag) ts (run-count ts (ap (λ (x : Run). x.count) (sym (e text pairs)) ∙ h))) (wrote_none buffer at)

  pub group-some : (r.count ≡ 0 → ⊥) → (row : Row) → row ≡ one_run tag r → (has : Bool) (after : List ℕ) (q : Written) → WroteId buffer at (one_row has row) after q → (text pairs : List ℕ) → Wrote buffer at (unless_empty (one_run tag) (trim (kept (line_of kinds text pairs) from to)) []) after q.rows
  group-some h row f has after q w text pairs =
      let ts = trim (kept (line_of kinds text pairs) from to) in
      let one = run-some ts (λ z. h (ap (λ (x : Run). x.count) (e text pairs) ∙ z)) (one_run tag) in
      rw (one, ← e text pairs, ← f) w.wrote

-- ---- the groups, first to last

pub record Grouping (kinds : List ℕ) (kind tag from to : ℕ) (base : List ℕ) (at i : ℕ) (cur : List ℕ) (n : ℕ) : Type 0 where
  pub low : from ≤ i
  pub high : i ≤ to
  pub few : n ≤ at + (i - from)
  pub long : length cur ≡ length base
  pub writes : (text pairs : List ℕ) → Writes base at (group_rows (one_run tag) (groups (of_kind kind) (kept (line_of kinds text pairs) from to))) cur n (group_rows (one_run tag) (groups (of_kind kind) (kept (line_of kinds text pairs) i to)))

module _ (kinds : List ℕ) (kind tag from to : ℕ) (base : List ℕ) (at : ℕ) where
  pub grouping-start : from ≤ to → Grouping kinds kind tag from to base at from base at
  grouping-start h = record { low = omega arith; high = h; few = omega arith; long = refl; writes = λ text pairs. writes_start base at (group_rows (one_run tag) (groups (of_kind kind) (kept (line_of kinds text pairs) from to))) }

  module _ (i : ℕ) (cur : List ℕ) (n m : ℕ) (w : Grouping kinds kind tag from to base at i cur n) (f : FoundAt (of_kind kind) kinds i to m) (after : List ℕ) (r : ℕ) (v : (text pairs : List ℕ) → Wrote cur n (unless_empty (one_run tag) (trim (kept (line_of kinds text pairs) i m)) []) after r) (few : r ≤ n + (m - i)) where
    pub grouping-next : m < to → length after ≡ length cur → Grouping kinds kind tag from to base at (m + 1) after r
    grouping-next h k =
        record {
          low = omega (arith, w.low, f.low);
          high = omega arith;
          few = omega (arith, w.few, w.low, f.low);
          long = k ∙ w.long;
          writes = λ text pairs.
              writes-part base at _ cur n (unless_empty (one_run tag) (trim (kept (line_of kinds text pairs) i m)) []) _ after r
              (subst (λ (rs : List Row). Writes base at (group_rows (one_run tag) (groups (of_kind kind) (kept (line_of kinds text pairs) from to))) cur n rs)
              (ap (group_rows (one_run tag)) (groups-next (line_of kinds text pairs) (of_kind kind) i to m f.low f.high (f.found text pairs) h) ∙ group_rows-first (one_run tag) (kept (line_of kinds text pairs) i m) (groups (of_kind kind) (kept (line_of kinds text pairs) (m + 1) to)))
              (w.writes text pairs))
              (v text pairs);
        }

    pub grouping-done : to ≤ m → (text pairs : List ℕ) → Wrote base at (group_rows (one_run tag) (groups (of_kind kind) (kept (line_of kinds text pairs) from to))) after r
    unfolding group_rows
    grouping-done h text pairs =
        writes-wrote base at _ after r
        (writes-part base at _ cur n (unless_empty (one_run tag) (trim (kept (line_of kinds text pairs) i m)) []) [] after r
        (subst (λ (rs : List Row). Writes base at (group_rows (one_run tag) (groups (of_kind kind) (kept (line_of kinds text pairs) from to))) cur n rs)
        (ap (group_rows (one_run tag)) (groups-last (line_of kinds text pairs) (of_kind kind) i to m f.low f.high (f.found text pairs) h) ∙ group_rows-first (one_run tag) (kept (line_of kinds text pairs) i m) [])
        (w.writes text pairs))
        (v text pairs))

-- ---- ids

module _ (has : Bool) (run : Run) (m : QuoteMark) where
  pub id-empty : run.count ≡ 0 → one_row has (diagnostic 0 3) ≡ id_run has run m
  unfolding id_run
  id-empty z = sym (rw (eq-eqb run.count 0 z))

  module _ (n : run.count ≡ 0 → ⊥) where
    pub id-again : has ≡ true → one_row has (diagnostic run.place.0 4) ≡ id_run has run m
    unfolding id_run
    id-again h = rw (ne_eqb run.count 0 n, h)

    pub id-new : has ≡ false → one_row true (ident run m) ≡ id_run has run m
    unfolding id_run
    id-new h = sym (rw (ne_eqb run.count 0 n, h))

-- ---- stops

module _ (t : Token) where
  pub stop-either : (is_hash t || is_percent t) ≡ true → true ≡ is_stop t
  stop-either e = sym (rw e)

  pub stop-dots : t.kind ≡ dots → (b : Bool) → of_one t ≡ b → b ≡ is_stop t
  stop-dots e b f = sym (rw (e, f))

  pub stop-other : (t.kind ≡ dots → ⊥) → (t.kind ≡ hash → ⊥) → (t.kind ≡ percent → ⊥) → false ≡ is_stop t
  stop-other a b d = sym (rw (ne_eqb t.kind hash b, ne_eqb t.kind percent d, ne_eqb t.kind dots a))

module _ (kinds text pairs : List ℕ) (from to : ℕ) where
  ref-no-stop : (i : ℕ) → get_or kinds i 0 ≡ attr_ref → is_stop (token_at (line_of kinds text pairs) i) ≡ false
  ref-no-stop i e = rw (kind-of (line_of kinds text pairs) i attr_ref e)

  -- the first place that holds a symbol, where none does before
  pub stops-first : (r : ℕ) → from ≤ r → r ≤ to → ((i : ℕ) → from ≤ i → i < r → is_stop (token_at (line_of kinds text pairs) i) ≡ false) → (r < to → is_stop (token_at (line_of kinds text pairs) r) ≡ true) → StopsAt kinds text pairs from to r
  stops-first r low high before here =
      record { low = low; high = high; found = found-in (line_of kinds text pairs) is_stop from to r low high before (λ h. record { kept = λ f. false≢true (sym (ref-no-stop r f) ∙ here h); here = here h }) }

-- ---- what is so of places is so of those that they are equal to

pub grouped-of : {p q : read.Places} {has : Bool} {before : List ℕ} {at : ℕ} {r : Written} {after : List ℕ} (kind tag : ℕ) → p ≡ q → Grouped p.kinds.now kind tag p.from.0 p.to.0 has before at r after → Grouped q.kinds.now kind tag q.from.0 q.to.0 has before at r after
grouped-of {has = has} {before = before} {at = at} {r = r} {after = after} kind tag e w = subst (λ (p : read.Places). Grouped p.kinds.now kind tag p.from.0 p.to.0 has before at r after) e w
