-- Laws of the rows of a list: how many there are at most, and the loop over the attributes.
use Rattle.std.specs.Prelude.{ℕ, zero, suc, ◌+◌, ◌-◌, ◌≤◌, ◌<◌, Bool, true, false, cond, ◌≡◌, refl, List, [], ◌∷◌, ◌++◌, length, get_or, drop}
use Rattle.std.proofs.Common.{arith, sym, ap, subst, length-append, drop_of_length-le}
use Rattle.token.specs.Line.{Line, Token, tokens}
use Rattle.runs.specs.Run.{is_attr_ref, without, kept}
use Rattle.row.specs.declared.Row.{Row}
use Rattle.row.specs.Row.{Wrote}
use Rattle.row.proofs.Laws.{Writes, writes_start, writes-part, writes-wrote}
use Rattle.delimiters.specs.Count.{counted}
use Rattle.delimiters.specs.Delimit.{Stretch, dividing, parted}
use Rattle.delimiters.specs.Divide.{Ascending}
use Rattle.delimiters.proofs.CommaLaws.{ascending-end, ascending-next, parted-next}
use Rattle.delimiters.proofs.DivideLaws.{dividing-ascend-to, attributes-none, attributes-some}
use Rattle.put_rows.specs.Rows.{Read}
use Rattle.attribute.specs.Attribute.{attribute}
use Rattle.attribute.proofs.Laws.{rows_few}
use Rattle.attribute.specs.Outcome.{or_one}
use Rattle.list_rows.specs.ListRows.{rows_from, list_rows}

-- ---- the rows of a list are no more than its tokens through the closing bracket, so a buffer that 7 lets pass has room for them

without-few : (p : Token → Bool) (ts : List Token) → length (without p ts) ≤ length ts
unfolding without
without-few p [] = omega arith
without-few p (t ∷ ts) = go (p t) (without-few p ts)
  where
    go : (b : Bool) → length (without p ts) ≤ length ts → length (cond b (without p ts) (t ∷ without p ts)) ≤ length (t ∷ ts)
    go true h = omega arith
    go false h = omega arith

tokens-length : (l : Line) (p n : ℕ) → length (tokens l p n) ≡ n
unfolding tokens
tokens-length l p zero = refl
tokens-length l p (suc n) = ap suc (tokens-length l (suc p) n)

pub kept-few : (l : Line) (from to : ℕ) → length (kept l from to) ≤ to - from
unfolding kept
kept-few l from to = omega (arith, without-few is_attr_ref (tokens l from (to - from)), tokens-length l from (to - from))

or-one-few : (n : ℕ) → or_one n ≤ n + 1
or-one-few zero = omega arith
or-one-few (suc n) = omega arith

attribute-few : (block has : Bool) (ts : List Token) → length (attribute block has ts).rows ≤ length ts + 1
attribute-few block has ts = omega (arith, rows_few block has ts, or-one-few (length ts))

pub parted-few : (l : Line) (block has : Bool) (from : ℕ) (cs : List ℕ) (end : ℕ) → Ascending from cs end → length (rows_from l block has (parted from cs end)).rows ≤ end - from + 1
unfolding rows_from parted
parted-few l block has from [] end h =
    omega (arith, length-append (attribute block has (kept l from end)).rows [], attribute-few block has (kept l from end), kept-few l from end)
parted-few l block has from (c ∷ cs) end h =
    let d = attribute block has (kept l from c) in
    omega (arith, h.0, ascending-end (c + 1) cs end h.1, length-append d.rows (rows_from l block d.has_id (parted (c + 1) cs end)).rows, attribute-few block has (kept l from c), kept-few l from c, parted-few l block d.has_id (c + 1) cs end h.1)

pub list-few : (l : Line) (block : Bool) (end : ℕ) → counted l.kinds ≤ end → length (list_rows l block end) ≤ end + 1
unfolding rows_from
list-few l block end h = go (counted l.kinds) refl
  where
    few : List Stretch → Type 0
    few ss = length (rows_from l block false ss).rows ≤ end + 1

    go : (n : ℕ) → counted l.kinds ≡ n → length (list_rows l block end) ≤ end + 1
    go zero e = subst few (sym (attributes-none l.kinds end e)) (omega arith)
    go (suc n) e = subst few (sym (attributes-some l.kinds end (omega arith))) (omega (arith, parted-few l block false 0 (dividing l.kinds) end (dividing-ascend-to l.kinds end h)))

-- ---- the loop over the attributes: j of the commas `cs` are passed, the attribute that is read next begins at `from`; the rows are written up to `at`

pub record Listing (l : Line) (cs : List ℕ) (end : ℕ) (block : Bool) (base cur : List ℕ) (from at : ℕ) (id : Bool) (j : ℕ) : Type 0 where
  pub within : j ≤ length cs
  pub few : at ≤ from
  pub ascending : Ascending from (drop j cs) end
  pub writes : Writes base 0 (rows_from l block false (parted 0 cs end)).rows cur at (rows_from l block id (parted from (drop j cs) end)).rows

module _ (l : Line) (cs : List ℕ) (end : ℕ) (block : Bool) (base : List ℕ) where
  pub listing_start : Ascending 0 cs end → Listing l cs end block base base 0 0 false 0
  listing_start h = record { within = omega arith; few = omega arith; ascending = h; writes = writes_start base 0 _ }

  module _ (cur : List ℕ) (from at : ℕ) (id : Bool) (j : ℕ) (w : Listing l cs end block base cur from at id j) where
    -- the next comma stands where the attribute ends, before the closing bracket
    pub listing-comma : j < length cs → (from ≤ get_or cs j 0) × (get_or cs j 0 < end)
    listing-comma h =
        let v = ascending-next from cs end j h w.ascending in
        (v.0, omega (arith, ascending-end (get_or cs j 0 + 1) (drop (j + 1) cs) end v.1))

    pub listing-end : from ≤ end
    listing-end = ascending-end from (drop j cs) end w.ascending

    module _ (h : j < length cs) (after : List ℕ) (r : ℕ) (id' : Bool) (d : Read) (e : d ≡ attribute block id (kept l from (get_or cs j 0))) (v : Wrote cur at d.rows after r) (i : id' ≡ d.has_id) where
      splits : (rows_from l block id (parted from (drop j cs) end)).rows ≡ d.rows ++ (rows_from l block id' (parted (get_or cs j 0 + 1) (drop (j + 1) cs) end)).rows
      unfolding rows_from
      splits = rw (parted-next from cs j end h, i, e)

      pub listing-next : r ≤ at + (get_or cs j 0 - from) + 1 → Listing l cs end block base after (get_or cs j 0 + 1) r id' (j + 1)
      listing-next few =
          record {
            within = omega arith;
            few = omega (arith, w.few, (listing-comma h).0);
            ascending = (ascending-next from cs end j h w.ascending).1;
            writes = writes-part base 0 _ cur at d.rows _ after r (subst (λ (x : List Row). Writes base 0 (rows_from l block false (parted 0 cs end)).rows cur at x) splits w.writes) v;
          }

    module _ (h : length cs ≤ j) (after : List ℕ) (r : ℕ) (d : Read) (e : d ≡ attribute block id (kept l from end)) (v : Wrote cur at d.rows after r) where
      ends : (rows_from l block id (parted from (drop j cs) end)).rows ≡ d.rows ++ []
      unfolding rows_from parted
      ends = rw (drop_of_length-le cs h, e)

      pub listing-last : Wrote base 0 (rows_from l block false (parted 0 cs end)).rows after r
      listing-last =
          writes-wrote base 0 _ after r
          (writes-part base 0 _ cur at d.rows [] after r (subst (λ (x : List Row). Writes base 0 (rows_from l block false (parted 0 cs end)).rows cur at x) ends w.writes) v)
