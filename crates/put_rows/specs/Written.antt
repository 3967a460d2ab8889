-- What calls that write rows answer, and what the search for the next symbol finds.
use Rattle.std.specs.Prelude.{ℕ, ◌+◌, ◌-◌, ◌≤◌, ◌<◌, ◌≡◌, Bool, true, List, length, get_or}
use Rattle.token.specs.Kind.{attr_ref}
use Rattle.token.specs.Line.{Line, Token, line_of, token_at}
use Rattle.runs.specs.Run.{kept}
use Rattle.runs.specs.Places.{FoundIn}
use Rattle.row.specs.declared.Row.{Row}
use Rattle.row.specs.Row.{with_rows, Wrote}
use Rattle.put_rows.specs.declared.Written.{Written}
use Rattle.put_rows.specs.Rows.{Read, is_stop, in_shorthand, split_rows, run_rows}

-- the answer of a call that writes what a reading gives, from row `at` on
abbrev pub written : (at : ℕ) → Read → Written
written at d = record { rows = at + length d.rows; id = d.has_id }

-- the same, with the buffer before and after
pub record WroteId (before : List ℕ) (at : ℕ) (d : Read) (after : List ℕ) (r : Written) : Type 0 where
  pub wrote : Wrote before at d.rows after r.rows
  pub id : r.id ≡ d.has_id

-- ---- shorthand

-- the place of the first kept Hash, Percent or one-byte Dots, or `to`
pub record StopsAt (kinds text pairs : List ℕ) (from to r : ℕ) : Type 0 where
  pub low : from ≤ r
  pub high : r ≤ to
  pub found : FoundIn (line_of kinds text pairs) is_stop from to r

-- the first of some places is kept, and holds a Hash, Percent or one-byte Dots
pub record StopFirst (kinds text pairs : List ℕ) (from to : ℕ) : Type 0 where
  pub first : from < to → get_or kinds from 0 ≡ attr_ref → ⊥
  pub stop : from < to → is_stop (token_at (line_of kinds text pairs) from) ≡ true

-- ---- outcomes

-- of a call that writes what a reading gives, from row `at` on: its answer, the buffer on return, and how many rows there are at most
pub record Outcome (d : Read) (most : ℕ) (before : List ℕ) (at : ℕ) (r : Written) (after : List ℕ) : Type 0 where
  pub answer : r ≡ written at d
  pub buffer : after ≡ with_rows before at d.rows
  pub few : r.rows ≤ at + most

-- of a call that writes rows for the tokens kept from..to, whatever the line's text, and answers the number of the row past them
pub record RowsOf (f : List Token → List Row) (kinds : List ℕ) (from to : ℕ) (before : List ℕ) (at r : ℕ) (after : List ℕ) : Type 0 where
  pub wrote : (text pairs : List ℕ) → Wrote before at (f (kept (line_of kinds text pairs) from to)) after r
  pub few : r ≤ at + (to - from)

-- of `push_shorthand`: the attribute from..to of a line, in shorthand
abbrev pub Shorthanded : (l : Line) (from to : ℕ) (has : Bool) (before : List ℕ) (at : ℕ) (r : Written) (after : List ℕ) → Type 0
Shorthanded l from to has = Outcome (in_shorthand has (kept l from to)) (to - from)

-- of `put_positional`: the places from..to, whatever the line's text
abbrev pub Positioned : (kinds : List ℕ) (from to : ℕ) (has : Bool) (before : List ℕ) (at : ℕ) (r : Written) (after : List ℕ) → Type 0
Positioned kinds from to has before at r after =
    (text pairs : List ℕ) → WroteId before at (record { rows = run_rows (line_of kinds text pairs) from to; has_id = has }) after r

-- of `put_groups`: the places from..to split at a kind, whatever the line's text
abbrev pub Grouped : (kinds : List ℕ) (kind tag from to : ℕ) (has : Bool) (before : List ℕ) (at : ℕ) (r : Written) (after : List ℕ) → Type 0
Grouped kinds kind tag from to has before at r after =
    (text pairs : List ℕ) → Outcome (record { rows = split_rows tag kind (kept (line_of kinds text pairs) from to); has_id = has }) (to - from) before at r after
