-- The outcome of reading an attribute, and what the calls for it ask for.
use Rattle.std.specs.Prelude.{ℕ, zero, suc, ◌+◌, ◌-◌, ◌≡◌, Bool, true, List, length, Option, Some, None}
use Rattle.token.specs.declared.Run.{Run}
use Rattle.token.specs.declared.quotes.Unquoted.{Unquoted}
use Rattle.token.specs.Line.{Line, Token}
use Rattle.runs.specs.Run.{kept, up_to, onward}
use Rattle.put_rows.specs.declared.Written.{Written}
use Rattle.put_rows.specs.Rows.{Read}
use Rattle.put_rows.specs.Written.{StopFirst, Outcome}
use Rattle.attr_ir.specs.declared.AttrIr.{AttrIr}
use Rattle.attr_ir.specs.declared.AttrIr.TheVariants.{Positional, Named, Plain, Options, Roles, Id, Shorthand}
use Rattle.attr_ir.specs.Look.{is_symbol}
use Rattle.attr_ir.specs.Ir.{runs_of, tokens_of}
use Rattle.attr_ir.specs.Places.{Bounded}
use Rattle.attribute.specs.Attribute.{cut_read, ir_read, attribute}

-- ---- reading and cutting

-- of `parse_attr`: the attribute from..to of a line
abbrev pub Attributed : (l : Line) (from to : ℕ) (block has : Bool) (before : List ℕ) (at : ℕ) (r : Written) (after : List ℕ) → Type 0
Attributed l from to block has = Outcome (attribute block has (kept l from to)) (to - from + 1)

-- of `text_to_cut`: the text of a positional that is to be cut, or nothing where there is none
abbrev pub ToCut : AttrIr → Option Unquoted → Type 0
ToCut i (Some text) = i ≡ Positional text true
ToCut i None = (text : Unquoted) → i ≡ Positional text true → ⊥

-- of `cut_positional`: the positional from..to of a line, cut before its first Dots, Hash or Percent
abbrev pub Cut : (l : Line) (from to : ℕ) (block has : Bool) (before : List ℕ) (at : ℕ) (r : Written) (after : List ℕ) → Type 0
Cut l from to block has = Outcome (cut_read (attribute block has) has (up_to is_symbol (kept l from to)) (onward is_symbol (kept l from to))) (to - from + 1)

-- ---- an attribute that is not cut, by its runs

-- the most rows that it gives
abbrev pub most_rows : AttrIr → ℕ
most_rows (Positional text cut) = 1
most_rows (Named name value) = 1
most_rows (Plain name value) = 1
most_rows (Options run) = run.count
most_rows (Roles run) = run.count
most_rows (Id text) = 1
most_rows (Shorthand run) = run.count

-- what `put_ir` asks for: the attribute is not to be cut, its runs are those of their tokens and stand in the line, and a shorthand begins with its
-- symbol
pub record Uncut (l : Line) (i : AttrIr) : Type 0 where
  pub whole : (text : Unquoted) → i ≡ Positional text true → ⊥
  pub runs : i ≡ runs_of (tokens_of l i)
  pub within : Bounded l.kinds 0 (length l.kinds) i
  pub symbol : (run : Run) → i ≡ Shorthand run → StopFirst l.kinds l.text l.pairs run.place.0 (run.place.0 + run.count)

-- its outcome, whatever reads the tail of a cut: nothing is cut
abbrev pub Put : (l : Line) (i : AttrIr) (has : Bool) (before : List ℕ) (at : ℕ) (r : Written) (after : List ℕ) → Type 0
Put l i has before at r after = (again : List Token → Read) → Outcome (ir_read again has (tokens_of l i)) (most_rows i) before at r after

-- ---- how many rows

-- max(1, n): "an attribute of n tokens gives at most max(1, n) rows" (law `rows_few`)
abbrev pub or_one : ℕ → ℕ
or_one zero = 1
or_one (suc n) = suc n
