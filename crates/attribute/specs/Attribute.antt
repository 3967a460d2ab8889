-- The rows of one attribute (document 01, "One attribute").
use Rattle.std.specs.Prelude.{ℕ, zero, suc, Bool, cond, List, [], ◌∷◌, length}
use Rattle.token.specs.Line.{Token}
use Rattle.token.specs.declared.quotes.QuoteMark.TheVariants as mark
use Rattle.runs.specs.Run.{is_comma, is_whitespace, up_to, onward, trim, run_of}
use Rattle.row.specs.Row.{empty_positional, positional, named, role, option, diagnostic, plain}
use Rattle.put_rows.specs.Rows.{Read, one_row, row_first, in_shorthand, groups, group_read, id_read}
use Rattle.attr_ir.specs.Look.{is_symbol}
use Rattle.attr_ir.specs.Ir.{Ir, attr_ir}
use Rattle.attr_ir.specs.Ir as is

-- `again` is the whole reading of an attribute

-- "it is cut before the first Dots, Hash or Percent of any length: nothing before it is diagnostic 2 at that token; else tag 2, and the tail goes
-- back through the whole reading of an attribute". (A positional that is cut has such a token: `cut-has-symbol` of Laws.antt.)
unfoldable pub cut_read : (again : List Token → Read) → (has : Bool) → (before tail : List Token) → Read
cut_read again has [] [] = one_row has (diagnostic 0 2)
cut_read again has [] (t ∷ ts) = one_row has (diagnostic t.place 2)
cut_read again has (t ∷ ts) tail = row_first (positional (run_of (t ∷ ts)) mark.None) (again tail)

-- "`options`, `opts` split at Comma, `role` at Whitespace"
unfoldable pub ir_read : (again : List Token → Read) → (has : Bool) → Ir → Read
ir_read again has (is.positional ts m cut) =
    cond cut (cut_read again has (up_to is_symbol ts) (onward is_symbol ts)) (one_row has (positional (run_of ts) m))
ir_read again has (is.named name value m) = one_row has (named name value m)
ir_read again has (is.plain name value m) = one_row has (plain name value m)
ir_read again has (is.options ts) = group_read has option (groups is_comma ts)
ir_read again has (is.roles ts) = group_read has role (groups is_whitespace ts)
ir_read again has (is.ident ts m) = id_read has ts m
ir_read again has (is.shorthand ts) = in_shorthand has ts

-- "AttrRef is dropped, then `trim`; nothing left is tag 1": of trimmed tokens
unfoldable pub reading : (again : List Token → Read) → (block has : Bool) → List Token → Read
reading again block has [] = one_row has empty_positional
reading again block has (t ∷ ts) = ir_read again has (attr_ir block (t ∷ ts))

-- `most` bounds how often the tail of a cut goes back
unfoldable pub attribute_in : (most : ℕ) → (block has : Bool) → List Token → Read
attribute_in zero block has ts = record { rows = []; has_id = has }
attribute_in (suc most) block has ts = reading (λ tail. attribute_in most block has tail) block has (trim ts)

-- The rows of one attribute, of its kept tokens. A tail has fewer tokens than what was cut, so their number bounds how often a tail goes back:
-- `again` of Laws.antt is the equation without the bound, `attribute block has ts ≡ reading (attribute block has) block has (trim ts)`.
unfoldable pub attribute : (block has : Bool) → List Token → Read
attribute block has ts = attribute_in (suc (length ts)) block has ts
