-- Each row of one attribute has one of the eight tags. Assumes nothing.
use Rattle.std.specs.Prelude.{ℕ, zero, suc, Bool, true, false, cond, refl, List, [], ◌∷◌, length}
use Rattle.std.specs.List.{All}
use Rattle.std.proofs.lemmas.List.Elements.{All-nil, All-cons}
use Rattle.token.specs.declared.quotes.QuoteMark.TheVariants as mark
use Rattle.token.specs.Line.{Token}
use Rattle.runs.specs.Run.{is_comma, is_whitespace, up_to, onward, trim, run_of}
use Rattle.row.specs.declared.tag.Tag.TheVariants as tag
use Rattle.row.specs.Row.{empty_positional, positional, named, role, option, plain}
use Rattle.row.specs.Tagged.{Tagged}
use Rattle.attr_ir.specs.Look.{is_symbol}
use Rattle.attr_ir.specs.Ir.{Ir, attr_ir}
use Rattle.attr_ir.specs.Ir as is
use Rattle.put_rows.specs.Rows.{Read, one_row, groups}
use Rattle.put_rows.proofs.TagLaws.{one-tagged, diagnostic-tagged, shorthand-tagged, groups-tagged, id-tagged}
use Rattle.attribute.specs.Attribute.{cut_read, ir_read, reading, attribute_in, attribute}

-- of a reading by which each row of the tail of a cut has one
module _ (again : List Token → Read) (tail-tagged : (ts : List Token) → All Tagged (again ts).rows) (has : Bool) where
  pub cut-tagged : (before tail : List Token) → All Tagged (cut_read again has before tail).rows
  unfolding cut_read
  cut-tagged [] [] = diagnostic-tagged 0 2
  cut-tagged [] (t ∷ ts) = diagnostic-tagged t.place 2
  cut-tagged (t ∷ ts) tail = All-cons Tagged (positional (run_of (t ∷ ts)) mark.None) (again tail).rows (record { tag = tag.Positional; is = refl }) (tail-tagged tail)

  pub ir-tagged : (i : Ir) → All Tagged (ir_read again has i).rows
  unfolding ir_read
  ir-tagged (is.positional ts m cut) = go cut (cut-tagged (up_to is_symbol ts) (onward is_symbol ts))
    where
      go : (b : Bool) → All Tagged (cut_read again has (up_to is_symbol ts) (onward is_symbol ts)).rows
          → All Tagged (cond b (cut_read again has (up_to is_symbol ts) (onward is_symbol ts)) (one_row has (positional (run_of ts) m))).rows
      go true w = w
      go false w = one-tagged (positional (run_of ts) m) (record { tag = tag.Positional; is = refl })
  ir-tagged (is.named name value m) = one-tagged (named name value m) (record { tag = tag.Named; is = refl })
  ir-tagged (is.plain name value m) = one-tagged (plain name value m) (record { tag = tag.Plain; is = refl })
  ir-tagged (is.options ts) = groups-tagged option (λ r. record { tag = tag.Option; is = refl }) (groups is_comma ts)
  ir-tagged (is.roles ts) = groups-tagged role (λ r. record { tag = tag.Role; is = refl }) (groups is_whitespace ts)
  ir-tagged (is.ident ts m) = id-tagged has ts m
  ir-tagged (is.shorthand ts) = shorthand-tagged has ts

  pub reading-tagged : (block : Bool) (ts : List Token) → All Tagged (reading again block has ts).rows
  unfolding reading
  reading-tagged block [] = one-tagged empty_positional (record { tag = tag.EmptyPositional; is = refl })
  reading-tagged block (t ∷ ts) = ir-tagged (attr_ir block (t ∷ ts))

pub attribute-in-tagged : (most : ℕ) (block has : Bool) (ts : List Token) → All Tagged (attribute_in most block has ts).rows
unfolding attribute_in
attribute-in-tagged zero block has ts = All-nil Tagged
attribute-in-tagged (suc most) block has ts = reading-tagged (λ tail. attribute_in most block has tail) (λ tail. attribute-in-tagged most block has tail) has block (trim ts)

pub attribute-tagged : (block has : Bool) (ts : List Token) → All Tagged (attribute block has ts).rows
unfolding attribute
attribute-tagged block has ts = attribute-in-tagged (suc (length ts)) block has ts
