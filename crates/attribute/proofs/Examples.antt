-- Attributes read: the rows that the definitions give, computed. None is of a line of document 01's bench.
use Rattle.std.specs.Prelude.{ℕ, suc, Bool, true, false, ◌≡◌, refl, List, [], ◌∷◌}
use Rattle.token.specs.declared.quotes.QuoteMark.TheVariants as mark
use Rattle.token.specs.Kind as kind
use Rattle.token.specs.Line.{Token, run}
use Rattle.runs.specs.Run.{is_attr_ref, without, up_to, onward, last_of, front, trim_start, leave, trim_end, trim, quote_mark, quoted, inside, unquote, run_of}
use Rattle.runs.specs.Names.{bytes, same_bytes}
use Rattle.row.specs.declared.Row.{Row}
use Rattle.row.specs.Row.{empty_positional, positional, named, ident, role, option, diagnostic, plain}
use Rattle.attr_ir.specs.Look.{symbol_sight, sight, look}
use Rattle.attr_ir.specs.Ir.{name_tokens, value, value_mark, value_tokens, name_of, named_ir, key_value_ir, ir_as, attr_ir}
use Rattle.put_rows.specs.Rows.{Read, pieces, shorthand_read, later_groups, groups, group_rows, id_read}
use Rattle.attribute.specs.Attribute.{cut_read, ir_read, reading, attribute_in, attribute}

abbrev rows : List Row → Bool → Read
rows rs has = record { rows = rs; has_id = has }

-- tokens by a short name each: `a`, `.`, `...`, `#`, `%`, `=`, `==`, two quotes, a space, a comma, an attribute reference
data Sort : Type 0 where
  w dot dots hash percent eq eqs dq sq sp comma ref : Sort

abbrev tok : ℕ → Sort → Token
tok p w = record { place = p; kind = kind.word; lexeme = 97 ∷ [] }
tok p dot = record { place = p; kind = kind.dots; lexeme = 46 ∷ [] }
tok p dots = record { place = p; kind = kind.dots; lexeme = 46 ∷ 46 ∷ 46 ∷ [] }
tok p hash = record { place = p; kind = kind.hash; lexeme = 35 ∷ [] }
tok p percent = record { place = p; kind = kind.percent; lexeme = 37 ∷ [] }
tok p eq = record { place = p; kind = kind.equal_signs; lexeme = 61 ∷ [] }
tok p eqs = record { place = p; kind = kind.equal_signs; lexeme = 61 ∷ 61 ∷ [] }
tok p dq = record { place = p; kind = kind.double_quote; lexeme = 34 ∷ [] }
tok p sq = record { place = p; kind = kind.single_quote; lexeme = 39 ∷ [] }
tok p sp = record { place = p; kind = kind.whitespace; lexeme = 32 ∷ [] }
tok p comma = record { place = p; kind = kind.comma; lexeme = 44 ∷ [] }
tok p ref = record { place = p; kind = kind.attr_ref; lexeme = 123 ∷ 120 ∷ 125 ∷ [] }

abbrev line : ℕ → List Sort → List Token
line p [] = []
line p (x ∷ xs) = tok p x ∷ line (suc p) xs

-- a name of kind Word with these bytes, at place 0, and the rest from place 1 on
abbrev naming : List ℕ → List Sort → List Token
naming bs xs = record { place = 0; kind = kind.word; lexeme = bs } ∷ line 1 xs

-- the block entry, AttrRef dropped
abbrev read : Bool → List Token → Read
read has ts = attribute true has (without is_attr_ref ts)

answers : List Read
unfolding attribute attribute_in reading ir_read cut_read id_read group_rows groups later_groups shorthand_read pieces attr_ir ir_as key_value_ir named_ir name_of value value_mark value_tokens name_tokens look sight symbol_sight same_bytes bytes run_of unquote inside quoted quote_mark trim trim_end leave trim_start front last_of onward up_to without
answers =
    read false (line 0 (w ∷ eq ∷ sq ∷ w ∷ comma ∷ w ∷ sq ∷ [])) ∷
    read false (line 0 (w ∷ eqs ∷ w ∷ eqs ∷ w ∷ eq ∷ w ∷ [])) ∷
    read false (line 0 (dot ∷ w ∷ percent ∷ w ∷ hash ∷ [])) ∷
    read false (line 0 (percent ∷ hash ∷ w ∷ [])) ∷
    read false (line 0 (w ∷ dots ∷ w ∷ hash ∷ w ∷ [])) ∷
    read false (naming (105 ∷ 100 ∷ []) (eq ∷ sq ∷ sq ∷ [])) ∷
    read false (naming (105 ∷ 100 ∷ []) (eq ∷ w ∷ [])) ∷
    read true (naming (105 ∷ 100 ∷ []) (eq ∷ w ∷ [])) ∷
    read false (naming (111 ∷ 112 ∷ 116 ∷ 115 ∷ []) (eq ∷ dq ∷ w ∷ comma ∷ sp ∷ comma ∷ w ∷ dq ∷ [])) ∷
    read false (naming (114 ∷ 111 ∷ 108 ∷ 101 ∷ []) (eq ∷ dq ∷ w ∷ sp ∷ w ∷ dq ∷ [])) ∷
    read false (naming (115 ∷ 117 ∷ 98 ∷ 115 ∷ []) (sp ∷ eq ∷ sp ∷ w ∷ [])) ∷
    read false (line 0 (ref ∷ sp ∷ w ∷ ref ∷ w ∷ sp ∷ ref ∷ [])) ∷
    read false (record { place = 0; kind = kind.word; lexeme = 105 ∷ [] } ∷ tok 1 ref ∷ record { place = 2; kind = kind.word; lexeme = 100 ∷ [] } ∷ line 3 (eq ∷ w ∷ [])) ∷
    read false (line 0 (sp ∷ sp ∷ [])) ∷
    read false (line 0 (ref ∷ [])) ∷
    read false [] ∷
    read false (line 0 (sq ∷ sq ∷ [])) ∷
    read false (line 0 (w ∷ dot ∷ w ∷ sp ∷ w ∷ [])) ∷
    read false (line 3 (dot ∷ [])) ∷
    read false (line 0 (w ∷ dot ∷ sp ∷ w ∷ [])) ∷
    read true (line 0 (hash ∷ w ∷ [])) ∷
    []

-- each of these is right, by computation
examples-hold : answers ≡ (
    -- `k='a,b'`
    rows (named (run 0 1) (run 3 3) mark.Single ∷ []) false ∷
    -- `a==b==c=d`
    rows (named (run 0 1) (run 2 5) mark.None ∷ []) false ∷
    -- `.x%y#`
    rows (role (run 1 1) ∷ option (run 3 1) ∷ diagnostic 4 1 ∷ []) false ∷
    -- `%#o`
    rows (option (run 0 0) ∷ ident (run 2 1) mark.None ∷ []) true ∷
    -- `a...b#c`
    rows (positional (run 0 1) mark.None ∷ diagnostic 1 2 ∷ []) false ∷
    -- `id=''`
    rows (diagnostic 0 3 ∷ []) false ∷
    -- `id=a`, and the same where the list has an id
    rows (ident (run 2 1) mark.None ∷ []) true ∷
    rows (diagnostic 2 4 ∷ []) true ∷
    -- `opts="a, ,b"`
    rows (option (run 3 1) ∷ option (run 7 1) ∷ []) false ∷
    -- `role="a b"`
    rows (role (run 3 1) ∷ role (run 5 1) ∷ []) false ∷
    -- `subs = a`
    rows (plain (run 0 1) (run 4 1) mark.None ∷ []) false ∷
    -- AttrRef at the edges and inside: `{x} a{x}a {x}`
    rows (positional (run 2 3) mark.None ∷ []) false ∷
    -- a name of several tokens, `i{x}d=`
    rows (ident (run 4 1) mark.None ∷ []) true ∷
    -- whitespace alone, AttrRef alone, nothing; and two quotes, an empty run
    rows (empty_positional ∷ []) false ∷
    rows (empty_positional ∷ []) false ∷
    rows (empty_positional ∷ []) false ∷
    rows (positional (run 0 0) mark.Single ∷ []) false ∷
    -- `a.b c` is cut, `.` alone is 2, `a. b` is not cut
    rows (positional (run 0 1) mark.None ∷ role (run 2 3) ∷ []) false ∷
    rows (diagnostic 3 2 ∷ []) false ∷
    rows (positional (run 0 4) mark.None ∷ []) false ∷
    -- `#a` where the list has an id
    rows (diagnostic 0 4 ∷ []) true ∷
    [])
unfolding answers
examples-hold = refl
