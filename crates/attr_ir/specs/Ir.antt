-- What an attribute is (document 01, "One attribute"): the Rust's `AttrIr`, whose queues are lists of kept tokens here.
use Rattle.std.specs.Prelude.{ℕ, Bool, true, false, cond, not, ◌&&◌, ◌||◌, List, [], ◌∷◌}
use Rattle.token.specs.declared.Run.{Run}
use Rattle.token.specs.declared.quotes.QuoteMark.{QuoteMark}
use Rattle.token.specs.Line.{Line, Token}
use Rattle.token.specs.Quotes.{marked}
use Rattle.runs.specs.Run.{is_whitespace, is_equals, without, up_to, onward, quote_mark, quoted, unquote, run_of, in_run}
use Rattle.runs.specs.Names.{bytes, same_bytes}
use Rattle.attr_ir.specs.declared.Reading.{Reading}
use Rattle.attr_ir.specs.declared.Reading.TheVariants.{Shorthand, Positional, Named}
use Rattle.attr_ir.specs.declared.Name.{Name}
use Rattle.attr_ir.specs.declared.Name.TheVariants.{Options, Role, Id, Plain, Other}
use Rattle.attr_ir.specs.declared.AttrIr.{AttrIr}
use Rattle.attr_ir.specs.declared.AttrIr.TheVariants as ir
use Rattle.attr_ir.specs.Look.{look}

-- `mark` says which quotes were taken off, `cut` whether a positional is to be cut; a name and its value are only handed on, as runs
pub data Ir : Type 0 where
  positional : (tokens : List Token) (mark : QuoteMark) (cut : Bool) → Ir
  named plain : (name value : Run) (mark : QuoteMark) → Ir
  ident : (tokens : List Token) (mark : QuoteMark) → Ir
  options roles shorthand : (tokens : List Token) → Ir

-- ---- named

-- "the name is all before the first EqualSigns of any length, less Whitespace"
unfoldable pub name_tokens : List Token → List Token
name_tokens ts = without is_whitespace (up_to is_equals ts)

abbrev pub less_first : List Token → List Token
less_first [] = []
less_first (t ∷ ts) = ts

abbrev pub less_space : List Token → List Token
less_space [] = []
less_space (t ∷ ts) = cond (is_whitespace t) ts (t ∷ ts)

-- "one Whitespace after it is dropped; the value is unquoted"
unfoldable pub value : List Token → List Token
value ts = unquote (less_space ts)

-- which quotes are taken off it
unfoldable pub value_mark : List Token → QuoteMark
value_mark ts = quote_mark (less_space ts)

-- the tokens after the first EqualSigns
abbrev pub after_equals : List Token → List Token
after_equals ts = less_first (onward is_equals ts)

unfoldable pub value_tokens : List Token → List Token
value_tokens ts = value (after_equals ts)

-- "options", "opts"; "role"; "id"; "subs", "cols"
abbrev pub options_name : List ℕ
options_name = 111 ∷ 112 ∷ 116 ∷ 105 ∷ 111 ∷ 110 ∷ 115 ∷ []

abbrev pub opts_name : List ℕ
opts_name = 111 ∷ 112 ∷ 116 ∷ 115 ∷ []

abbrev pub role_name : List ℕ
role_name = 114 ∷ 111 ∷ 108 ∷ 101 ∷ []

abbrev pub id_name : List ℕ
id_name = 105 ∷ 100 ∷ []

abbrev pub subs_name : List ℕ
subs_name = 115 ∷ 117 ∷ 98 ∷ 115 ∷ []

abbrev pub cols_name : List ℕ
cols_name = 99 ∷ 111 ∷ 108 ∷ 115 ∷ []

unfoldable pub name_of : List ℕ → Name
name_of bs =
    cond (same_bytes bs options_name || same_bytes bs opts_name) Options
    (cond (same_bytes bs role_name) Role
    (cond (same_bytes bs id_name) Id
    (cond (same_bytes bs subs_name || same_bytes bs cols_name) Plain Other)))

-- `options`, `opts`, `role` and `id` are read on; `subs` and `cols` are told apart from other names
unfoldable pub named_ir : Name → (name value : List Token) → (mark : QuoteMark) → Ir
named_ir Options name value mark = options value
named_ir Role name value mark = roles value
named_ir Id name value mark = ident value mark
named_ir Plain name value mark = plain (run_of name) (run_of value) mark
named_ir Other name value mark = named (run_of name) (run_of value) mark

unfoldable pub key_value_ir : List Token → Ir
key_value_ir ts = named_ir (name_of (bytes (name_tokens ts))) (name_tokens ts) (value_tokens ts) (value_mark (after_equals ts))

-- ---- the whole

-- "Positional is unquoted; if nothing was taken, the note is yes and it is the block entry, it is cut"
unfoldable pub ir_as : (block : Bool) → List Token → Reading → Ir
ir_as block ts Shorthand = shorthand ts
ir_as block ts (Positional noted) = positional (unquote ts) (quote_mark ts) (noted && block && not (quoted ts))
ir_as block ts Named = key_value_ir ts

-- of tokens that are trimmed, one or more
unfoldable pub attr_ir : (block : Bool) → List Token → Ir
attr_ir block ts = ir_as block ts (look block true false ts)

-- ---- the code's `AttrIr`, an enum of runs

abbrev pub runs_of : Ir → AttrIr
runs_of (positional ts mark cut) = ir.Positional (marked (run_of ts) mark) cut
runs_of (named name value mark) = ir.Named name (marked value mark)
runs_of (plain name value mark) = ir.Plain name (marked value mark)
runs_of (options ts) = ir.Options (run_of ts)
runs_of (roles ts) = ir.Roles (run_of ts)
runs_of (ident ts mark) = ir.Id (marked (run_of ts) mark)
runs_of (shorthand ts) = ir.Shorthand (run_of ts)

-- the tokens of its runs
abbrev pub tokens_of : Line → AttrIr → Ir
tokens_of l (ir.Positional t cut) = positional (in_run l t.run) t.mark cut
tokens_of l (ir.Named name value) = named name value.run value.mark
tokens_of l (ir.Plain name value) = plain name value.run value.mark
tokens_of l (ir.Options r) = options (in_run l r)
tokens_of l (ir.Roles r) = roles (in_run l r)
tokens_of l (ir.Id t) = ident (in_run l t.run) t.mark
tokens_of l (ir.Shorthand r) = shorthand (in_run l r)
