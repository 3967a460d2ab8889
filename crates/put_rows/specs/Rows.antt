-- The rows of what an attribute holds (document 01, "One attribute"): shorthand, groups, ids, positionals.
use Rattle.std.specs.Prelude.{ℕ, Bool, true, false, cond, ◌&&◌, ◌||◌, List, [], ◌∷◌, eqb}
use Rattle.token.specs.declared.Run.{Run}
use Rattle.token.specs.declared.quotes.QuoteMark.{QuoteMark}
use Rattle.token.specs.declared.quotes.QuoteMark.TheVariants as mark
use Rattle.token.specs.Kind.{hash, percent}
use Rattle.token.specs.Line.{Line, Token}
use Rattle.runs.specs.Run.{of_kind, is_dots, is_hash, is_percent, of_one, kept, up_to, trim, run_of}
use Rattle.row.specs.declared.Row.{Row}
use Rattle.row.specs.declared.tag.Tag.{Tag}
use Rattle.row.specs.declared.tag.Tag.TheVariants as tag
use Rattle.row.specs.Row.{one_run, positional, ident, role, option, diagnostic}

-- what reading gives: rows, and whether the list then has an id
pub record Read : Type 0 where
  pub rows : List Row
  pub has_id : Bool

abbrev pub one_row : Bool → Row → Read
one_row has r = record { rows = r ∷ []; has_id = has }

abbrev pub row_first : Row → Read → Read
row_first r d = record { rows = r ∷ d.rows; has_id = d.has_id }

-- ---- shorthand

-- "the next Hash, Percent or one-byte Dots"
abbrev pub is_stop : Token → Bool
is_stop t = is_hash t || is_percent t || (is_dots t && of_one t)

-- "each symbol takes tokens up to the next"
pub record Piece : Type 0 where
  pub symbol : Token
  pub taken : List Token

unfoldable pub pieces : List Token → List Piece
pieces [] = []
pieces (t ∷ ts) =
    let rest = pieces ts in
    cond (is_stop t) (record { symbol = t; taken = up_to is_stop ts } ∷ rest) rest

-- Dots gives a role, Hash an id, Percent an option
abbrev pub symbol_row : Token → Run → Row
symbol_row t r = cond (is_hash t) (ident r mark.None) (cond (is_percent t) (option r) (role r))

-- the tag of that row, by the symbol's kind
abbrev pub symbol_tag : (kind : ℕ) → Tag
symbol_tag k = cond (eqb k hash) tag.Id (cond (eqb k percent) tag.Option tag.Role)

-- nothing stands after the symbol
abbrev pub last_empty : (taken : List Token) → (later : List Piece) → Bool
last_empty [] [] = true
last_empty [] (p ∷ ps) = false
last_empty (t ∷ ts) ps = false

-- "A symbol with nothing after it is 1 there; else a Hash when the list already has an id, however given, is 4 there; both end this attribute, rows
-- already written remain. Two symbols together give an empty run."
unfoldable pub shorthand_read : (has : Bool) → List Piece → Read
shorthand_read has [] = record { rows = []; has_id = has }
shorthand_read has (p ∷ ps) =
    let more = row_first (symbol_row p.symbol (run_of p.taken)) (shorthand_read (is_hash p.symbol || has) ps) in
    cond (last_empty p.taken ps) (one_row has (diagnostic p.symbol.place 1))
    (cond (is_hash p.symbol && has) (one_row has (diagnostic p.symbol.place 4)) more)

-- the rows of an attribute in shorthand
abbrev pub in_shorthand : (has : Bool) → List Token → Read
in_shorthand has ts = shorthand_read has (pieces ts)

-- ---- groups and ids

-- the groups after each token for which p holds, up to the next such token
unfoldable pub later_groups : (Token → Bool) → List Token → List (List Token)
later_groups p [] = []
later_groups p (t ∷ ts) =
    let rest = later_groups p ts in
    cond (p t) (up_to p ts ∷ rest) rest

-- split at the tokens for which p holds
unfoldable pub groups : (Token → Bool) → List Token → List (List Token)
groups p ts = up_to p ts ∷ later_groups p ts

abbrev pub unless_empty : (Run → Row) → List Token → List Row → List Row
unless_empty f [] rs = rs
unless_empty f (t ∷ ts) rs = f (run_of (t ∷ ts)) ∷ rs

-- "groups trimmed, empty ones dropped"
unfoldable pub group_rows : (Run → Row) → List (List Token) → List Row
group_rows f [] = []
group_rows f (g ∷ gs) = unless_empty f (trim g) (group_rows f gs)

abbrev pub group_read : (has : Bool) → (Run → Row) → List (List Token) → Read
group_read has f gs = record { rows = group_rows f gs; has_id = has }

-- the rows of one group, and of tokens that are split at a kind, by their tag
abbrev pub group_row : (tag : ℕ) → List Token → List Row
group_row t g = unless_empty (one_run t) (trim g) []

abbrev pub split_rows : (tag kind : ℕ) → List Token → List Row
split_rows t kind ts = group_rows (one_run t) (groups (of_kind kind) ts)

-- "`id` empty is 3; second id is 4 at its first token." 3 is at "place 0, the list's own"
-- `m` is the mark of the quotes that were taken off
unfoldable pub id_read : (has : Bool) → List Token → (m : QuoteMark) → Read
id_read has [] m = one_row has (diagnostic 0 3)
id_read has (t ∷ ts) m = cond has (one_row true (diagnostic t.place 4)) (one_row true (ident (run_of (t ∷ ts)) m))

-- the same by the run of its tokens (law `id-by-run`), for every run
unfoldable pub id_run : (has : Bool) → Run → (m : QuoteMark) → Read
id_run has r m = cond (eqb r.count 0) (one_row has (diagnostic 0 3)) (cond has (one_row true (diagnostic r.place.0 4)) (one_row true (ident r m)))

-- ---- positionals

-- the one row of the tokens kept of the places from `from` up to and without `to`, off which no quotes were taken
abbrev pub run_rows : Line → (from to : ℕ) → List Row
run_rows l from to = positional (run_of (kept l from to)) mark.None ∷ []
