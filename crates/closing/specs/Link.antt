-- Whether a link's brackets hold a list or text: "Links follow `_parse_link_macro_attr_list`" (document 01, "Lists and links").
use Rattle.std.specs.Prelude.{ℕ, zero, suc, ◌+◌, ◌*◌, ◌-◌, Bool, true, false, cond, not, ◌&&◌, ◌||◌, List, eqb, length, get_or}
use Rattle.token.specs.Kind.{backslash, close_bracket, double_quote, eof, equal_signs, open_bracket}
use Rattle.closing.specs.declared.LinkMacro.{LinkMacro}
use Rattle.closing.specs.declared.LinkMacro.TheVariants.{AsList, AsText}
use Rattle.closing.specs.declared.look.Seen.{Seen}
use Rattle.std.specs.declared.ops.ControlFlow.{ControlFlow}
use Rattle.std.specs.declared.ops.ControlFlow.TheVariants.{Break, Continue}

-- What each case says: 1 for a list; 0 for text, and the place where it ends.
pub record Holds : Type 0 where
  pub list : ℕ
  pub end : ℕ

abbrev pub holds_of : LinkMacro → Holds
holds_of AsList = record { list = 1; end = 0 }
holds_of (AsText p) = record { list = 0; end = p.0 }

-- what has been seen after a token of kind `last`, of which only counts whether it is Backslash
abbrev pub sight : (quoted nested : Bool) → (last : ℕ) → Seen
sight quoted nested last = record { quoted = quoted; nested = nested; escaped = eqb last backslash }

abbrev pub text : ℕ → LinkMacro
text p = AsText (record { 0 = p })

-- what a token decides: what the brackets hold, or nothing yet, and what has been seen
abbrev pub Turn : Type 0
Turn = ControlFlow LinkMacro Seen

abbrev pub goes_on : (quoted nested : Bool) → (last : ℕ) → Turn
goes_on quoted nested last = Continue (sight quoted nested last)

-- What a token of kind k at place p decides, arm for arm as the Rust's `match (last_kind, token.kind)`; `one` says that its length is 1. "Nesting is a flag, no
-- depth."
unfoldable pub turn : Seen → (p k : ℕ) → (one : Bool) → Turn
turn s p k one =
    cond (s.escaped && eqb k close_bracket && s.nested) (goes_on s.quoted false k)
    (cond (s.escaped && (eqb k close_bracket || eqb k open_bracket || eqb k double_quote)) (goes_on s.quoted s.nested k)
    (cond (eqb k double_quote) (goes_on (not s.quoted) s.nested k)
    (cond (eqb k open_bracket) (goes_on s.quoted true k)
    (cond (eqb k close_bracket && s.nested) (goes_on s.quoted false k)
    (cond (eqb k close_bracket) (Break (text p))
    (cond (eqb k equal_signs && one && not s.quoted) (Break AsList)
    (goes_on s.quoted s.nested k)))))))

-- what the look gives where a token decided so; `more` is what the tokens after it give
abbrev pub decided : Turn → (Seen → LinkMacro) → LinkMacro
decided (Break held) more = held
decided (Continue s) more = more s

-- the look at n tokens from place p on; where none decides, the text ends with them
unfoldable pub look_from : (kinds pairs : List ℕ) → Seen → (p n : ℕ) → LinkMacro
look_from kinds pairs s p zero = text p
look_from kinds pairs s p (suc n) =
    decided (turn s p (get_or kinds p 0) (eqb (get_or pairs (2 * p + 1) 0) 1)) (λ t. look_from kinds pairs t (suc p) n)

-- "list (read as inline) or text", from all tokens but the last: a text ends before the token that is to close it
unfoldable pub link_macro : (kinds pairs : List ℕ) → LinkMacro
link_macro kinds pairs = look_from kinds pairs (sight false false eof) 0 (length kinds - 1)
