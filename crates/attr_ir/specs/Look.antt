-- How an attribute is read: "Look from the left until decided" (document 01, "One attribute").
use Rattle.std.specs.Prelude.{ℕ, Bool, true, false, cond, not, ◌&&◌, ◌||◌, List, [], ◌∷◌}
use Rattle.std.specs.declared.ops.ControlFlow.{ControlFlow}
use Rattle.std.specs.declared.ops.ControlFlow.TheVariants.{Break, Continue}
use Rattle.token.specs.Line.{Line, Token, token_at}
use Rattle.runs.specs.Run.{is_dots, is_hash, is_percent, is_double_quote, is_single_quote, is_whitespace, is_equals, of_one, kept}
use Rattle.runs.specs.Names.{same_bytes}
use Rattle.attr_ir.specs.declared.Reading.{Reading}
use Rattle.attr_ir.specs.declared.Reading.TheVariants.{Shorthand, Positional, Named}

-- what one token decides: how the attribute is read, or nothing yet, with the note so far
abbrev pub Sight : Type 0
Sight = ControlFlow Reading Bool

-- "Dots, Hash or Percent"
abbrev pub is_symbol : Token → Bool
is_symbol t = is_dots t || is_hash t || is_percent t

-- such a token of length 1, and "an EqualSigns token whose text is `=`"
abbrev pub one_symbol : Token → Bool
one_symbol t = is_symbol t && of_one t

abbrev pub equals_sign : Token → Bool
equals_sign t = is_equals t && same_bytes t.lexeme (61 ∷ [])

abbrev pub is_quote : Token → Bool
is_quote t = is_double_quote t || is_single_quote t

-- whether there is a next token, whether it is Whitespace, and whether it is `=`
abbrev pub any : List Token → Bool
any [] = false
any (t ∷ ts) = true

abbrev pub next_space : List Token → Bool
next_space [] = false
next_space (t ∷ ts) = is_whitespace t

abbrev pub next_equals : List Token → Bool
next_equals [] = false
next_equals (t ∷ ts) = equals_sign t

-- a Dots, Hash or Percent of length 1, with the tokens ts after it; `short` says that it is the first, of the block entry.
-- "first, length 1, more than one token, block entry: shorthand." "The same symbol of length 1 otherwise: note whether the next token is not
-- Whitespace (no next token notes yes); a later note replaces it."
unfoldable pub symbol_sight : (short : Bool) → List Token → Sight
symbol_sight short ts = cond (short && any ts) (Break Shorthand) (Continue (not (next_space ts)))

-- what the token t decides, with the tokens ts after it; `first` says that it is the first, `noted` is the note so far.
-- "A quote: positional. Whitespace not followed by an EqualSigns token whose text is `=`: positional."
-- "EqualSigns first: positional; of length 1 later: named."
unfoldable pub sight : (block first noted : Bool) → Token → List Token → Sight
sight block first noted t ts =
    cond (one_symbol t) (symbol_sight (block && first) ts)
    (cond (is_quote t) (Break (Positional noted))
    (cond (is_whitespace t) (cond (next_equals ts) (Continue noted) (Break (Positional noted)))
    (cond (is_equals t) (cond first (Break (Positional noted)) (cond (of_one t) (Break Named) (Continue noted)))
    (Continue noted))))

-- the same of the token at a place, where the tokens after it are those kept of the places from `next` up to and without `to`
abbrev pub sight_at : (block first noted : Bool) → Line → (at next to : ℕ) → Sight
sight_at block first noted l at next to = sight block first noted (token_at l at) (kept l next to)

abbrev pub decided : Sight → (Bool → Reading) → Reading
decided (Break r) k = r
decided (Continue noted) k = k noted

-- "Undecided is positional."
unfoldable pub look : (block first noted : Bool) → List Token → Reading
look block first noted [] = Positional noted
look block first noted (t ∷ ts) = decided (sight block first noted t ts) (λ n. look block false n ts)
