-- Anchors, `[[id,text]]` (document 02, slip 1): what is answered for a line that begins after the two brackets.
use Rattle.std.specs.Prelude.{ℕ, zero, suc, ◌+◌, ◌-◌, Bool, true, false, cond, ◌&&◌, ◌||◌, List, eqb, ltb, length, drop, min, position, Option, None, Some}
use Rattle.refusals.specs.Refusals.{anchor_malformed}
use Rattle.token.specs.declared.Run.{Run}
use Rattle.token.specs.Kind.{close_bracket, comma, digits, discard, double_quote, kind_at, single_quote, whitespace}
use Rattle.token.specs.Line.{Line, length_in, most_tokens, refusal, run, empty_run}
use Rattle.anchor.specs.Numbers.{Numbers, refused, no_anchor, found}

-- ---- the first token

-- "A first token of SingleQuote, DoubleQuote, Whitespace, CloseBracket, Digits or Comma answers 'no anchor'"
abbrev pub begins_none : (kind : ℕ) → Bool
begins_none k =
    eqb k single_quote || eqb k double_quote || eqb k whitespace || eqb k close_bracket || eqb k digits || eqb k comma

-- ---- the id

-- "The id runs to the first Comma or CloseBracket, AttrRef tokens being kept in it and in the reference text": all tokens before that one, which may
-- be missing, so that the line "runs out"
abbrev pub ends_id : (kind : ℕ) → Bool
ends_id k = eqb k comma || eqb k close_bracket

abbrev pub id_count : (kinds : List ℕ) → Option ℕ
id_count kinds = position ends_id kinds

-- how many bytes the first n tokens have, AttrRef ones too
unfoldable pub bytes_of : Line → (n : ℕ) → ℕ
bytes_of l zero = 0
bytes_of l (suc n) = bytes_of l n + length_in l.pairs n

-- "has an id of no bytes": the id is the first n tokens
abbrev pub no_bytes : Line → (n : ℕ) → Bool
no_bytes l n = eqb (bytes_of l n) 0

-- ---- the reference text; `rest` is what stands after the Comma

abbrev pub is_bracket : (kind : ℕ) → Bool
is_bracket k = eqb k close_bracket

-- where in `rest` the two CloseBrackets must stand. "After the Comma a whole line must end in two CloseBrackets": at its last token but one. "Inline, the
-- first CloseBracket must be followed by another, with no escape": at the first CloseBracket
unfoldable pub text_end : (is_entire_line : Bool) → (rest : List ℕ) → Option ℕ
text_end true rest = cond (ltb (length rest) 2) None (Some (length rest - 2))
text_end false rest = position is_bracket rest

abbrev pub two_brackets : (rest : List ℕ) → (at : ℕ) → Bool
two_brackets rest at = is_bracket (kind_at rest at) && is_bracket (kind_at rest (at + 1))

-- "Reference text of no tokens is absent": the run of a text of m tokens that begins at a place
unfoldable pub text_run : (place m : ℕ) → Run
text_run p zero = empty_run
text_run p (suc m) = run p (suc m)

-- "After a Comma one leading Whitespace becomes kind Discard and still belongs to the reference text": the kind of the text's first token, as it then is
abbrev pub leading_kind : (kind : ℕ) → ℕ
leading_kind k = cond (eqb k whitespace) discard k

-- "whether the first token counts as Discard": of a text of m tokens
unfoldable pub counts_as_discard : (rest : List ℕ) → (m : ℕ) → Bool
counts_as_discard rest zero = false
counts_as_discard rest (suc m) = eqb (leading_kind (kind_at rest 0)) discard

-- ---- a line whose id is its first n tokens

-- "At CloseBracket up to two tokens are dropped, itself first, then one of any kind"
abbrev pub id_alone : (kinds : List ℕ) → (n : ℕ) → Numbers
id_alone kinds n = found (run 0 n) empty_run (min (n + 2) (length kinds)) false

-- the text is the first m tokens after the Comma; id, Comma, text and the two brackets are consumed, of "a whole line .. all"; or the line "does not
-- close as said"
unfoldable pub with_text : (n : ℕ) → (rest : List ℕ) → Option ℕ → Numbers
with_text n rest None = refused anchor_malformed
with_text n rest (Some m) =
    cond (two_brackets rest m) (found (run 0 n) (text_run (n + 1) m) (n + 1 + m + 2) (counts_as_discard rest m)) (refused anchor_malformed)

-- the token after the id is CloseBracket or Comma
abbrev pub after_id : (is_entire_line : Bool) → (kinds : List ℕ) → (n : ℕ) → Numbers
after_id is_entire_line kinds n =
    let rest = drop (n + 1) kinds in
    cond (is_bracket (kind_at kinds n)) (id_alone kinds n) (with_text n rest (text_end is_entire_line rest))

unfoldable pub with_id : (is_entire_line : Bool) → Line → Option ℕ → Numbers
with_id is_entire_line l None = refused anchor_malformed
with_id is_entire_line l (Some n) = cond (no_bytes l n) (refused anchor_malformed) (after_id is_entire_line l.kinds n)

-- ---- any line

-- a line that 1 to 6 do not refuse: "no anchor", and 12 "for any other line that runs out, does not close as said, or has an id of no bytes"
unfoldable pub unrefused : (is_entire_line : Bool) → Line → Numbers
unrefused is_entire_line l = cond (begins_none (kind_at l.kinds 0)) no_anchor (with_id is_entire_line l (id_count l.kinds))

abbrev pub unless_refused : (number : ℕ) → Numbers → Numbers
unless_refused zero a = a
unless_refused (suc n) a = refused (suc n)

-- "The checks of a line, 1 to 6, come first"
unfoldable pub anchor : (is_entire_line : Bool) → Line → Numbers
anchor is_entire_line l = unless_refused (refusal most_tokens l) (unrefused is_entire_line l)
