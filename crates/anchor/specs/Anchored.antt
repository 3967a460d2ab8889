-- Anchors in words, place by place: nothing here knows how an end is looked for. That these are the anchors that are read and no others, when there is none,
-- and when 12 is due, are laws: `anchored-read` and `anchored-only`, `none-due` and `none-only`, `malformed-due` and `malformed` (proofs/AnchoredLaws.antt).
use Rattle.std.specs.Prelude.{ℕ, ◌+◌, ◌-◌, ◌≤◌, ◌<◌, Bool, true, false, ◌≡◌, ◌⊎◌, List, length, drop, min}
use Rattle.token.specs.Kind.{close_bracket, comma, kind_at}
use Rattle.token.specs.Line.{Line, length_in, most_tokens, refusal, run, empty_run}
use Rattle.anchor.specs.Numbers.{Numbers, found}
use Rattle.anchor.specs.Anchor.{begins_none, ends_id, text_run, counts_as_discard}

-- ---- the id

-- "The id runs to the first Comma or CloseBracket": that one stands at n
pub record IdEnds (kinds : List ℕ) (n : ℕ) : Type 0 where
  pub among : n < length kinds
  pub ends : ends_id (kind_at kinds n) ≡ true
  pub first : (q : ℕ) → q < n → ends_id (kind_at kinds q) ≡ false

-- some of the first n tokens has bytes, AttrRef ones too
pub record SomeBytes (l : Line) (n : ℕ) : Type 0 where
  pub place : ℕ
  pub within : place < n
  pub bytes : 0 < length_in l.pairs place

-- the id is the first n tokens
pub record IsId (l : Line) (n : ℕ) : Type 0 where
  pub stands : IdEnds l.kinds n
  pub bytes : SomeBytes l n

-- ---- the reference text

-- where an anchor closes that has a Comma at n. "After the Comma a whole line must end in two CloseBrackets": at its last token but one. "Inline, the first
-- CloseBracket must be followed by another, with no escape": at p, where no CloseBracket stands between the Comma and p
abbrev pub Closing : (is_entire_line : Bool) → (kinds : List ℕ) → (n p : ℕ) → Type 0
Closing true kinds n p = p + 2 ≡ length kinds
Closing false kinds n p = (q : ℕ) → n < q → q < p → kind_at kinds q ≡ close_bracket → ⊥

-- the two CloseBrackets that close it stand at p
pub record Closes (is_entire_line : Bool) (kinds : List ℕ) (n p : ℕ) : Type 0 where
  pub after : n < p
  pub bracket : kind_at kinds p ≡ close_bracket
  pub another : kind_at kinds (p + 1) ≡ close_bracket
  pub closing : Closing is_entire_line kinds n p

-- ---- these numbers are those of an anchor of the line

-- "At CloseBracket up to two tokens are dropped, itself first, then one of any kind": an id alone
pub record IdAlone (l : Line) (a : Numbers) : Type 0 where
  pub n : ℕ
  pub id : IsId l n
  pub bracket : kind_at l.kinds n ≡ close_bracket
  pub numbers : a ≡ found (run 0 n) empty_run (min (n + 2) (length l.kinds)) false

-- an id, a Comma, and as reference text all that stands between the Comma and the two brackets, if anything does
pub record WithText (is_entire_line : Bool) (l : Line) (a : Numbers) : Type 0 where
  pub n : ℕ
  pub p : ℕ
  pub id : IsId l n
  pub comma : kind_at l.kinds n ≡ comma
  pub closes : Closes is_entire_line l.kinds n p
  pub numbers : a ≡ found (run 0 n) (text_run (n + 1) (p - (n + 1))) (p + 2) (counts_as_discard (drop (n + 1) l.kinds) (p - (n + 1)))

abbrev pub Anchored : (is_entire_line : Bool) → Line → Numbers → Type 0
Anchored is_entire_line l a = IdAlone l a ⊎ WithText is_entire_line l a

-- ---- "12 follows for any other line that runs out, does not close as said, or has an id of no bytes"

-- it has neither Comma nor CloseBracket
abbrev pub RunsOut : Line → Type 0
RunsOut l = (q : ℕ) → q < length l.kinds → ends_id (kind_at l.kinds q) ≡ false

pub record NoBytes (l : Line) : Type 0 where
  pub n : ℕ
  pub stands : IdEnds l.kinds n
  pub none : SomeBytes l n → ⊥

-- a Comma stands after the id, and at no place the two brackets
pub record NotClosed (is_entire_line : Bool) (l : Line) : Type 0 where
  pub n : ℕ
  pub id : IsId l n
  pub comma : kind_at l.kinds n ≡ comma
  pub nowhere : (p : ℕ) → Closes is_entire_line l.kinds n p → ⊥

-- checks 1 to 6 let the line through, its first token may begin an anchor, and one of the three is so
pub record Malformed (is_entire_line : Bool) (l : Line) : Type 0 where
  pub checked : refusal most_tokens l ≡ 0
  pub begins : begins_none (kind_at l.kinds 0) ≡ false
  pub fault : RunsOut l ⊎ NoBytes l ⊎ NotClosed is_entire_line l

-- ---- what a caller asks that follows the runs: they stand in the line, which has so many tokens

-- the id has a token and begins the line, the text stands behind it, both are consumed, and no more is consumed than there is
pub record Within (tokens : ℕ) (a : Numbers) : Type 0 where
  pub id_first : a.id_place ≡ 0
  pub id_some : 0 < a.id_count
  pub id_within : a.id_count < a.consumed
  pub text_after : 0 < a.text_count → a.id_count < a.text_place
  pub text_within : a.text_place + a.text_count ≤ a.consumed
  pub consumed : a.consumed ≤ tokens
