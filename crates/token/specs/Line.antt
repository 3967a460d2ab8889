-- The line as it is lent, its tokens, and the checks of it (document 01, "The line, the rows, the set", "Where a call is turned away").
use Rattle.std.specs.Prelude.{ℕ, zero, suc, ◌+◌, ◌*◌, ◌≤◌, ◌<◌, Bool, true, false, not, ◌||◌, List, [], ◌∷◌, eqb, ltb, length, get_or, take, drop}
use Rattle.refusals.specs.Refusals.{no_tokens, too_many_tokens, text_too_long, pairs_not_two, kind_too_large, pairs_not_in_order}
use Rattle.token.specs.declared.Run.{Run}
use Rattle.token.specs.Kind.{largest}

-- "A line is lent as kinds, text bytes, and pairs of byte offset and length, one per token"
pub record Line : Type 0 where
  pub kinds : List ℕ
  pub text : List ℕ
  pub pairs : List ℕ

abbrev pub line_of : (kinds text pairs : List ℕ) → Line
line_of kinds text pairs = record { kinds = kinds; text = text; pairs = pairs }

-- ---- tokens

-- the byte offset and the length of the token at a place, where it ends, and its lexeme, the bytes between
abbrev pub offset_in : (pairs : List ℕ) → ℕ → ℕ
offset_in pairs p = get_or pairs (2 * p) 0

abbrev pub length_in : (pairs : List ℕ) → ℕ → ℕ
length_in pairs p = get_or pairs (2 * p + 1) 0

abbrev pub end_in : (pairs : List ℕ) → ℕ → ℕ
end_in pairs p = offset_in pairs p + length_in pairs p

abbrev pub lexeme_in : (text pairs : List ℕ) → ℕ → List ℕ
lexeme_in text pairs p = take (length_in pairs p) (drop (offset_in pairs p) text)

abbrev pub lexeme_at : Line → ℕ → List ℕ
lexeme_at l p = lexeme_in l.text l.pairs p

pub record Token : Type 0 where
  pub place : ℕ
  pub kind : ℕ
  pub lexeme : List ℕ

-- the token at a place
unfoldable pub token_at : Line → ℕ → Token
token_at l p = record { place = p; kind = get_or l.kinds p 0; lexeme = lexeme_at l p }

-- the n tokens from a place on
unfoldable pub tokens : Line → ℕ → ℕ → List Token
tokens l p zero = []
tokens l p (suc n) = token_at l p ∷ tokens l (suc p) n

-- ---- the checks

-- "At most 4,096 tokens and 65,535 bytes"
abbrev pub most_tokens : ℕ
most_tokens = 4096

abbrev pub most_bytes : ℕ
most_bytes = 65535

abbrev pub limits : List ℕ
limits = most_tokens ∷ most_bytes ∷ []

-- 5: "some kind over 50"
unfoldable pub some_over : List ℕ → Bool
some_over [] = false
some_over (k ∷ ks) = ltb largest k || some_over ks

-- 6: "one starts before the previous ends, or ends past the text": `end` is where the previous one ends
unfoldable pub misplaced : (size end : ℕ) → List ℕ → Bool
misplaced size end [] = false
misplaced size end (o ∷ []) = false
misplaced size end (o ∷ n ∷ ps) = ltb o end || (ltb size (o + n) || misplaced size (o + n) ps)

-- 5 and 6 in words (laws `some-over`, `none_over`, `placed`, `placed-not`): some kind is over the largest
pub record Over (kinds : List ℕ) : Type 0 where
  pub place : ℕ
  pub among : place < length kinds
  pub over : largest < get_or kinds place 0

-- every token begins where the previous one ends or later, and ends within the text: `end` is where the one before them ends
pub record Placed (size end : ℕ) (pairs : List ℕ) : Type 0 where
  pub first : 1 < length pairs → end ≤ get_or pairs 0 0
  pub follows : (p : ℕ) → 2 * p + 3 < length pairs → get_or pairs (2 * p) 0 + get_or pairs (2 * p + 1) 0 ≤ get_or pairs (2 * p + 2) 0
  pub within : (p : ℕ) → 2 * p + 1 < length pairs → get_or pairs (2 * p) 0 + get_or pairs (2 * p + 1) 0 ≤ size

-- "Checks run downward; the first that applies is returned": `check t n rest` is n where t says that the check applies
abbrev pub check : Bool → ℕ → ℕ → ℕ
check true n rest = n
check false n rest = rest

-- the number with which a line of at most `most` tokens is refused, 0 where it is not
unfoldable pub refusal : (most : ℕ) → Line → ℕ
refusal most l =
    check (eqb (length l.kinds) 0) no_tokens
    (check (ltb most (length l.kinds)) too_many_tokens
    (check (ltb most_bytes (length l.text)) text_too_long
    (check (not (eqb (length l.pairs) (2 * length l.kinds))) pairs_not_two
    (check (some_over l.kinds) kind_too_large
    (check (misplaced (length l.text) 0 l.pairs) pairs_not_in_order 0)))))

-- ---- "A run is a place and a count", "An empty run is 0, 0"

abbrev pub run : (place count : ℕ) → Run
run p n = record { place = record { 0 = p }; count = n }

abbrev pub empty_run : Run
empty_run = run 0 0
