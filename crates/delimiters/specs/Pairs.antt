-- Pairs of quotes, by the places of the quotes alone: nothing here knows of stretches.
use Rattle.std.specs.Prelude.{ℕ, zero, suc, ◌+◌, ◌*◌, ◌<◌, cond, ◌≡◌, List, ◌⊎◌, eqb}
use Rattle.token.specs.Kind.{kind_at}
use Rattle.delimiters.specs.Count.{counted, Quote, double, single, quote_kind}

-- how many quotes of the kind stand before place p
unfoldable pub before : Quote → List ℕ → ℕ → ℕ
before q kinds zero = 0
before q kinds (suc p) = cond (eqb (kind_at kinds p) (quote_kind q)) (suc (before q kinds p)) (before q kinds p)

-- x stands after a and before b
pub record Between (a b x : ℕ) : Type 0 where
  pub after_first : a < x
  pub before_second : x < b

-- exactly one of c and d stands between a and b
abbrev pub OneBetween : ℕ → ℕ → ℕ → ℕ → Type 0
OneBetween a b c d = (Between a b c × (Between a b d → ⊥)) ⊎ ((Between a b c → ⊥) × Between a b d)

-- "Two pairs cross when exactly one quote of one stands between the quotes of the other": the pairs a, b and c, d.
abbrev pub Cross : ℕ → ℕ → ℕ → ℕ → Type 0
Cross a b c d = OneBetween a b c d ⊎ OneBetween c d a b

module _ (kinds : List ℕ) where
  -- a counted quote of the kind stands at p, and j of the kind stand before it
  pub record Nth (q : Quote) (j p : ℕ) : Type 0 where
    pub in_count : p < counted kinds
    pub holds : kind_at kinds p ≡ quote_kind q
    pub number : before q kinds p ≡ j

  -- "Complete pairs are made among the tokens counted; an odd last quote makes none": first with second, third with fourth.
  pub record Pair (q : Quote) (a b : ℕ) : Type 0 where
    pub half : ℕ
    pub opens : Nth q (2 * half) a
    pub closes : Nth q (2 * half + 1) b

  -- "Inside a pair is after its first quote and before its second."
  pub record Inside (q : Quote) (p : ℕ) : Type 0 where
    pub first : ℕ
    pub second : ℕ
    pub pair : Pair q first second
    pub between : Between first second p

  -- no single-quote pair crosses a double-quote pair
  abbrev pub Uncrossed : Type 0
  Uncrossed = (a b c d : ℕ) → Pair single a b → Pair double c d → Cross a b c d → ⊥
