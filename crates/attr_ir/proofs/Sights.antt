-- What one token decides, by its kind, and the loop that looks from the left.
use Prim.Native.Nat.{ℕ, ◌+◌, ◌*◌, ◌≤◌, ◌<◌}
use native.Mathlib.Omega.{arith}
use mathlib.Core.Bool.{Bool, true, false, cond, not, ◌&&◌, ◌||◌, and-false}
use mathlib.Core.Path.{◌≡◌, refl, sym, ap, ◌∙◌}
use mathlib.Core.List.{List, [], ◌∷◌}
use lib.Dec.{eqb}
use lib.ListN.{length, get_or}
use borrow.Author.Tests.{ne_eqb}
use Rattle.attr_ir.specs.declared.Reading.{Reading}
use Rattle.attr_ir.specs.declared.Reading.TheVariants.{Shorthand, Positional, Named}
use Rattle.std.specs.declared.ops.ControlFlow.TheVariants.{Break, Continue}
use Rattle.std.specs.Cmp.Lexicographic.{pointwise}
use Rattle.token.specs.Kind.{attr_ref, dots, hash, percent, equal_signs, whitespace, single_quote}
use Rattle.token.specs.Line.{Line, Token, line_of, token_at}
use Rattle.token.specs.Lent.{Lent}
use Rattle.runs.specs.Run.{kept, of_one, is_double_quote, is_single_quote}
use Rattle.runs.specs.Names.{same_bytes}
use Rattle.runs.proofs.NamesLaws.{one-is}
use Rattle.runs.proofs.KeptLaws.{kind-is, is-kind, not-kind, kept-none, kept-first, kept-skip}
use Rattle.runs.specs.Places.{all, StartsAt}
use Rattle.attr_ir.specs.Look.{Sight, is_symbol, equals_sign, next_equals, symbol_sight, sight, decided, look}

-- what stands after a place, where the next kept token is at `next`
module _ (kinds : List ℕ) (from to next : ℕ) (w : StartsAt all kinds from to next) (text pairs : List ℕ) where
  pub after-some : next < to → kept (line_of kinds text pairs) from to ≡ token_at (line_of kinds text pairs) next ∷ kept (line_of kinds text pairs) (next + 1) to
  after-some h = sym (w.part.same text pairs) ∙ kept-first (line_of kinds text pairs) next to h (w.first h)

  pub after_none : to ≤ next → kept (line_of kinds text pairs) from to ≡ []
  after_none h = sym (w.part.same text pairs) ∙ kept-none (line_of kinds text pairs) next to h

-- ---- `=`

pub same-pointwise : (xs ys : List ℕ) → pointwise eqb xs ys ≡ same_bytes xs ys
unfolding same_bytes
same-pointwise [] [] = refl
same-pointwise [] (y ∷ ys) = refl
same-pointwise (x ∷ xs) [] = refl
same-pointwise (x ∷ xs) (y ∷ ys) = ap (λ (b : Bool). eqb x y && b) (same-pointwise xs ys)

pub equals-not-kind : (l : Line) (p : ℕ) → (get_or l.kinds p 0 ≡ equal_signs → ⊥) → eqb (get_or l.kinds p 0) equal_signs ≡ equals_sign (token_at l p)
equals-not-kind l p e = ne_eqb _ equal_signs e ∙ sym (rw (not-kind l p equal_signs e))

pub equals-bytes : (l : Line) (p : ℕ) → get_or l.kinds p 0 ≡ equal_signs → (xs ys : List ℕ) → xs ≡ (token_at l p).lexeme → ys ≡ 61 ∷ [] → pointwise eqb xs ys ≡ equals_sign (token_at l p)
equals-bytes l p e xs ys f g = same-pointwise xs ys ∙ rw (f, g) (sym (ap (λ (b : Bool). b && same_bytes (token_at l p).lexeme (61 ∷ [])) (is-kind l p equal_signs e)))

module _ (kinds text pairs : List ℕ) (w : Lent kinds text pairs) (p : ℕ) (lt : p < length kinds) where
  pub symbol-of : (b : Bool) → b ≡ (eqb (get_or kinds p 0) dots || eqb (get_or kinds p 0) hash || eqb (get_or kinds p 0) percent) → (b && eqb (get_or pairs (2 * p + 1) 0) 1) ≡ (is_symbol (token_at (line_of kinds text pairs) p) && of_one (token_at (line_of kinds text pairs) p))
  symbol-of b e =
      let l = line_of kinds text pairs in
      rw (one-is kinds text pairs w p lt, kind-is l p dots, kind-is l p hash, kind-is l p percent, e)

-- ---- what the kept tokens from..to begin with, of which the first is at `next`

module _ (l : Line) (from to next : ℕ) (w : StartsAt all l.kinds from to next) where
  pub next-none : to ≤ next → false ≡ next_equals (kept l from to)
  next-none h = ap next_equals (sym (after_none l.kinds from to next w l.text l.pairs h))

  pub next-some : next < to → equals_sign (token_at l next) ≡ next_equals (kept l from to)
  next-some h = ap next_equals (sym (after-some l.kinds from to next w l.text l.pairs h))

module _ (kinds : List ℕ) (from to next : ℕ) (w : StartsAt all kinds from to next) (short : Bool) (text pairs : List ℕ) where
  pub symbol-none : to ≤ next → Continue true ≡ symbol_sight short (kept (line_of kinds text pairs) from to)
  unfolding symbol_sight
  symbol-none h = sym (rw (after_none kinds from to next w text pairs h, and-false short))

  pub symbol-short : next < to → short ≡ true → Break Shorthand ≡ symbol_sight short (kept (line_of kinds text pairs) from to)
  unfolding symbol_sight
  symbol-short h e = sym (rw (after-some kinds from to next w text pairs h, e))

  pub symbol-note : next < to → short ≡ false → Continue (not (eqb (get_or kinds next 0) whitespace)) ≡ symbol_sight short (kept (line_of kinds text pairs) from to)
  unfolding symbol_sight
  symbol-note h e = sym (rw (after-some kinds from to next w text pairs h, e) (ap (λ (b : Bool). Continue (not b)) (kind-is (line_of kinds text pairs) next whitespace)))

-- ---- any token

module _ (block first noted : Bool) (t : Token) (ts : List Token) where
  pub sight-symbol : (is_symbol t && of_one t) ≡ true → sight block first noted t ts ≡ symbol_sight (block && first) ts
  unfolding sight
  sight-symbol e = rw e

  pub sight-quote : (is_symbol t && of_one t) ≡ false → (is_double_quote t || is_single_quote t) ≡ true → Break (Positional noted) ≡ sight block first noted t ts
  unfolding sight
  sight-quote e f = sym (rw (e, f))

  pub sight-quote' : t.kind ≡ single_quote → sight block first noted t ts ≡ Break (Positional noted)
  unfolding sight
  sight-quote' e = rw e

  pub sight-space : t.kind ≡ whitespace → sight block first noted t ts ≡ cond (next_equals ts) (Continue noted) (Break (Positional noted))
  unfolding sight
  sight-space e = rw e

  pub sight-equals : t.kind ≡ equal_signs → sight block first noted t ts ≡ cond first (Break (Positional noted)) (cond (of_one t) (Break Named) (Continue noted))
  unfolding sight
  sight-equals e = rw e

  pub sight-other : (is_symbol t && of_one t) ≡ false → (is_double_quote t || is_single_quote t) ≡ false → (t.kind ≡ whitespace → ⊥) → (t.kind ≡ equal_signs → ⊥) → Continue noted ≡ sight block first noted t ts
  unfolding sight
  sight-other e f c d = sym (rw (e, f, ne_eqb t.kind whitespace c, ne_eqb t.kind equal_signs d))

  pub by-symbol : (r : Sight) (short flag : Bool) → r ≡ symbol_sight short ts → short ≡ (block && first) → flag ≡ (is_symbol t && of_one t) → flag ≡ true → r ≡ sight block first noted t ts
  by-symbol r short flag a b c d = a ∙ ap (λ (x : Bool). symbol_sight x ts) b ∙ sym (sight-symbol (sym c ∙ d))

  module _ (e : t.kind ≡ whitespace) (flag : Bool) (g : flag ≡ next_equals ts) where
    pub space-equals : flag ≡ true → Continue noted ≡ sight block first noted t ts
    space-equals h = sym (sight-space e ∙ rw (← g, h))

    pub space-other : flag ≡ false → Break (Positional noted) ≡ sight block first noted t ts
    space-other h = sym (sight-space e ∙ rw (← g, h))

  module _ (e : t.kind ≡ equal_signs) where
    pub equals-first : first ≡ true → Break (Positional noted) ≡ sight block first noted t ts
    equals-first f = sym (sight-equals e ∙ rw f)

    pub equals-one : first ≡ false → of_one t ≡ true → Break Named ≡ sight block first noted t ts
    equals-one f g = sym (sight-equals e ∙ rw (f, g))

    pub equals-more : first ≡ false → of_one t ≡ false → Continue noted ≡ sight block first noted t ts
    equals-more f g = sym (sight-equals e ∙ rw (f, g))

-- ---- the loop: what is left of from..to at i is read as the whole is

pub record Looking (kinds text pairs : List ℕ) (from to : ℕ) (block first noted : Bool) (i : ℕ) : Type 0 where
  pub low : from ≤ i
  pub high : i ≤ to
  pub same : look block first noted (kept (line_of kinds text pairs) i to) ≡ look block true false (kept (line_of kinds text pairs) from to)

module _ (kinds text pairs : List ℕ) (from to : ℕ) (block : Bool) where
  pub looking-start : from ≤ to → Looking kinds text pairs from to block true false from
  looking-start h = record { low = omega arith; high = h; same = refl }

  module _ (first noted : Bool) (i : ℕ) (w : Looking kinds text pairs from to block first noted i) where
    pub looking-skip : i < to → get_or kinds i 0 ≡ attr_ref → Looking kinds text pairs from to block first noted (i + 1)
    looking-skip h e =
        record { low = omega (arith, w.low); high = omega arith; same = ap (look block first noted) (sym (kept-skip (line_of kinds text pairs) i to h e)) ∙ w.same }

    module _ (h : i < to) (e : get_or kinds i 0 ≡ attr_ref → ⊥) where
      at-token : look block first noted (kept (line_of kinds text pairs) i to) ≡ decided (sight block first noted (token_at (line_of kinds text pairs) i) (kept (line_of kinds text pairs) (i + 1) to)) (λ n. look block false n (kept (line_of kinds text pairs) (i + 1) to))
      unfolding look
      at-token = rw (kept-first (line_of kinds text pairs) i to h e)

      -- the same where the next token kept is at place `next`
      module _ (next : ℕ) (v : StartsAt all kinds (i + 1) to next) where
        at_next : look block first noted (kept (line_of kinds text pairs) i to) ≡ decided (sight block first noted (token_at (line_of kinds text pairs) i) (kept (line_of kinds text pairs) next to)) (λ n. look block false n (kept (line_of kinds text pairs) next to))
        at_next = at-token ∙ ap (λ (ts : List Token). decided (sight block first noted (token_at (line_of kinds text pairs) i) ts) (λ n. look block false n ts)) (sym (v.part.same text pairs))

      pub looking-on : (n : Bool) → Continue n ≡ sight block first noted (token_at (line_of kinds text pairs) i) (kept (line_of kinds text pairs) (i + 1) to) → Looking kinds text pairs from to block false n (i + 1)
      looking-on n f =
          record {
            low = omega (arith, w.low);
            high = omega arith;
            same = ap (λ (s : Sight). decided s (λ n. look block false n (kept (line_of kinds text pairs) (i + 1) to))) f ∙ sym at-token ∙ w.same;
          }

      pub looking-is : (r : Reading) → Break r ≡ sight block first noted (token_at (line_of kinds text pairs) i) (kept (line_of kinds text pairs) (i + 1) to) → r ≡ look block true false (kept (line_of kinds text pairs) from to)
      looking-is r f = ap (λ (s : Sight). decided s (λ n. look block false n (kept (line_of kinds text pairs) (i + 1) to))) f ∙ sym at-token ∙ w.same

    pub looking-end : to ≤ i → Positional noted ≡ look block true false (kept (line_of kinds text pairs) from to)
    unfolding look
    looking-end h = sym (ap (look block first noted) (kept-none (line_of kinds text pairs) i to h)) ∙ w.same
