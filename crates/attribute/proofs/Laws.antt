-- Laws of the reading of one attribute: the tail of a cut goes back through the whole reading, without a bound; a cut finds its symbol; and how many
-- rows there are at most.
use Rattle.std.proofs.Math.Nat.{suc-ne-zero}
use Rattle.std.specs.Prelude.{ℕ, zero, suc, ◌+◌, ◌≤◌, ◌<◌, Bool, cond, ◌&&◌, ◌≡◌}
use Rattle.std.proofs.Common.{arith, sym, subst, ◌∙◌}
use Rattle.std.proofs.Math.Bool.{true, false, not}
use Rattle.std.proofs.Math.Path.{refl, ap}
use mathlib.Core.List.{List, [], ◌∷◌}
use Rattle.std.proofs.Math.ListN.{length}
use Rattle.token.specs.declared.quotes.QuoteMark.{QuoteMark}
use Rattle.token.specs.declared.quotes.QuoteMark.TheVariants as mark
use Rattle.token.specs.Line.{Token}
use Rattle.runs.specs.Run.{is_comma, is_whitespace, is_equals, of_one, up_to, onward, trim, quote_mark, quoted, inside, front, unquote}
use Rattle.runs.proofs.KeptLaws.{onward-later, unquote-plain}
use Rattle.row.specs.Row.{positional}
use Rattle.attr_ir.specs.declared.Reading.{Reading}
use Rattle.attr_ir.specs.declared.Reading.TheVariants.{Shorthand, Positional, Named}
use Rattle.std.specs.declared.ops.ControlFlow.TheVariants.{Break, Continue}
use Rattle.attr_ir.specs.declared.Name.{Name}
use Rattle.attr_ir.specs.declared.Name.TheVariants as asks
use Rattle.attr_ir.specs.Look.{is_symbol, is_quote, next_equals, symbol_sight, sight, decided, look}
use Rattle.attr_ir.specs.Ir.{shorthand, name_tokens, less_first, less_space, value, value_mark, after_equals, value_tokens, name_of, named_ir, key_value_ir, ir_as, attr_ir}
use Rattle.attr_ir.specs.Ir as is
use Rattle.put_rows.specs.Rows.{Read, row_first, pieces}
use Rattle.put_rows.proofs.RowsLaws.{cut-length, trim-length, onward-length, group-few, pieces-few, shorthand-few, id-few}
use Rattle.attribute.specs.Attribute.{cut_read, ir_read, reading, attribute_in, attribute}
use Rattle.attribute.specs.Outcome.{or_one}

-- ---- how many tokens are left

front_length : (u : Token) (us : List Token) → length (front u us) ≤ length us
unfolding front
front_length u [] = omega arith
front_length u (v ∷ vs) = omega (arith, front_length v vs)

-- ---- two readings of tails that agree on each list shorter than ts give ts the same rows

quoted-shorter : (ts : List Token) → length (unquote ts) ≤ length ts
unfolding unquote quoted quote_mark inside
quoted-shorter [] = omega arith
quoted-shorter (t ∷ []) = omega arith
quoted-shorter (t ∷ u ∷ us) = go (quoted (t ∷ u ∷ us)) (front_length u us)
  where
    go : (b : Bool) → length (front u us) ≤ length us → length (cond b (front u us) (t ∷ u ∷ us)) ≤ length (t ∷ u ∷ us)
    go true h = omega (arith, h)
    go false h = omega arith

module _ (f g : List Token → Read) (has : Bool) (n : ℕ) (same : (tail : List Token) → length tail < n → f tail ≡ g tail) where
  cut-same : (before tail : List Token) → length before + length tail ≤ n → cut_read f has before tail ≡ cut_read g has before tail
  unfolding cut_read
  cut-same [] [] e = refl
  cut-same [] (t ∷ us) e = refl
  cut-same (t ∷ us) tail e = ap (row_first (positional _ mark.None)) (same tail (omega (arith, e)))

  positional-same : (ts : List Token) (m : QuoteMark) (cut : Bool) → length ts ≤ n → ir_read f has (is.positional ts m cut) ≡ ir_read g has (is.positional ts m cut)
  unfolding ir_read
  positional-same ts m cut h = rw (cut-same (up_to is_symbol ts) (onward is_symbol ts) (omega (arith, cut-length is_symbol ts)))

  named-same : (a : Name) (name value : List Token) (m : QuoteMark) → ir_read f has (named_ir a name value m) ≡ ir_read g has (named_ir a name value m)
  unfolding ir_read named_ir
  named-same asks.Options name value m = refl
  named-same asks.Role name value m = refl
  named-same asks.Id name value m = refl
  named-same asks.Plain name value m = refl
  named-same asks.Other name value m = refl

  shorthand-same : (ts : List Token) → ir_read f has (shorthand ts) ≡ ir_read g has (shorthand ts)
  unfolding ir_read
  shorthand-same ts = refl

  as_same : (block : Bool) (ts : List Token) → length ts ≤ n → (r : Reading) → ir_read f has (ir_as block ts r) ≡ ir_read g has (ir_as block ts r)
  unfolding ir_as key_value_ir
  as_same block ts h Shorthand = shorthand-same ts
  as_same block ts h (Positional noted) = positional-same (unquote ts) (quote_mark ts) (noted && block && not (quoted ts)) (omega (arith, quoted-shorter ts))
  as_same block ts h Named = named-same (name_of (Rattle.runs.specs.Names.bytes (name_tokens ts))) (name_tokens ts) (value_tokens ts) (value_mark (after_equals ts))

reading-same : (f g : List Token → Read) (block has : Bool) (ts : List Token) → ((tail : List Token) → length tail < length ts → f tail ≡ g tail) → reading f block has ts ≡ reading g block has ts
unfolding reading attr_ir
reading-same f g block has [] same = refl
reading-same f g block has (t ∷ ts) same = as_same f g has (length (t ∷ ts)) same block (t ∷ ts) (omega arith) (look block true false (t ∷ ts))

enough : (n m : ℕ) (block has : Bool) (ts : List Token) → length ts < n → length ts < m → attribute_in n block has ts ≡ attribute_in m block has ts
unfolding attribute_in
enough zero m block has ts a b = absurd (omega arith)
enough (suc n) zero block has ts a b = absurd (omega arith)
enough (suc n) (suc m) block has ts a b =
    reading-same (λ tail. attribute_in n block has tail) (λ tail. attribute_in m block has tail) block has (trim ts)
    (λ tail h. enough n m block has tail (omega (arith, trim-length ts)) (omega (arith, trim-length ts)))

-- the reading of an attribute, with the reading of an attribute for the tail of a cut
pub again : (block has : Bool) (ts : List Token) → attribute block has ts ≡ reading (attribute block has) block has (trim ts)
unfolding attribute attribute_in
again block has ts =
    reading-same (λ tail. attribute_in (length ts) block has tail) (λ tail. attribute_in (suc (length tail)) block has tail) block has (trim ts)
    (λ tail h. enough (length ts) (suc (length tail)) block has tail (omega (arith, trim-length ts)) (omega arith))

-- ---- a note of yes has a symbol: so a cut always finds its token, and the last two cases of `cut_read` with no tail are never read

plain-token : (block first noted n : Bool) (t : Token) (ts : List Token) (k : Bool → Reading) → is_symbol t ≡ false → ((m : Bool) → k m ≡ Positional n → n ≡ m) → decided (sight block first noted t ts) k ≡ Positional n → n ≡ noted
unfolding sight
plain-token block first noted n t ts k e h f =
    go (is_quote t) (is_whitespace t) (next_equals ts) (is_equals t) first (of_one t) (subst (λ (b : Bool). decided (cond (b && of_one t) (symbol_sight (block && first) ts)
    (cond (is_quote t) (Break (Positional noted)) (cond (is_whitespace t) (cond (next_equals ts) (Continue noted) (Break (Positional noted))) (cond (is_equals t) (cond first (Break (Positional noted)) (cond (of_one t) (Break Named) (Continue noted))) (Continue noted))))) k ≡ Positional n) e f)
  where
    same : Positional noted ≡ Positional n → n ≡ noted
    same e = cc

    never : {A : Type 0} → Named ≡ Positional n → A
    never e = absurd (suc-ne-zero 0 cc)

    go : (q w x z g o : Bool) → decided (cond q (Break (Positional noted)) (cond w (cond x (Continue noted) (Break (Positional noted))) (cond z (cond g (Break (Positional noted)) (cond o (Break Named) (Continue noted))) (Continue noted)))) k ≡ Positional n → n ≡ noted
    go true w x z g o f = same f
    go false true true z g o f = h noted f
    go false true false z g o f = same f
    go false false x true true o f = same f
    go false false x true false true f = never f
    go false false x true false false f = h noted f
    go false false x false g o f = h noted f

pub no_symbol : (block first noted n : Bool) (ts : List Token) → onward is_symbol ts ≡ [] → look block first noted ts ≡ Positional n → n ≡ noted
unfolding look
no_symbol block first noted n [] e f = cc
no_symbol block first noted n (t ∷ ts) e f =
    plain-token block first noted n t ts (λ m. look block false m ts) (onward-later is_symbol t ts e).0 (λ m g. no_symbol block false m n ts (onward-later is_symbol t ts e).1 g) f

-- where the note is yes there is a symbol
pub noted-symbol : (block : Bool) (ts : List Token) → look block true false ts ≡ Positional true → onward is_symbol ts ≡ [] → ⊥
noted-symbol block ts f e =
    let g : true ≡ false = no_symbol block true false true ts e f in
    suc-ne-zero 0 cc

-- a positional that is cut has the tokens it was made of, and stands in the block entry
pub cut-tokens : (block : Bool) (ts us : List Token) (m : QuoteMark) → attr_ir block ts ≡ is.positional us m true → (us ≡ ts) × ((look block true false ts ≡ Positional true) × (block ≡ true))
unfolding attr_ir ir_as key_value_ir named_ir
cut-tokens block ts us m e = go (look block true false ts) refl e
  where
    flags : (n b q : Bool) → (n && b && not q) ≡ true → (n ≡ true) × ((b ≡ true) × (q ≡ false))
    flags true true true e = absurd (suc-ne-zero 0 cc)
    flags true true false e = (refl, (refl, refl))
    flags true false q e = absurd (suc-ne-zero 0 cc)
    flags false b q e = absurd (suc-ne-zero 0 cc)

    name : (a : Name) (n v : List Token) (k : QuoteMark) → named_ir a n v k ≡ is.positional us m true → (us ≡ ts) × ((look block true false ts ≡ Positional true) × (block ≡ true))
    name asks.Options n v k e = absurd (suc-ne-zero 0 cc)
    name asks.Role n v k e = absurd (suc-ne-zero 0 cc)
    name asks.Id n v k e = absurd (suc-ne-zero 0 cc)
    name asks.Plain n v k e = absurd (suc-ne-zero 0 cc)
    name asks.Other n v k e = absurd (suc-ne-zero 0 cc)

    go : (r : Reading) → look block true false ts ≡ r → ir_as block ts r ≡ is.positional us m true → (us ≡ ts) × ((look block true false ts ≡ Positional true) × (block ≡ true))
    go Shorthand f e = absurd (suc-ne-zero 0 cc)
    go (Positional n) f e =
        let same : unquote ts ≡ us = cc in
        let cut : (n && block && not (quoted ts)) ≡ true = cc in
        let w = flags n block (quoted ts) cut in
        (sym same ∙ unquote-plain ts w.1.1, (f ∙ ap Positional w.0, w.1.0))
    go Named f e = name (name_of (Rattle.runs.specs.Names.bytes (name_tokens ts))) (name_tokens ts) (value_tokens ts) (value_mark (after_equals ts)) e

-- so a cut always finds its symbol, and the cases of `cut_read` with no tail are never read
pub cut-has-symbol : (block : Bool) (ts us : List Token) (m : QuoteMark) → attr_ir block ts ≡ is.positional us m true → onward is_symbol us ≡ [] → ⊥
cut-has-symbol block ts us m e f =
    let w = cut-tokens block ts us m e in
    noted-symbol block ts w.1.0 (ap (onward is_symbol) (sym w.0) ∙ f)

pub ir-as : (block : Bool) (ts : List Token) (r : Reading) → look block true false ts ≡ r → attr_ir block ts ≡ ir_as block ts r
unfolding attr_ir
ir-as block ts r e = ap (ir_as block ts) e

-- ---- "an attribute of n tokens gives at most max(1, n) rows": why a row for each token is room enough

or-one : (n : ℕ) → (n ≤ or_one n) × (1 ≤ or_one n)
or-one zero = (omega arith, omega arith)
or-one (suc n) = (omega arith, omega arith)

or-one-more : (m n : ℕ) → m ≤ n → or_one m ≤ or_one n
or-one-more zero n h = (or-one n).1
or-one-more (suc m) n h = omega (arith, (or-one n).0)

less-first-few : (ts : List Token) → length (less_first ts) ≤ length ts
less-first-few [] = omega arith
less-first-few (t ∷ ts) = omega arith

less-space-few : (ts : List Token) → length (less_space ts) ≤ length ts
less-space-few [] = omega arith
less-space-few (t ∷ ts) = go (is_whitespace t)
  where
    go : (b : Bool) → length (cond b ts (t ∷ ts)) ≤ length (t ∷ ts)
    go true = omega arith
    go false = omega arith

value-few : (ts : List Token) → length (value_tokens ts) ≤ length ts
unfolding value_tokens value
value-few ts =
    omega (arith, onward-length is_equals ts, less-first-few (onward is_equals ts), less-space-few (less_first (onward is_equals ts)), quoted-shorter (less_space (less_first (onward is_equals ts))))

module _ (f : List Token → Read) (few : (tail : List Token) → length (f tail).rows ≤ or_one (length tail)) (has : Bool) where
  cut-few : (before tail : List Token) → (tail ≡ [] → ⊥) → length (cut_read f has before tail).rows ≤ or_one (length before + length tail)
  unfolding cut_read
  cut-few [] [] none = absurd (none refl)
  cut-few [] (t ∷ ts) none = (or-one (length {A = Token} [] + length (t ∷ ts))).1
  cut-few (t ∷ ts) [] none = absurd (none refl)
  cut-few (t ∷ ts) (u ∷ us) none = omega (arith, few (u ∷ us), (or-one (length (t ∷ ts) + length (u ∷ us))).0)

  named-few : (a : Name) (name value : List Token) (m : QuoteMark) (n : ℕ) → length value ≤ n → length (ir_read f has (named_ir a name value m)).rows ≤ or_one n
  unfolding ir_read named_ir
  named-few asks.Options name value m n h = omega (arith, group-few Rattle.row.specs.Row.option is_comma value, h, (or-one n).0)
  named-few asks.Role name value m n h = omega (arith, group-few Rattle.row.specs.Row.role is_whitespace value, h, (or-one n).0)
  named-few asks.Id name value m n h = omega (arith, id-few has value m, (or-one n).1)
  named-few asks.Plain name value m n h = (or-one n).1
  named-few asks.Other name value m n h = (or-one n).1

  positional-few : (us : List Token) (m : QuoteMark) (cut : Bool) (n : ℕ) → length us ≤ n → (cut ≡ true → onward is_symbol us ≡ [] → ⊥) → length (ir_read f has (is.positional us m cut)).rows ≤ or_one n
  unfolding ir_read
  positional-few us m true n h none =
      let e : or_one (length (up_to is_symbol us) + length (onward is_symbol us)) ≤ or_one n = or-one-more (length (up_to is_symbol us) + length (onward is_symbol us)) n (omega (arith, cut-length is_symbol us)) in
      omega (arith, cut-few (up_to is_symbol us) (onward is_symbol us) (none refl), e)
  positional-few us m false n h none = (or-one n).1

  as-few : (block : Bool) (ts : List Token) (r : Reading) → look block true false ts ≡ r → length (ir_read f has (ir_as block ts r)).rows ≤ or_one (length ts)
  unfolding ir_read ir_as key_value_ir
  as-few block ts Shorthand e = omega (arith, shorthand-few has (pieces ts), pieces-few ts, (or-one (length ts)).0)
  as-few block ts (Positional n) e =
      positional-few (unquote ts) (quote_mark ts) (n && block && not (quoted ts)) (length ts) (quoted-shorter ts)
      (λ c g. cut-has-symbol block ts (unquote ts) (quote_mark ts) (ir-as block ts (Positional n) e ∙ ap (is.positional (unquote ts) (quote_mark ts)) c) g)
  as-few block ts Named e = named-few (name_of (Rattle.runs.specs.Names.bytes (name_tokens ts))) (name_tokens ts) (value_tokens ts) (value_mark (after_equals ts)) (length ts) (value-few ts)

reading-few : (f : List Token → Read) → ((tail : List Token) → length (f tail).rows ≤ or_one (length tail)) → (block has : Bool) (ts : List Token) → length (reading f block has ts).rows ≤ or_one (length ts)
unfolding reading attr_ir
reading-few f few block has [] = omega arith
reading-few f few block has (t ∷ ts) = as-few f few has block (t ∷ ts) (look block true false (t ∷ ts)) refl

in-few : (most : ℕ) (block has : Bool) (ts : List Token) → length (attribute_in most block has ts).rows ≤ or_one (length ts)
unfolding attribute_in
in-few zero block has ts = omega arith
in-few (suc most) block has ts =
    let e : or_one (length (trim ts)) ≤ or_one (length ts) = or-one-more (length (trim ts)) (length ts) (trim-length ts) in
    omega (arith, e, reading-few (λ tail. attribute_in most block has tail) (λ tail. in-few most block has tail) block has (trim ts))

pub rows_few : (block has : Bool) (ts : List Token) → length (attribute block has ts).rows ≤ or_one (length ts)
unfolding attribute
rows_few block has ts = in-few (suc (length ts)) block has ts
