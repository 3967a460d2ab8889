-- The reading of an attribute by its runs, and the cut.
use Rattle.std.proofs.Math.Nat.{suc-ne-zero}
use Prim.Native.Nat.{ℕ, zero, suc, ◌+◌, ◌≤◌, ◌<◌}
use native.Mathlib.Omega.{arith}
use mathlib.Core.Bool.{Bool, true, false, cond, not, ◌&&◌, ◌||◌, and-false}
use mathlib.Core.Path.{◌≡◌, refl, sym, ap, subst, ◌∙◌}
use mathlib.Core.List.{List, [], ◌∷◌}
use lib.ListN.{length, get_or}
use Rattle.token.specs.declared.Run.{Run}
use Rattle.token.specs.declared.quotes.QuoteMark.{QuoteMark}
use Rattle.token.specs.declared.quotes.QuoteMark.TheVariants as mark
use Rattle.token.specs.declared.quotes.Unquoted.{Unquoted}
use Rattle.token.specs.Kind.{attr_ref}
use Rattle.token.specs.Line.{Line, Token, token_at}
use Rattle.runs.specs.Run.{kept, is_dots, is_hash, is_percent, is_whitespace, is_equals, of_one, up_to, onward, trim, run_of, in_run}
use Rattle.runs.specs.Places.{Ends, Part, FoundIn, FoundAt}
use Rattle.runs.proofs.KeptLaws.{place_is, kept-none, kept-first}
use Rattle.row.specs.Row.{empty_positional, positional, diagnostic}
use Rattle.row.proofs.Laws.{Writes, writes_start, writes-part}
use Rattle.attr_ir.specs.declared.AttrIr.{AttrIr}
use Rattle.attr_ir.specs.declared.AttrIr.TheVariants as ir
use Rattle.attr_ir.specs.declared.Reading.{Reading}
use Rattle.attr_ir.specs.declared.Reading.TheVariants.{Shorthand, Positional, Named}
use Rattle.std.specs.declared.ops.ControlFlow.TheVariants.{Break, Continue}
use Rattle.attr_ir.specs.declared.Name.{Name}
use Rattle.attr_ir.specs.declared.Name.TheVariants as asks
use Rattle.attr_ir.specs.Look.{Sight, is_symbol, is_quote, next_space, next_equals, symbol_sight, sight, decided, look}
use Rattle.attr_ir.specs.Ir.{name_tokens, value_mark, after_equals, value_tokens, name_of, named_ir, key_value_ir, ir_as, attr_ir, runs_of, tokens_of}
use Rattle.attr_ir.specs.Ir as is
use Rattle.attr_ir.specs.Places.{Bounded}
use Rattle.put_rows.specs.declared.Written.{Written}
use Rattle.put_rows.specs.Rows.{Read, one_row, row_first, is_stop, run_rows}
use Rattle.attribute.specs.Attribute.{cut_read, ir_read, reading, attribute}
use Rattle.attribute.proofs.Laws.{again, cut-has-symbol}
use Rattle.put_rows.specs.Written.{StopFirst, WroteId, Outcome}
use Rattle.attribute.specs.Outcome.{Uncut}
use Rattle.attribute.proofs.Outcomes.{bounded-in}

-- ---- only the first token decides for shorthand

is_short : Reading → Bool
is_short Shorthand = true
is_short (Positional n) = false
is_short Named = false

sight_short : Sight → Bool
sight_short (Break r) = is_short r
sight_short (Continue n) = false

decided-not : (s : Sight) (k : Bool → Reading) → sight_short s ≡ false → ((n : Bool) → is_short (k n) ≡ false) → is_short (decided s k) ≡ false
unfolding sight_short
decided-not (Break r) k e f = e
decided-not (Continue n) k e f = f n

-- the ways a token decides that is no one-byte symbol, or not the first
not_short : (first noted y a q w x z o : Bool) → sight_short (cond a (Continue y) (cond q (Break (Positional noted)) (cond w (cond x (Continue noted) (Break (Positional noted))) (cond z (cond first (Break (Positional noted)) (cond o (Break Named) (Continue noted))) (Continue noted))))) ≡ false
unfolding sight_short is_short
not_short first noted y true q w x z o = refl
not_short first noted y false true w x z o = refl
not_short first noted y false false true true z o = refl
not_short first noted y false false true false z o = refl
not_short true noted y false false false x true o = refl
not_short false noted y false false false x true true = refl
not_short false noted y false false false x true false = refl
not_short first noted y false false false x false o = refl

sight-later : (block noted : Bool) (t : Token) (ts : List Token) → sight_short (sight block false noted t ts) ≡ false
unfolding sight symbol_sight
sight-later block noted t ts = rw (and-false block) (not_short false noted (not (next_space ts)) (is_symbol t && of_one t) (is_quote t) (is_whitespace t) (next_equals ts) (is_equals t) (of_one t))

look-later : (block noted : Bool) (ts : List Token) → is_short (look block false noted ts) ≡ false
unfolding look is_short
look-later block noted [] = refl
look-later block noted (t ∷ ts) = decided-not (sight block false noted t ts) (λ n. look block false n ts) (sight-later block noted t ts) (λ n. look-later block n ts)

symbol-stop : (t : Token) → (is_symbol t && of_one t) ≡ true → is_stop t ≡ true
symbol-stop t e = go (is_dots t) (is_hash t) (is_percent t) (of_one t) e
  where
    no : {A : Type 0} → false ≡ true → A
    no e = absurd (suc-ne-zero 0 cc)

    go : (d h p o : Bool) → ((d || h || p) && o) ≡ true → (h || p || (d && o)) ≡ true
    go d true p o e = refl
    go d false true o e = refl
    go true false false o e = e
    go false false false o e = no e

clash : (block : Bool) (t : Token) (ts : List Token) → Shorthand ≡ look block true false (t ∷ ts) → (is_symbol t && of_one t) ≡ false → ⊥
unfolding look sight is_short
clash block t ts e f =
    let s : sight_short (sight block true false t ts) ≡ false = rw f (not_short true false true false (is_quote t) (is_whitespace t) (next_equals ts) (is_equals t) (of_one t)) in
    let g : is_short (look block true false (t ∷ ts)) ≡ false = decided-not (sight block true false t ts) (λ n. look block false n ts) s (λ n. look-later block n ts) in
    let h : is_short Shorthand ≡ false = ap is_short e ∙ g in
    suc-ne-zero 0 cc

look-first : (block : Bool) (t : Token) (ts : List Token) → Shorthand ≡ look block true false (t ∷ ts) → is_stop t ≡ true
unfolding look sight is_short
look-first block t ts e = go (is_symbol t && of_one t) refl
  where
    go : (b : Bool) → (is_symbol t && of_one t) ≡ b → is_stop t ≡ true
    go true f = symbol-stop t f
    go false f = absurd (clash block t ts e f)

-- so the tokens of a shorthand are all of the attribute's, and the first is a symbol
pub shorthand-first : (block : Bool) (t : Token) (ts us : List Token) → attr_ir block (t ∷ ts) ≡ is.shorthand us → (us ≡ t ∷ ts) × (is_stop t ≡ true)
unfolding attr_ir ir_as key_value_ir named_ir
shorthand-first block t ts us e = go (look block true false (t ∷ ts)) refl e
  where
    name : (a : Name) (n v : List Token) (m : QuoteMark) → named_ir a n v m ≡ is.shorthand us → (us ≡ t ∷ ts) × (is_stop t ≡ true)
    name asks.Options n v m e = absurd (suc-ne-zero 0 cc)
    name asks.Role n v m e = absurd (suc-ne-zero 0 cc)
    name asks.Id n v m e = absurd (suc-ne-zero 0 cc)
    name asks.Plain n v m e = absurd (suc-ne-zero 0 cc)
    name asks.Other n v m e = absurd (suc-ne-zero 0 cc)

    go : (r : Reading) → look block true false (t ∷ ts) ≡ r → ir_as block (t ∷ ts) r ≡ is.shorthand us → (us ≡ t ∷ ts) × (is_stop t ≡ true)
    go Shorthand f e =
        let same : us ≡ t ∷ ts = cc in
        (same, look-first block t ts (sym f))
    go (Positional n) f e = absurd (suc-ne-zero 0 cc)
    go Named f e = name (name_of (Rattle.runs.specs.Names.bytes (name_tokens (t ∷ ts)))) (name_tokens (t ∷ ts)) (value_tokens (t ∷ ts)) (value_mark (after_equals (t ∷ ts))) e

-- ---- an attribute trimmed to the run s

module _ (l : Line) (from to : ℕ) (block has : Bool) (s : Run) (w : Part trim l.kinds from to s) where
  whole : attribute block has (kept l from to) ≡ reading (attribute block has) block has (in_run l s)
  whole = again block has (kept l from to) ∙ ap (reading (attribute block has) block has) (sym (w.same l.text l.pairs))

  pub whole-empty : s.count ≡ 0 → one_row has empty_positional ≡ attribute block has (kept l from to)
  unfolding reading
  whole-empty h = sym (whole ∙ ap (reading (attribute block has) block has) (kept-none l s.place.0 (s.place.0 + s.count) (omega (arith, h))))

  module _ (h : s.count ≡ 0 → ⊥) where
    here : s.place.0 < s.place.0 + s.count
    here = positive s.count h
      where
        positive : (n : ℕ) → (n ≡ 0 → ⊥) → s.place.0 < s.place.0 + n
        positive zero h = absurd (h refl)
        positive (suc n) h = omega arith

    first-token : in_run l s ≡ token_at l s.place.0 ∷ kept l (s.place.0 + 1) (s.place.0 + s.count)
    first-token = kept-first l s.place.0 (s.place.0 + s.count) here (w.ends.first here)

    by-ir : (ts us : List Token) (t : Token) → ts ≡ t ∷ us → reading (attribute block has) block has ts ≡ ir_read (attribute block has) has (attr_ir block ts)
    unfolding reading
    by-ir ts us t e = rw e

    module _ (i : AttrIr) (held : tokens_of l i ≡ attr_ir block (in_run l s)) where
      pub whole-ir : ir_read (attribute block has) has (tokens_of l i) ≡ attribute block has (kept l from to)
      whole-ir = sym (whole ∙ by-ir _ _ _ first-token ∙ ap (ir_read (attribute block has) has) (sym held))

      module _ (t : Unquoted) (e : i ≡ ir.Positional t true) where
        pub whole-cut : cut_read (attribute block has) has (up_to is_symbol (in_run l t.run)) (onward is_symbol (in_run l t.run)) ≡ attribute block has (kept l from to)
        unfolding ir_read
        whole-cut = sym (ap (λ (j : AttrIr). ir_read (attribute block has) has (tokens_of l j)) e) ∙ whole-ir

        -- a positional that is cut has a token
        pub cut-some : 0 < t.run.count
        unfolding onward
        cut-some = go t.run.count refl
          where
            none : in_run l t.run ≡ [] → ⊥
            none z = cut-has-symbol block (in_run l s) (in_run l t.run) t.mark (sym held ∙ ap (tokens_of l) e) (ap (onward is_symbol) z)

            go : (n : ℕ) → t.run.count ≡ n → 0 < t.run.count
            go zero z = absurd (none (kept-none l t.run.place.0 (t.run.place.0 + t.run.count) (omega arith)))
            go (suc n) z = omega arith

      -- a shorthand begins with its symbol
      stops : (r : Run) → i ≡ ir.Shorthand r → Ends l.kinds r.place.0 (r.place.0 + r.count) → StopFirst l.kinds l.text l.pairs r.place.0 (r.place.0 + r.count)
      stops r e ends =
          record { first = ends.first; stop = λ lt. subst (λ (t : Token). is_stop t ≡ true) (same lt) found.1 }
        where
          found : (in_run l r ≡ token_at l s.place.0 ∷ kept l (s.place.0 + 1) (s.place.0 + s.count)) × (is_stop (token_at l s.place.0) ≡ true)
          found = shorthand-first block (token_at l s.place.0) (kept l (s.place.0 + 1) (s.place.0 + s.count)) (in_run l r) (ap (attr_ir block) (sym first-token) ∙ sym held ∙ ap (tokens_of l) e)

          same : r.place.0 < r.place.0 + r.count → token_at l s.place.0 ≡ token_at l r.place.0
          same lt =
              let x : token_at l r.place.0 ∷ kept l (r.place.0 + 1) (r.place.0 + r.count) ≡ token_at l s.place.0 ∷ kept l (s.place.0 + 1) (s.place.0 + s.count) = sym (kept-first l r.place.0 (r.place.0 + r.count) lt (ends.first lt)) ∙ found.0 in
              cc

      -- what is not to be cut
      pub whole-uncut : i ≡ runs_of (attr_ir block (in_run l s)) → Bounded l.kinds s.place.0 (s.place.0 + s.count) i → s.place.0 + s.count ≤ length l.kinds → ((t : Unquoted) → i ≡ ir.Positional t true → ⊥) → Uncut l i
      whole-uncut answer within room not =
          record {
            whole = not;
            runs = answer ∙ ap runs_of (sym held);
            within = bounded-in l.kinds s.place.0 (s.place.0 + s.count) i within room;
            symbol = λ r e. stops r e (subst (λ (j : AttrIr). Bounded l.kinds s.place.0 (s.place.0 + s.count) j) e within).ends;
          }

-- ---- the cut

at_once : (again : List Token → Read) (has : Bool) (before tail : List Token) (t : Token) (us : List Token) → before ≡ [] → tail ≡ t ∷ us → cut_read again has before tail ≡ one_row has (diagnostic t.place 2)
unfolding cut_read
at_once again has before tail t us e f = rw (e, f)

later-on : (again : List Token → Read) (has : Bool) (before tail : List Token) (t : Token) (us : List Token) → before ≡ t ∷ us → cut_read again has before tail ≡ row_first (positional (run_of before) mark.None) (again tail)
unfolding cut_read
later-on again has before tail t us e = rw e

module _ (l : Line) (from to : ℕ) (block has : Bool) (m : ℕ) (w : FoundAt is_symbol l.kinds from to m) (h : from < to) where
  abbrev given : Read
  given = cut_read (attribute block has) has (up_to is_symbol (kept l from to)) (onward is_symbol (kept l from to))

  in_parts : given ≡ cut_read (attribute block has) has (kept l from m) (kept l m to)
  in_parts =
      let f : FoundIn l is_symbol from to m = w.found l.text l.pairs in
      rw (← f.before, ← f.after)

  pub cut-none : m ≤ from → one_row has (diagnostic m 2) ≡ given
  cut-none k =
      let f : FoundIn l is_symbol from to m = w.found l.text l.pairs in
      let first = kept-first l m to (omega arith) (f.kept (omega arith)) in
      sym (in_parts ∙ at_once (attribute block has) has (kept l from m) (kept l m to) (token_at l m) (kept l (m + 1) to) (kept-none l from m k) first ∙ ap (λ (p : ℕ). one_row has (diagnostic p 2)) (place_is l m))

  -- the row of what stands before the symbol, then the rows of the tail
  pub cut_later : from < m → (get_or l.kinds from 0 ≡ attr_ref → ⊥) → (before : List ℕ) (at : ℕ) (now : List ℕ) (p : Written) → WroteId before at (record { rows = run_rows l from m; has_id = has }) now p → (after : List ℕ) (r : Written) (n most : ℕ)
      → Outcome (attribute block p.id (kept l m to)) n now p.rows r after → n + 1 ≤ most → Outcome given most before at r after
  cut_later k e before at now p g after r n most u few =
      let v = subst (λ (x : Bool). Outcome (attribute block x (kept l m to)) n now p.rows r after) g.id u in
      let D = attribute block has (kept l m to) in
      let row = positional (run_of (kept l from m)) mark.None in
      let eq : given ≡ row_first row D = in_parts ∙ later-on (attribute block has) has (kept l from m) (kept l m to) (token_at l from) (kept l (from + 1) m) (kept-first l from m k e) in
      let put : Writes before at (row ∷ D.rows) now p.rows D.rows = writes-part before at (row ∷ D.rows) before at (row ∷ []) D.rows now p.rows (writes_start before at (row ∷ D.rows)) g.wrote in
      rw eq
      (record {
        answer = v.answer ∙ ap (λ (x : ℕ). record { rows = x; id = D.has_id }) put.count;
        buffer = v.buffer ∙ put.buffer;
        few = omega (arith, v.few, few, g.wrote.count);
      })
