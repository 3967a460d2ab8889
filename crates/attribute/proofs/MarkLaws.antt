-- The mark is 0 in each row of a positional that was cut, its own and those of its tail, and in each row of shorthand: no quotes were taken off them. A tail
-- begins with its symbol. It is shorthand, or nothing stands before the symbol, which is diagnostic 2. Assumes nothing.
use Rattle.std.specs.Prelude.{ℕ, Bool, true, false, cond, ◌&&◌, ◌||◌, ◌≡◌, refl, List, [], ◌∷◌, eqb}
use Rattle.std.proofs.Common.{sym, ap, subst, suc-ne-zero, ◌∙◌}
use borrow.Author.Tests.{eqb-true}
use Rattle.std.specs.declared.ops.ControlFlow.TheVariants.{Break, Continue}
use Rattle.token.specs.declared.Run.{Run}
use Rattle.token.specs.declared.quotes.QuoteMark.{QuoteMark}
use Rattle.token.specs.declared.quotes.QuoteMark.TheVariants as mark
use Rattle.token.specs.Kind.{dots, hash, percent}
use Rattle.token.specs.Line.{Token}
use Rattle.runs.specs.Run.{is_dots, is_hash, is_percent, is_whitespace, is_equals, of_one, up_to, onward, last_of, leave, trim_start, trim_end, trim, mark_of, quote_mark, quoted, run_of}
use Rattle.runs.proofs.KeptLaws.{onward-here, up_to-here, trim_start-stop, unquote-plain, quoted-by-mark}
use Rattle.row.specs.declared.Row.{Row}
use Rattle.row.specs.Row.{empty_positional, ident, role, option, diagnostic}
use Rattle.attr_ir.specs.declared.Reading.{Reading}
use Rattle.attr_ir.specs.declared.Reading.TheVariants.{Shorthand, Positional, Named}
use Rattle.attr_ir.specs.Look.{is_symbol, is_quote, next_equals, symbol_sight, sight, decided, look}
use Rattle.attr_ir.specs.Ir.{ir_as, attr_ir}
use Rattle.attr_ir.specs.Ir as is
use Rattle.put_rows.specs.Rows.{Read, one_row, row_first, Piece, pieces, symbol_row, last_empty, shorthand_read}
use Rattle.attribute.specs.Attribute.{cut_read, ir_read, reading, attribute}
use Rattle.attribute.proofs.Laws.{again, cut-tokens, cut-has-symbol, ir-as}

-- the mark of each row is 0
abbrev pub Unmarked : List Row → Type 0
Unmarked [] = Unit {0}
Unmarked (r ∷ rs) = (r.mark ≡ mark.None) × Unmarked rs

-- ---- shorthand

symbol-mark : (t : Token) (r : Run) → (symbol_row t r).mark ≡ mark.None
symbol-mark t r = go (is_hash t) (is_percent t)
  where
    go : (a b : Bool) → (cond a (ident r mark.None) (cond b (option r) (role r))).mark ≡ mark.None
    go true b = refl
    go false true = refl
    go false false = refl

pub shorthand-unmarked : (has : Bool) (ps : List Piece) → Unmarked (shorthand_read has ps).rows
unfolding shorthand_read
shorthand-unmarked has [] = record {}
shorthand-unmarked has (p ∷ ps) = go (last_empty p.taken ps) (is_hash p.symbol && has) (shorthand-unmarked (is_hash p.symbol || has) ps)
  where
    go : (a b : Bool) → Unmarked (shorthand_read (is_hash p.symbol || has) ps).rows
        → Unmarked (cond a (one_row has (diagnostic p.symbol.place 1)) (cond b (one_row has (diagnostic p.symbol.place 4)) (row_first (symbol_row p.symbol (run_of p.taken)) (shorthand_read (is_hash p.symbol || has) ps)))).rows
    go true b u = (refl, record {})
    go false true u = (refl, record {})
    go false false u = (symbol-mark p.symbol (run_of p.taken), u)

-- ---- a symbol is no quote, no Whitespace and no EqualSigns

record Other (t : Token) : Type 0 where
  pub quote : is_quote t ≡ false
  pub space : is_whitespace t ≡ false
  pub equals : is_equals t ≡ false
  pub plain : mark_of t.kind ≡ mark.None

of-kind : (t : Token) (k : ℕ) → t.kind ≡ k → Other (record { place = t.place; kind = k; lexeme = t.lexeme }) → Other t
of-kind t k e w = record { quote = rw e w.quote; space = rw e w.space; equals = rw e w.equals; plain = rw e w.plain }

other : (t : Token) → is_symbol t ≡ true → Other t
other t e = go (is_dots t) (is_hash t) (is_percent t) refl refl refl e
  where
    go : (d h p : Bool) → is_dots t ≡ d → is_hash t ≡ h → is_percent t ≡ p → (d || h || p) ≡ true → Other t
    go true h p a b c e = of-kind t dots (eqb-true t.kind dots a) (record { quote = refl; space = refl; equals = refl; plain = refl })
    go false true p a b c e = of-kind t hash (eqb-true t.kind hash b) (record { quote = refl; space = refl; equals = refl; plain = refl })
    go false false true a b c e = of-kind t percent (eqb-true t.kind percent c) (record { quote = refl; space = refl; equals = refl; plain = refl })
    go false false false a b c e = absurd (suc-ne-zero 0 cc)

-- ---- the look at a tail

onward-head : (p : Token → Bool) (ts : List Token) (t : Token) (vs : List Token) → onward p ts ≡ t ∷ vs → p t ≡ true
unfolding onward
onward-head p [] t vs e = absurd (suc-ne-zero 0 cc)
onward-head p (x ∷ xs) t vs e = go (p x) refl e (onward-head p xs t vs)
  where
    go : (b : Bool) → p x ≡ b → cond b (x ∷ xs) (onward p xs) ≡ t ∷ vs → (onward p xs ≡ t ∷ vs → p t ≡ true) → p t ≡ true
    go true f e rest =
        let same : x ≡ t = cc in
        ap p (sym same) ∙ f
    go false f e rest = rest e

-- a token that is no symbol decides nothing, where a note of yes comes later
plain-goes-on : (block first : Bool) (t : Token) (ts : List Token) (k : Bool → Reading) → is_symbol t ≡ false → decided (sight block first false t ts) k ≡ Positional true → k false ≡ Positional true
unfolding sight
plain-goes-on block first t ts k e f =
    go (is_quote t) (is_whitespace t) (next_equals ts) (is_equals t) first (of_one t) (subst (λ (b : Bool). decided (cond (b && of_one t) (symbol_sight (block && first) ts)
    (cond (is_quote t) (Break (Positional false)) (cond (is_whitespace t) (cond (next_equals ts) (Continue false) (Break (Positional false))) (cond (is_equals t) (cond first (Break (Positional false)) (cond (of_one t) (Break Named) (Continue false))) (Continue false))))) k ≡ Positional true) e f)
  where
    no : {A : Type 0} → Positional false ≡ Positional true → A
    no e = absurd (suc-ne-zero 0 cc)

    never : {A : Type 0} → Named ≡ Positional true → A
    never e = absurd (suc-ne-zero 0 cc)

    go : (q w x z g o : Bool) → decided (cond q (Break (Positional false)) (cond w (cond x (Continue false) (Break (Positional false))) (cond z (cond g (Break (Positional false)) (cond o (Break Named) (Continue false))) (Continue false)))) k ≡ Positional true → k false ≡ Positional true
    go true w x z g o f = no f
    go false true true z g o f = f
    go false true false z g o f = no f
    go false false x true true o f = no f
    go false false x true false true f = never f
    go false false x true false false f = f
    go false false x false g o f = f

-- a symbol of more than one byte decides nothing
long-goes-on : (block first : Bool) (t : Token) (ts : List Token) (k : Bool → Reading) → is_symbol t ≡ true → of_one t ≡ false → decided (sight block first false t ts) k ≡ k false
unfolding sight
long-goes-on block first t ts k e o =
    let w = other t e in
    rw (e, o, w.quote, w.space, w.equals) refl

module _ (block : Bool) where
  tail-look : (first : Bool) (ts : List Token) (t : Token) (vs : List Token) → look block first false ts ≡ Positional true → onward is_symbol ts ≡ t ∷ vs → of_one t ≡ false → look block false false vs ≡ Positional true
  unfolding look onward
  tail-look first [] t vs f e o = absurd (suc-ne-zero 0 cc)
  tail-look first (x ∷ xs) t vs f e o = go (is_symbol x) refl e (λ g h. tail-look false xs t vs g h o)
    where
      go : (b : Bool) → is_symbol x ≡ b → cond b (x ∷ xs) (onward is_symbol xs) ≡ t ∷ vs → (look block false false xs ≡ Positional true → onward is_symbol xs ≡ t ∷ vs → look block false false vs ≡ Positional true) → look block false false vs ≡ Positional true
      go true s e rest =
          let same : x ≡ t = cc in
          let left : xs ≡ vs = cc in
          ap (look block false false) (sym left) ∙ sym (long-goes-on block first x xs (λ n. look block false n xs) s (ap of_one same ∙ o)) ∙ f
      go false s e rest = rest (plain-goes-on block first x xs (λ n. look block false n xs) s f) e

-- ---- what is trimmed stays so

tail-trimmed : (x : Token) (xs : List Token) → trim_end (x ∷ xs) ≡ x ∷ xs → trim_end xs ≡ xs
unfolding trim_end leave
tail-trimmed x xs e = go (trim_end xs) refl e
  where
    go : (ys : List Token) → trim_end xs ≡ ys → leave x ys ≡ x ∷ xs → trim_end xs ≡ xs
    go [] f e = none (is_whitespace x) e
      where
        none : (b : Bool) → cond b [] (x ∷ []) ≡ x ∷ xs → trim_end xs ≡ xs
        none true e = absurd (suc-ne-zero 0 cc)
        none false e =
            let z : [] ≡ xs = cc in
            f ∙ z
    go (u ∷ us) f e =
        let z : u ∷ us ≡ xs = cc in
        f ∙ z

onward-trimmed : (p : Token → Bool) (ts : List Token) → trim_end ts ≡ ts → trim_end (onward p ts) ≡ onward p ts
unfolding onward
onward-trimmed p [] e = e
onward-trimmed p (x ∷ xs) e = go (p x) (onward-trimmed p xs (tail-trimmed x xs e))
  where
    go : (b : Bool) → trim_end (onward p xs) ≡ onward p xs → trim_end (cond b (x ∷ xs) (onward p xs)) ≡ cond b (x ∷ xs) (onward p xs)
    go true rest = e
    go false rest = rest

end-twice : (ts : List Token) → trim_end (trim_end ts) ≡ trim_end ts
unfolding trim_end leave
end-twice [] = refl
end-twice (t ∷ ts) = go (trim_end ts) (end-twice ts)
  where
    go : (ys : List Token) → trim_end ys ≡ ys → trim_end (leave t ys) ≡ leave t ys
    go [] e = none (is_whitespace t) refl
      where
        none : (b : Bool) → is_whitespace t ≡ b → trim_end (cond b [] (t ∷ [])) ≡ cond b [] (t ∷ [])
        none true w = refl
        none false w = rw w refl
    go (u ∷ us) e = ap (leave t) e

trimmed : (ts : List Token) → trim_end (trim ts) ≡ trim ts
unfolding trim
trimmed ts = end-twice (trim_start ts)

-- ---- a tail

module _ (t : Token) (vs : List Token) (s : is_symbol t ≡ true) where
  no-quotes : quote_mark (t ∷ vs) ≡ mark.None
  unfolding quote_mark
  no-quotes = go vs
    where
      by : (b : Bool) → cond b (mark_of t.kind) mark.None ≡ mark.None
      by true = (other t s).plain
      by false = refl

      go : (us : List Token) → quote_mark (t ∷ us) ≡ mark.None
      go [] = refl
      go (u ∷ us) = by (eqb (last_of u us).kind t.kind)

  none-before : (f : List Token → Read) (has : Bool) → Unmarked (ir_read f has (is.positional (t ∷ vs) mark.None true)).rows
  unfolding ir_read cut_read
  none-before f has = rw (up_to-here is_symbol t vs s, onward-here is_symbol t vs s) (refl, record {})

  as-cut : quoted (t ∷ vs) ≡ false → ir_as true (t ∷ vs) (Positional true) ≡ is.positional (t ∷ vs) mark.None true
  unfolding ir_as
  as-cut q = rw (unquote-plain (t ∷ vs) q, no-quotes, q) refl

  as-short : ir_as true (t ∷ vs) Shorthand ≡ is.shorthand (t ∷ vs)
  unfolding ir_as
  as-short = refl

  module _ (f : List Token → Read) (has : Bool) where
    noted-tail : look true true false (t ∷ vs) ≡ Positional true → Unmarked (ir_read f has (attr_ir true (t ∷ vs))).rows
    noted-tail e =
        let plain : quoted (t ∷ vs) ≡ false = quoted-by-mark (t ∷ vs) mark.None no-quotes in
        subst (λ (i : is.Ir). Unmarked (ir_read f has i).rows) (sym (ir-as true (t ∷ vs) (Positional true) e ∙ as-cut plain)) (none-before f has)

    short-rows : Unmarked (ir_read f has (is.shorthand (t ∷ vs))).rows
    unfolding ir_read
    short-rows = shorthand-unmarked has (pieces (t ∷ vs))

    short-tail : look true true false (t ∷ vs) ≡ Shorthand → Unmarked (ir_read f has (attr_ir true (t ∷ vs))).rows
    short-tail e = subst (λ (i : is.Ir). Unmarked (ir_read f has i).rows) (sym (ir-as true (t ∷ vs) Shorthand e ∙ as-short)) short-rows

    -- a symbol of one byte: shorthand, or alone
    one-tail : of_one t ≡ true → Unmarked (ir_read f has (attr_ir true (t ∷ vs))).rows
    unfolding look sight symbol_sight
    one-tail o = go vs refl
      where
        go : (us : List Token) → vs ≡ us → Unmarked (ir_read f has (attr_ir true (t ∷ vs))).rows
        go [] e = noted-tail (rw (e, s, o) refl)
        go (u ∷ us) e = short-tail (rw (e, s, o) refl)

    longer : of_one t ≡ false → look true false false vs ≡ Positional true → look true true false (t ∷ vs) ≡ Positional true
    unfolding look
    longer o on = long-goes-on true true t vs (λ n. look true false n vs) s o ∙ on

    tail-rows : (of_one t ≡ false → look true false false vs ≡ Positional true) → Unmarked (ir_read f has (attr_ir true (t ∷ vs))).rows
    tail-rows on = go (of_one t) refl
      where
        go : (b : Bool) → of_one t ≡ b → Unmarked (ir_read f has (attr_ir true (t ∷ vs))).rows
        go true o = one-tail o
        go false o = noted-tail (longer o (on o))

  tail-unmarked : (has : Bool) → trim_end (t ∷ vs) ≡ t ∷ vs → (of_one t ≡ false → look true false false vs ≡ Positional true) → Unmarked (attribute true has (t ∷ vs)).rows
  unfolding reading trim
  tail-unmarked has e on =
      let same : trim (t ∷ vs) ≡ t ∷ vs = ap trim_end (trim_start-stop t vs (other t s).space) ∙ e in
      subst (λ (d : Read). Unmarked d.rows) (sym (again true has (t ∷ vs) ∙ ap (reading (attribute true has) true has) same)) (tail-rows (attribute true has) has on)

-- ---- the cut

cut-rows : (f : List Token → Read) (has : Bool) (before tail : List Token) → Unmarked (f tail).rows → Unmarked (cut_read f has before tail).rows
unfolding cut_read
cut-rows f has [] [] u = (refl, record {})
cut-rows f has [] (t ∷ vs) u = (refl, record {})
cut-rows f has (b ∷ bs) tail u = (refl, u)

nothing : (has : Bool) → attribute true has [] ≡ one_row has empty_positional
unfolding reading trim trim_start trim_end
nothing has = again true has []

module _ (has : Bool) (us : List Token) (looks : look true true false us ≡ Positional true) (ends : trim_end us ≡ us) where
  cut-tail : Unmarked (attribute true has (onward is_symbol us)).rows
  cut-tail = go (onward is_symbol us) refl
    where
      go : (vs : List Token) → onward is_symbol us ≡ vs → Unmarked (attribute true has vs).rows
      go [] e = subst (λ (d : Read). Unmarked d.rows) (sym (nothing has)) (refl, record {})
      go (t ∷ vs) e =
          tail-unmarked t vs (onward-head is_symbol us t vs e) has (subst (λ (ts : List Token). trim_end ts ≡ ts) e (onward-trimmed is_symbol us ends)) (λ o. tail-look true true us t vs looks e o)

  cut-both : Unmarked (cut_read (attribute true has) has (up_to is_symbol us) (onward is_symbol us)).rows
  cut-both = cut-rows (attribute true has) has (up_to is_symbol us) (onward is_symbol us) cut-tail

-- tokens that are cut are some
none-to-cut : (us : List Token) (m : QuoteMark) → attr_ir true [] ≡ is.positional us m true → onward is_symbol us ≡ []
unfolding onward
none-to-cut us m f = ap (onward is_symbol) (cut-tokens true [] us m f).0

as-cut-read : (has : Bool) (ts us : List Token) (m : QuoteMark) → attr_ir true ts ≡ is.positional us m true → reading (attribute true has) true has ts ≡ cut_read (attribute true has) has (up_to is_symbol us) (onward is_symbol us)
unfolding reading ir_read
as-cut-read has [] us m f = absurd (cut-has-symbol true [] us m f (none-to-cut us m f))
as-cut-read has (t ∷ ts) us m f = ap (ir_read (attribute true has) has) f

-- an attribute that is cut: each of its rows has the mark 0
pub cut-unmarked : (block has : Bool) (xs us : List Token) (m : QuoteMark) → attr_ir block (trim xs) ≡ is.positional us m true → Unmarked (attribute block has xs).rows
cut-unmarked block has xs us m e =
    let w = cut-tokens block (trim xs) us m e in
    subst (λ (b : Bool). Unmarked (attribute b has xs).rows) (sym w.1.1) (rows (subst (λ (b : Bool). attr_ir b (trim xs) ≡ is.positional us m true) w.1.1 e) w.0 (subst (λ (b : Bool). look b true false (trim xs) ≡ Positional true) w.1.1 w.1.0))
  where
    rows : attr_ir true (trim xs) ≡ is.positional us m true → us ≡ trim xs → look true true false (trim xs) ≡ Positional true → Unmarked (attribute true has xs).rows
    rows f same looks =
        subst (λ (d : Read). Unmarked d.rows) (sym (again true has xs ∙ as-cut-read has (trim xs) us m f)) (cut-both has us (ap (look true true false) same ∙ looks) (ap trim_end same ∙ trimmed xs ∙ sym same))
