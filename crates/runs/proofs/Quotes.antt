-- Quotes round a run.
use Prim.Native.Nat.{ℕ, ◌+◌, ◌-◌, ◌≤◌, ◌<◌}
use native.Mathlib.Omega.{arith}
use mathlib.Core.Bool.{true, false, not}
use mathlib.Core.Path.{◌≡◌, refl, sym, ap, ◌∙◌}
use mathlib.Core.List.{List, []}
use lib.Dec.{eqb}
use lib.ListN.{get_or}
use borrow.Author.Tests.{eq-eqb, ne_eqb}
use Rattle.token.specs.declared.Run.{Run}
use Rattle.token.specs.declared.quotes.QuoteMark.{QuoteMark}
use Rattle.token.specs.declared.quotes.QuoteMark.TheVariants as mark
use Rattle.token.specs.Line.{Line, line_of, token_at}
use Rattle.token.specs.Quotes.{mark_number, marked}
use Rattle.runs.specs.Run.{kept, quotes_of, quote_mark, mark_of, quoted, unquote, unquoted, run_of, in_run}
use Rattle.runs.specs.Places.{Ends, all, Part}
use Rattle.runs.proofs.KeptLaws.{mark-short, mark-long, quoted-by-mark, quoted-room, unquote-ends, unquote-plain}

-- which quotes a first and a last token are, by their kinds
quotes-alike-at : (l : Line) (p q : ℕ) → get_or l.kinds q 0 ≡ get_or l.kinds p 0 → quotes_of (token_at l p) (token_at l q) ≡ mark_of (get_or l.kinds p 0)
unfolding token_at
quotes-alike-at l p q e = rw (eq-eqb (get_or l.kinds q 0) (get_or l.kinds p 0) e)

quotes-differ-at : (l : Line) (p q : ℕ) → (get_or l.kinds q 0 ≡ get_or l.kinds p 0 → ⊥) → quotes_of (token_at l p) (token_at l q) ≡ mark.None
unfolding token_at
quotes-differ-at l p q n = rw (ne_eqb (get_or l.kinds q 0) (get_or l.kinds p 0) n)

module _ (kinds : List ℕ) (a b : ℕ) (w : Ends kinds a b) (text pairs : List ℕ) where
  pub quotes-short : b ≤ a + 1 → mark.None ≡ quote_mark (kept (line_of kinds text pairs) a b)
  quotes-short h = sym (mark-short (line_of kinds text pairs) a b w h)

  pub quotes-alike : a + 1 < b → get_or kinds (b - 1) 0 ≡ get_or kinds a 0 → mark_of (get_or kinds a 0) ≡ quote_mark (kept (line_of kinds text pairs) a b)
  quotes-alike h e =
      let l = line_of kinds text pairs in
      sym (mark-long l a b w h ∙ quotes-alike-at l a (b - 1) e)

  pub quotes-differ : a + 1 < b → (get_or kinds (b - 1) 0 ≡ get_or kinds a 0 → ⊥) → mark.None ≡ quote_mark (kept (line_of kinds text pairs) a b)
  quotes-differ h n =
      let l = line_of kinds text pairs in
      sym (mark-long l a b w h ∙ quotes-differ-at l a (b - 1) n)

-- m says which quotes stand round the run r of the tokens kept from..to
module _ (kinds : List ℕ) (from to : ℕ) (r : Run) (w : Part all kinds from to r) (m : QuoteMark) (g : (text pairs : List ℕ) → m ≡ quote_mark (in_run (line_of kinds text pairs) r)) where
  of-run : (s : Run) → (text pairs : List ℕ) → s ≡ run_of (unquote (kept (line_of kinds text pairs) from to)) → marked s m ≡ unquoted (kept (line_of kinds text pairs) from to)
  of-run s text pairs e = rw (e, g text pairs ∙ ap quote_mark (w.same text pairs)) refl

  -- there are some; s is the run of the tokens between them
  module _ (n : eqb (mark_number m) 0 ≡ false) where
    in-quotes : (text pairs : List ℕ) → quoted (in_run (line_of kinds text pairs) r) ≡ true
    in-quotes text pairs = quoted-by-mark (in_run (line_of kinds text pairs) r) m (sym (g text pairs)) ∙ ap not n

    pub quotes-room : 1 < r.count
    quotes-room = omega (arith, quoted-room (line_of kinds [] []) r.place.0 (r.place.0 + r.count) w.ends (in-quotes [] []))

    inner : (text pairs : List ℕ) → kept (line_of kinds text pairs) (r.place.0 + 1) (r.place.0 + r.count - 1) ≡ unquote (kept (line_of kinds text pairs) from to)
    inner text pairs = unquote-ends (line_of kinds text pairs) r.place.0 (r.place.0 + r.count) w.ends (in-quotes text pairs) ∙ ap unquote (w.same text pairs)

    pub unquoted-part : (s : Run) → Part all kinds (r.place.0 + 1) (r.place.0 + r.count - 1) s → Part unquote kinds from to s
    unquoted-part s v =
        record {
          within = omega (arith, v.within, w.within, quotes-room);
          few = omega (arith, v.few, w.few, quotes-room);
          low = λ h. omega (arith, v.low h, quotes-room, w.low (omega (arith, quotes-room)));
          same = λ text pairs. v.same text pairs ∙ inner text pairs;
          ends = v.ends;
        }

    pub unquoted-text : (s : Run) → ((text pairs : List ℕ) → s ≡ run_of (kept (line_of kinds text pairs) (r.place.0 + 1) (r.place.0 + r.count - 1))) → (text pairs : List ℕ) → marked s m ≡ unquoted (kept (line_of kinds text pairs) from to)
    unquoted-text s v text pairs = of-run s text pairs (v text pairs ∙ ap run_of (inner text pairs))

  -- there are none
  module _ (n : eqb (mark_number m) 0 ≡ true) where
    plain : (text pairs : List ℕ) → kept (line_of kinds text pairs) from to ≡ unquote (kept (line_of kinds text pairs) from to)
    plain text pairs = sym (unquote-plain (kept (line_of kinds text pairs) from to) (quoted-by-mark (kept (line_of kinds text pairs) from to) m (ap quote_mark (sym (w.same text pairs)) ∙ sym (g text pairs)) ∙ ap not n))

    pub plain-part : Part unquote kinds from to r
    plain-part = record { within = w.within; few = w.few; low = w.low; same = λ text pairs. w.same text pairs ∙ plain text pairs; ends = w.ends }

    pub plain-text : ((text pairs : List ℕ) → r ≡ run_of (kept (line_of kinds text pairs) from to)) → (text pairs : List ℕ) → marked r m ≡ unquoted (kept (line_of kinds text pairs) from to)
    plain-text v text pairs = of-run r text pairs (v text pairs ∙ ap run_of (plain text pairs))
