-- The law that an editor needs: the tokens before unquoting are those of the run between two quotes of the mark's kind, or those of the run where the mark is
-- 0. So mark and run give the author's tokens back. Assumes nothing.
use Rattle.std.specs.Prelude.{ℕ, zero, suc, ◌+◌, ◌-◌, ◌<◌, Bool, true, false, cond, not, ◌≡◌, refl, List, [], ◌∷◌, ◌++◌, eqb, get_or}
use Rattle.std.proofs.Common.{arith, sym, ap, subst, suc-ne-zero, ◌∙◌}
use Rattle.std.proofs.Math.Decide.{dec_lt}
use borrow.Author.Tests.{eqb-true, eqb-false}
use Rattle.token.specs.declared.quotes.QuoteMark.TheVariants as mark
use Rattle.token.specs.Kind.{attr_ref, double_quote, single_quote}
use Rattle.token.specs.Line.{Line, Token, token_at}
use Rattle.token.specs.Quotes.{mark_number}
use Rattle.runs.specs.Run.{kept, in_run, is_whitespace, onward, trim_start, trim_end, trim, last_of, front, quotes_of, quote_mark, quoted, inside, unquote, run_of}
use Rattle.runs.specs.Places.{Ends}
use Rattle.runs.specs.Requoted.{Requoted}
use Rattle.runs.proofs.KeptLaws.{kept-none, kept-first, kept-skip, kept-last, kept-last-skip, trim_end-none, trim_end-space, trim_end-stop, run_none, run_ends, unquote-plain, unquote-ends}

-- ---- the tokens before unquoting, by those that are left

front_last : (u : Token) (us : List Token) → u ∷ us ≡ front u us ++ (last_of u us ∷ [])
unfolding front last_of
front_last u [] = refl
front_last u (v ∷ vs) = ap (λ (l : List Token). u ∷ l) (front_last v vs)

-- the tokens between two others, and which quotes these are
opened : (t u : Token) (left : List Token) → Requoted (quotes_of t u) (t ∷ (left ++ (u ∷ []))) (cond (not (eqb (mark_number (quotes_of t u)) 0)) left (t ∷ (left ++ (u ∷ []))))
opened t u left = go (eqb u.kind t.kind) (eqb t.kind double_quote) (eqb t.kind single_quote) refl refl refl
  where
    closes : (k : ℕ) → eqb u.kind t.kind ≡ true → eqb t.kind k ≡ true → eqb u.kind k ≡ true
    closes k e f = rw (eqb-true u.kind t.kind e) f

    go : (a d s : Bool) → eqb u.kind t.kind ≡ a → eqb t.kind double_quote ≡ d → eqb t.kind single_quote ≡ s
        → Requoted (cond a (cond d mark.Double (cond s mark.Single mark.None)) mark.None) (t ∷ (left ++ (u ∷ []))) (cond (not (eqb (mark_number (cond a (cond d mark.Double (cond s mark.Single mark.None)) mark.None)) 0)) left (t ∷ (left ++ (u ∷ []))))
    go true true s e f g = record { first = t; last = u; opens = f; closes = closes double_quote e f; tokens = refl }
    go true false true e f g = record { first = t; last = u; opens = g; closes = closes single_quote e g; tokens = refl }
    go true false false e f g = refl
    go false d s e f g = refl

pub requoted-tokens : (ts : List Token) → Requoted (quote_mark ts) ts (unquote ts)
unfolding unquote quoted quote_mark inside
requoted-tokens [] = refl
requoted-tokens (t ∷ []) = refl
requoted-tokens (t ∷ u ∷ us) =
    let back = ap (λ (l : List Token). t ∷ l) (sym (front_last u us)) in
    subst (λ (l : List Token). Requoted (quotes_of t (last_of u us)) l (cond (not (eqb (mark_number (quotes_of t (last_of u us))) 0)) (front u us) l)) back (opened t (last_of u us) (front u us))

-- ---- a run holds the tokens that it was made of

-- some places both of whose ends are kept tokens, with the same tokens kept
record Same (l : Line) (from to : ℕ) : Type 0 where
  pub a : ℕ
  pub b : ℕ
  pub ends : Ends l.kinds a b
  pub tokens : kept l a b ≡ kept l from to

module _ (l : Line) where
  same-as : (low high from to : ℕ) → kept l low high ≡ kept l from to → Same l low high → Same l from to
  same-as low high from to e s = record { a = s.a; b = s.b; ends = s.ends; tokens = s.tokens ∙ e }

  same-ends : (n from to : ℕ) → to - from ≡ n → Same l from to
  same-ends zero from to e =
      record { a = from; b = to; ends = record { first = λ h. absurd (omega (arith, e, h)); last = λ h. absurd (omega (arith, e, h)) }; tokens = refl }
  same-ends (suc n) from to e = go (eqb (get_or l.kinds from 0) attr_ref) (eqb (get_or l.kinds (to - 1) 0) attr_ref) refl refl (same-ends n)
    where
      go : (f g : Bool) → eqb (get_or l.kinds from 0) attr_ref ≡ f → eqb (get_or l.kinds (to - 1) 0) attr_ref ≡ g → ((low high : ℕ) → high - low ≡ n → Same l low high) → Same l from to
      go true g p q less = same-as (from + 1) to from to (sym (kept-skip l from to (omega (arith, e)) (eqb-true _ _ p))) (less (from + 1) to (omega (arith, e)))
      go false true p q less = same-as from (to - 1) from to (sym (kept-last-skip l from to (omega (arith, e)) (eqb-true _ _ q))) (less from (to - 1) (omega (arith, e)))
      go false false p q less =
          record { a = from; b = to; ends = record { first = λ h. eqb-false _ _ p; last = λ h. eqb-false _ _ q }; tokens = refl }

  pub in-its-run : (from to : ℕ) → in_run l (run_of (kept l from to)) ≡ kept l from to
  in-its-run from to = go (dec_lt s.a s.b)
    where
      s : Same l from to
      s = same-ends (to - from) from to refl

      go : Dec (s.a < s.b) → in_run l (run_of (kept l from to)) ≡ kept l from to
      go (yes h) =
          let z : s.a + (s.b - s.a) ≡ s.b = omega arith in
          ap (λ (ts : List Token). in_run l (run_of ts)) (sym s.tokens) ∙ ap (in_run l) (run_ends l s.a s.b s.ends h) ∙ ap (kept l s.a) z ∙ s.tokens
      go (no h) =
          let none : kept l from to ≡ [] = sym s.tokens ∙ kept-none l s.a s.b (omega arith) in
          ap (in_run l) (run_none (kept l from to) none) ∙ kept-none l 0 0 (omega arith) ∙ sym none

  -- and so does the run of what is left when quotes are taken off
  in-unquoted : (from to : ℕ) → in_run l (run_of (unquote (kept l from to))) ≡ unquote (kept l from to)
  in-unquoted from to = go (quoted (kept l from to)) refl
    where
      s : Same l from to
      s = same-ends (to - from) from to refl

      go : (q : Bool) → quoted (kept l from to) ≡ q → in_run l (run_of (unquote (kept l from to))) ≡ unquote (kept l from to)
      go true e =
          let left : kept l (s.a + 1) (s.b - 1) ≡ unquote (kept l from to) = unquote-ends l s.a s.b s.ends (ap quoted s.tokens ∙ e) ∙ ap unquote s.tokens in
          ap (λ (ts : List Token). in_run l (run_of ts)) (sym left) ∙ in-its-run (s.a + 1) (s.b - 1) ∙ left
      go false e =
          let plain : unquote (kept l from to) ≡ kept l from to = unquote-plain (kept l from to) e in
          ap (λ (ts : List Token). in_run l (run_of ts)) plain ∙ in-its-run from to ∙ sym plain

  pub requoted : (from to : ℕ) → Requoted (quote_mark (kept l from to)) (kept l from to) (in_run l (run_of (unquote (kept l from to))))
  requoted from to =
      subst (λ (ts : List Token). Requoted (quote_mark (kept l from to)) (kept l from to) ts) (sym (in-unquoted from to)) (requoted-tokens (kept l from to))

-- ---- so it is of a part of the tokens kept of some places: what is trimmed, or stands behind an EqualSigns

-- ts are the tokens kept of some places
pub record KeptAt (l : Line) (ts : List Token) : Type 0 where
  pub from : ℕ
  pub to : ℕ
  pub tokens : ts ≡ kept l from to

module _ (l : Line) where
  pub requoted-at : (ts : List Token) → KeptAt l ts → Requoted (quote_mark ts) ts (in_run l (run_of (unquote ts)))
  requoted-at ts s = subst (λ (us : List Token). Requoted (quote_mark us) us (in_run l (run_of (unquote us)))) (sym s.tokens) (requoted l s.from s.to)

  kept-at-as : (ts us : List Token) → us ≡ ts → KeptAt l ts → KeptAt l us
  kept-at-as ts us e s = record { from = s.from; to = s.to; tokens = e ∙ s.tokens }

  pub kept-at-tail : (t : Token) (ts : List Token) → KeptAt l (t ∷ ts) → KeptAt l ts
  kept-at-tail t ts s = go (dec_lt e.a e.b)
    where
      e : Same l s.from s.to
      e = same-ends l (s.to - s.from) s.from s.to refl

      go : Dec (e.a < e.b) → KeptAt l ts
      go (yes h) =
          let first : t ∷ ts ≡ token_at l e.a ∷ kept l (e.a + 1) e.b = s.tokens ∙ sym e.tokens ∙ kept-first l e.a e.b h (e.ends.first h) in
          record { from = e.a + 1; to = e.b; tokens = cc }
      go (no h) =
          let none : t ∷ ts ≡ [] = s.tokens ∙ sym e.tokens ∙ kept-none l e.a e.b (omega arith) in
          absurd (suc-ne-zero 0 cc)

  pub kept-at-onward : (p : Token → Bool) (ts : List Token) → KeptAt l ts → KeptAt l (onward p ts)
  unfolding onward
  kept-at-onward p [] s = s
  kept-at-onward p (t ∷ ts) s = go (p t) s (kept-at-onward p ts (kept-at-tail t ts s))
    where
      go : (b : Bool) → KeptAt l (t ∷ ts) → KeptAt l (onward p ts) → KeptAt l (cond b (t ∷ ts) (onward p ts))
      go true all rest = all
      go false all rest = rest

  kept-at-start : (ts : List Token) → KeptAt l ts → KeptAt l (trim_start ts)
  unfolding trim_start
  kept-at-start [] s = s
  kept-at-start (t ∷ ts) s = go (is_whitespace t) s (kept-at-start ts (kept-at-tail t ts s))
    where
      go : (b : Bool) → KeptAt l (t ∷ ts) → KeptAt l (trim_start ts) → KeptAt l (cond b (trim_start ts) (t ∷ ts))
      go true all rest = rest
      go false all rest = all

  end-places : (n from to : ℕ) → to - from ≡ n → KeptAt l (trim_end (kept l from to))
  end-places zero from to e =
      let none : kept l from to ≡ [] = kept-none l from to (omega (arith, e)) in
      record { from = from; to = to; tokens = ap trim_end none ∙ trim_end-none ∙ sym none }
  end-places (suc n) from to e = go (eqb (get_or l.kinds (to - 1) 0) attr_ref) (is_whitespace (token_at l (to - 1))) refl refl (end-places n from (to - 1) (omega (arith, e)))
    where
      go : (f g : Bool) → eqb (get_or l.kinds (to - 1) 0) attr_ref ≡ f → is_whitespace (token_at l (to - 1)) ≡ g → KeptAt l (trim_end (kept l from (to - 1))) → KeptAt l (trim_end (kept l from to))
      go true g p q less = kept-at-as (trim_end (kept l from (to - 1))) (trim_end (kept l from to)) (ap trim_end (kept-last-skip l from to (omega (arith, e)) (eqb-true _ _ p))) less
      go false true p q less =
          let last = kept-last l from to (omega (arith, e)) (eqb-false _ _ p) in
          kept-at-as (trim_end (kept l from (to - 1))) (trim_end (kept l from to)) (ap trim_end last ∙ trim_end-space (kept l from (to - 1)) (token_at l (to - 1)) q) less
      go false false p q less =
          let last = kept-last l from to (omega (arith, e)) (eqb-false _ _ p) in
          record { from = from; to = to; tokens = ap trim_end last ∙ trim_end-stop (kept l from (to - 1)) (token_at l (to - 1)) q ∙ sym last }

  pub kept-at-trim : (ts : List Token) → KeptAt l ts → KeptAt l (trim ts)
  unfolding trim
  kept-at-trim ts s =
      let start = kept-at-start ts s in
      subst (λ (us : List Token). KeptAt l (trim_end us)) (sym start.tokens) (end-places (start.to - start.from) start.from start.to refl)
