-- Places and the list of the tokens kept there: by these laws code on places meets definitions on lists.
use Rattle.std.proofs.Math.Nat.{suc-ne-zero}
use Prim.Native.Nat.{ℕ, zero, suc, ◌+◌, ◌-◌, ◌≤◌, ◌<◌}
use native.Mathlib.Omega.{arith}
use Rattle.std.proofs.Math.Numerals.{add-one}
use Rattle.std.proofs.Common.{add-suc, suc-add, add-zero, zero-add, sym, subst, ◌∙◌}
use Rattle.std.specs.Prelude.{Bool, eqb, get_or}
use Rattle.std.proofs.Math.Bool.{true, false, cond, not}
use Rattle.std.proofs.Math.Path.{◌≡◌, refl, ap}
use mathlib.Core.List.{List, [], ◌∷◌, ◌++◌, append-nil}
use borrow.Author.Tests.{eq-eqb, ne_eqb}
use Rattle.token.specs.declared.quotes.QuoteMark.{QuoteMark}
use Rattle.token.specs.declared.quotes.QuoteMark.TheVariants as mark
use Rattle.token.specs.Kind.{attr_ref}
use Rattle.token.specs.Line.{Line, Token, token_at, tokens, run, empty_run}
use Rattle.token.specs.Quotes.{mark_number}
use Rattle.runs.specs.Run.{of_kind, is_attr_ref, is_whitespace, without, up_to, onward, last_of, front, kept, trim_start, leave, trim_end, trim, quotes_of, quote_mark, quoted, inside, unquote, run_of}
use Rattle.runs.specs.Places.{Ends, FoundIn}

-- ---- lists of tokens

pub without-append : (p : Token → Bool) (xs ys : List Token) → without p (xs ++ ys) ≡ without p xs ++ without p ys
unfolding without
without-append p [] ys = refl
without-append p (x ∷ xs) ys = rw (without-append p xs ys) (go (p x))
  where
    go : (b : Bool) → cond b (without p xs ++ without p ys) (x ∷ without p xs ++ without p ys) ≡ cond b (without p xs) (x ∷ without p xs) ++ without p ys
    go true = refl
    go false = refl

pub tokens-add : (l : Line) (p m n : ℕ) → tokens l p (m + n) ≡ tokens l p m ++ tokens l (p + m) n
unfolding tokens
tokens-add l p zero n = rw (add-zero p, zero-add n)
tokens-add l p (suc m) n = rw (suc-add m n, add-suc p m, ← suc-add p m) (ap (λ (x : List Token). token_at l p ∷ x) (tokens-add l (suc p) m n))

pub last_of_snoc : (t : Token) (ts : List Token) (u : Token) → last_of t (ts ++ (u ∷ [])) ≡ u
unfolding last_of
last_of_snoc t [] u = refl
last_of_snoc t (x ∷ xs) u = last_of_snoc x xs u

pub front-snoc : (t : Token) (ts : List Token) (u : Token) → front t (ts ++ (u ∷ [])) ≡ t ∷ ts
unfolding front
front-snoc t [] u = refl
front-snoc t (x ∷ xs) u = ap (λ (l : List Token). t ∷ l) (front-snoc x xs u)

-- ---- the first token for which p holds; `onward p xs ≡ []` says that xs has none

module _ (p : Token → Bool) where
  pub onward-none : onward p [] ≡ []
  unfolding onward
  onward-none = refl

  pub onward-later : (x : Token) (xs : List Token) → onward p (x ∷ xs) ≡ [] → (p x ≡ false) × (onward p xs ≡ [])
  unfolding onward
  onward-later x xs = go (p x)
    where
      go : (b : Bool) → cond b (x ∷ xs) (onward p xs) ≡ [] → (b ≡ false) × (onward p xs ≡ [])
      go true e = absurd (suc-ne-zero 0 cc)
      go false e = (refl, e)

  pub onward-append : (xs ys : List Token) → onward p xs ≡ [] → onward p (xs ++ ys) ≡ onward p ys
  unfolding onward
  onward-append [] ys e = refl
  onward-append (x ∷ xs) ys e = rw (onward-later x xs e).0 (onward-append xs ys (onward-later x xs e).1)

  pub up_to-append : (xs ys : List Token) → onward p xs ≡ [] → up_to p (xs ++ ys) ≡ xs ++ up_to p ys
  unfolding up_to
  up_to-append [] ys e = refl
  up_to-append (x ∷ xs) ys e = rw (onward-later x xs e).0 (ap (λ (l : List Token). x ∷ l) (up_to-append xs ys (onward-later x xs e).1))

  pub onward-here : (t : Token) (ts : List Token) → p t ≡ true → onward p (t ∷ ts) ≡ t ∷ ts
  unfolding onward
  onward-here t ts e = rw e

  pub onward-not : (t : Token) (ts : List Token) → p t ≡ false → onward p (t ∷ ts) ≡ onward p ts
  unfolding onward
  onward-not t ts e = rw e

  pub up_to-here : (t : Token) (ts : List Token) → p t ≡ true → up_to p (t ∷ ts) ≡ []
  unfolding up_to
  up_to-here t ts e = rw e

  pub up_to-none : up_to p [] ≡ []
  unfolding up_to
  up_to-none = refl

-- ---- the kind of a token

module _ (l : Line) (p k : ℕ) where
  pub is-kind : get_or l.kinds p 0 ≡ k → of_kind k (token_at l p) ≡ true
  unfolding token_at
  is-kind e = eq-eqb _ _ e

  pub not-kind : (get_or l.kinds p 0 ≡ k → ⊥) → of_kind k (token_at l p) ≡ false
  unfolding token_at
  not-kind e = ne_eqb _ _ e

  pub kind-is : of_kind k (token_at l p) ≡ eqb (get_or l.kinds p 0) k
  unfolding token_at
  kind-is = refl

pub place_is : (l : Line) (p : ℕ) → (token_at l p).place ≡ p
unfolding token_at
place_is l p = refl

-- ---- the kept tokens of some places, by its first place, by its last, and in two parts

module _ (l : Line) (from to : ℕ) where
  pub kept-none : to ≤ from → kept l from to ≡ []
  unfolding kept tokens without
  kept-none h =
      let z : to - from ≡ 0 = omega arith in
      rw z

  tokens-first : from < to → tokens l from (to - from) ≡ token_at l from ∷ tokens l (from + 1) (to - (from + 1))
  unfolding tokens
  tokens-first h =
      let z : to - from ≡ suc (to - (from + 1)) = omega arith in
      rw (z, add-one from)

  pub kept-first : from < to → (get_or l.kinds from 0 ≡ attr_ref → ⊥) → kept l from to ≡ token_at l from ∷ kept l (from + 1) to
  unfolding kept without
  kept-first h e = rw (tokens-first h) (rw (not-kind l from attr_ref e))

  pub kept-skip : from < to → get_or l.kinds from 0 ≡ attr_ref → kept l from to ≡ kept l (from + 1) to
  unfolding kept without
  kept-skip h e = rw (tokens-first h) (rw (is-kind l from attr_ref e))

  pub kept-split : (m : ℕ) → from ≤ m → m ≤ to → kept l from to ≡ kept l from m ++ kept l m to
  unfolding kept
  kept-split m a b =
      let z : to - from ≡ (m - from) + (to - m) = omega arith in
      let y : from + (m - from) ≡ m = omega arith in
      let x : tokens l from (to - from) ≡ tokens l from (m - from) ++ tokens l m (to - m) = rw z (tokens-add l from (m - from) (to - m) ∙ ap (λ (n : ℕ). tokens l from (m - from) ++ tokens l n (to - m)) y) in
      ap (without is_attr_ref) x ∙ without-append is_attr_ref _ _

pub kept-one : (l : Line) (p : ℕ) → (get_or l.kinds p 0 ≡ attr_ref → ⊥) → kept l p (p + 1) ≡ token_at l p ∷ []
kept-one l p e = kept-first l p (p + 1) (omega arith) e ∙ ap (λ (x : List Token). token_at l p ∷ x) (kept-none l (p + 1) (p + 1) (omega arith))

module _ (l : Line) (from to : ℕ) (h : from < to) where
  back : (to - 1) + 1 ≡ to
  back = omega arith

  pub kept-last : (get_or l.kinds (to - 1) 0 ≡ attr_ref → ⊥) → kept l from to ≡ kept l from (to - 1) ++ (token_at l (to - 1) ∷ [])
  kept-last e =
      kept-split l from to (to - 1) (omega arith) (omega arith)
      ∙ ap (λ (x : List Token). kept l from (to - 1) ++ x) (subst (λ (n : ℕ). kept l (to - 1) n ≡ token_at l (to - 1) ∷ []) back (kept-one l (to - 1) e))

  pub kept-last-skip : get_or l.kinds (to - 1) 0 ≡ attr_ref → kept l from to ≡ kept l from (to - 1)
  kept-last-skip e =
      kept-split l from to (to - 1) (omega arith) (omega arith)
      ∙ ap (λ (x : List Token). kept l from (to - 1) ++ x) (kept-skip l (to - 1) to (omega arith) e ∙ kept-none l (to - 1 + 1) to (omega arith))
      ∙ append-nil _

-- ---- the first kept token for which p holds, found place by place

module _ (l : Line) (p : Token → Bool) (from : ℕ) where
  pub none-start : onward p (kept l from from) ≡ []
  none-start = ap (onward p) (kept-none l from from (omega arith)) ∙ onward-none p

  pub none-skip : (i : ℕ) → from ≤ i → get_or l.kinds i 0 ≡ attr_ref → onward p (kept l from i) ≡ [] → onward p (kept l from (i + 1)) ≡ []
  none-skip i h e w =
      ap (onward p) (kept-split l from (i + 1) i h (omega arith) ∙ ap (λ (x : List Token). kept l from i ++ x) (kept-skip l i (i + 1) (omega arith) e ∙ kept-none l (i + 1) (i + 1) (omega arith)))
      ∙ onward-append p (kept l from i) [] w ∙ onward-none p

  pub none_more : (i : ℕ) → from ≤ i → (get_or l.kinds i 0 ≡ attr_ref → ⊥) → p (token_at l i) ≡ false → onward p (kept l from i) ≡ [] → onward p (kept l from (i + 1)) ≡ []
  none_more i h e f w =
      ap (onward p) (kept-split l from (i + 1) i h (omega arith) ∙ ap (λ (x : List Token). kept l from i ++ x) (kept-one l i e))
      ∙ onward-append p (kept l from i) (token_at l i ∷ []) w ∙ onward-not p (token_at l i) [] f ∙ onward-none p

  module _ (to : ℕ) where
    pub found_here : (i : ℕ) → from ≤ i → i < to → (get_or l.kinds i 0 ≡ attr_ref → ⊥) → p (token_at l i) ≡ true → onward p (kept l from i) ≡ [] → FoundIn l p from to i
    found_here i h lt e f w =
        let parts : kept l from to ≡ kept l from i ++ (token_at l i ∷ kept l (i + 1) to) = kept-split l from to i h (omega arith) ∙ ap (λ (x : List Token). kept l from i ++ x) (kept-first l i to lt e) in
        record {
          before = sym (ap (up_to p) parts ∙ up_to-append p (kept l from i) (token_at l i ∷ kept l (i + 1) to) w ∙ ap (λ (x : List Token). kept l from i ++ x) (up_to-here p (token_at l i) (kept l (i + 1) to) f) ∙ append-nil (kept l from i));
          after = sym (ap (onward p) parts ∙ onward-append p (kept l from i) (token_at l i ∷ kept l (i + 1) to) w ∙ onward-here p (token_at l i) (kept l (i + 1) to) f ∙ sym (kept-first l i to lt e));
          none = w;
          kept = λ _. e;
          here = λ _. f;
        }

    pub found_none : (i : ℕ) → i ≡ to → onward p (kept l from i) ≡ [] → FoundIn l p from to i
    found_none i e w =
        let w' : onward p (kept l from to) ≡ [] = subst (λ (n : ℕ). onward p (kept l from n) ≡ []) e w in
        record {
          before = ap (kept l from) e ∙ sym (ap (up_to p) (sym (append-nil (kept l from to))) ∙ up_to-append p (kept l from to) [] w' ∙ ap (λ (x : List Token). kept l from to ++ x) (up_to-none p) ∙ append-nil (kept l from to));
          after = kept-none l i to (omega arith) ∙ sym w';
          none = w;
          kept = λ lt. absurd (omega arith);
          here = λ lt. absurd (omega arith);
        }

-- ---- trim, one token at a time

module _ (t : Token) (ts : List Token) where
  pub trim_start-space : is_whitespace t ≡ true → trim_start (t ∷ ts) ≡ trim_start ts
  unfolding trim_start
  trim_start-space e = rw e

  pub trim_start-stop : is_whitespace t ≡ false → trim_start (t ∷ ts) ≡ t ∷ ts
  unfolding trim_start
  trim_start-stop e = rw e

pub trim_end-space : (ts : List Token) (t : Token) → is_whitespace t ≡ true → trim_end (ts ++ (t ∷ [])) ≡ trim_end ts
unfolding trim_end leave
trim_end-space [] t e = rw e
trim_end-space (u ∷ us) t e = rw (trim_end-space us t e)

leave-some : (u : Token) (us : List Token) (t : Token) → leave u (us ++ (t ∷ [])) ≡ u ∷ (us ++ (t ∷ []))
unfolding leave
leave-some u [] t = refl
leave-some u (v ∷ vs) t = refl

pub trim_end-stop : (ts : List Token) (t : Token) → is_whitespace t ≡ false → trim_end (ts ++ (t ∷ [])) ≡ ts ++ (t ∷ [])
unfolding trim_end leave
trim_end-stop [] t e = rw e
trim_end-stop (u ∷ us) t e = rw (trim_end-stop us t e) (leave-some u us t)

pub trim_end-none : trim_end [] ≡ []
unfolding trim_end
trim_end-none = refl

pub trim_start-none : trim_start [] ≡ []
unfolding trim_start
trim_start-none = refl

-- ---- runs

pub run-single : (l : Line) (p n : ℕ) (ts : List Token) → ts ≡ token_at l p ∷ [] → n ≡ 1 → run_of ts ≡ run p n
unfolding run_of last_of token_at
run-single l p n ts e f =
    let z : suc (p - p) ≡ n = omega arith in
    rw (e, z)

pub run-between : (l : Line) (p q n : ℕ) (us ts : List Token) → ts ≡ token_at l p ∷ (us ++ (token_at l q ∷ [])) → n ≡ suc (q - p) → run_of ts ≡ run p n
unfolding run_of token_at
run-between l p q n us ts e f = rw (e, last_of_snoc, f)

pub run_none : (ts : List Token) → ts ≡ [] → run_of ts ≡ empty_run
unfolding run_of
run_none ts e = rw e

-- ---- some places both of whose ends are kept tokens

module _ (l : Line) (from to : ℕ) (w : Ends l.kinds from to) where
  pub kept-ends : from + 1 < to → kept l from to ≡ token_at l from ∷ (kept l (from + 1) (to - 1) ++ (token_at l (to - 1) ∷ []))
  kept-ends h =
      kept-first l from to (omega arith) (w.first (omega arith))
      ∙ ap (λ (x : List Token). token_at l from ∷ x) (kept-last l (from + 1) to h (w.last (omega arith)))

  pub kept-single : from + 1 ≡ to → kept l from to ≡ token_at l from ∷ []
  kept-single e = subst (λ (n : ℕ). kept l from n ≡ token_at l from ∷ []) e (kept-one l from (w.first (omega arith)))

  pub run_ends : from < to → run_of (kept l from to) ≡ run from (to - from)
  run_ends h = go (to - (from + 1)) refl
    where
      go : (b : ℕ) → to - (from + 1) ≡ b → run_of (kept l from to) ≡ run from (to - from)
      go zero f = run-single l from (to - from) (kept l from to) (kept-single (omega arith)) (omega arith)
      go (suc b) f = run-between l from (to - 1) (to - from) (kept l (from + 1) (to - 1)) (kept l from to) (kept-ends (omega arith)) (omega arith)

-- ---- unquote

mark-snoc : (t : Token) (us : List Token) (u : Token) → quote_mark (t ∷ (us ++ (u ∷ []))) ≡ quotes_of t u
unfolding quote_mark last_of
mark-snoc t [] u = refl
mark-snoc t (x ∷ xs) u = ap (quotes_of t) (last_of_snoc x xs u)

pub inside_snoc : (t : Token) (us : List Token) (u : Token) → inside (t ∷ (us ++ (u ∷ []))) ≡ us
unfolding inside front
inside_snoc t [] u = refl
inside_snoc t (x ∷ xs) u = front-snoc x xs u

pub unquote-quoted : (ts : List Token) → quoted ts ≡ true → unquote ts ≡ inside ts
unfolding unquote
unquote-quoted ts e = rw e

pub unquote-plain : (ts : List Token) → quoted ts ≡ false → unquote ts ≡ ts
unfolding unquote
unquote-plain ts e = rw e

mark_none : (ts : List Token) → ts ≡ [] → quote_mark ts ≡ mark.None
unfolding quote_mark
mark_none ts e = rw e

mark-one : (t : Token) (ts : List Token) → ts ≡ t ∷ [] → quote_mark ts ≡ mark.None
unfolding quote_mark
mark-one t ts e = rw e

-- quotes are taken off where the mark is not 0
pub quoted-by-mark : (ts : List Token) (m : QuoteMark) → quote_mark ts ≡ m → quoted ts ≡ not (eqb (mark_number m) 0)
unfolding quoted
quoted-by-mark ts m e = rw e

module _ (l : Line) (from to : ℕ) (w : Ends l.kinds from to) where
  pub mark-long : from + 1 < to → quote_mark (kept l from to) ≡ quotes_of (token_at l from) (token_at l (to - 1))
  mark-long h = ap quote_mark (kept-ends l from to w h) ∙ mark-snoc (token_at l from) (kept l (from + 1) (to - 1)) (token_at l (to - 1))

  pub mark-short : to ≤ from + 1 → quote_mark (kept l from to) ≡ mark.None
  mark-short h = go (to - from) refl
    where
      go : (b : ℕ) → to - from ≡ b → quote_mark (kept l from to) ≡ mark.None
      go zero e = mark_none (kept l from to) (kept-none l from to (omega arith))
      go (suc b) e = mark-one (token_at l from) (kept l from to) (kept-single l from to w (omega arith))

  pub quoted-room : quoted (kept l from to) ≡ true → from + 1 < to
  quoted-room e = go (to - (from + 1)) refl
    where
      go : (b : ℕ) → to - (from + 1) ≡ b → from + 1 < to
      go zero f =
          let s : quoted (kept l from to) ≡ false = quoted-by-mark (kept l from to) mark.None (mark-short (omega arith)) in
          absurd (suc-ne-zero 0 cc)
      go (suc b) f = omega arith

  pub unquote-ends : quoted (kept l from to) ≡ true → kept l (from + 1) (to - 1) ≡ unquote (kept l from to)
  unquote-ends e =
      sym (unquote-quoted (kept l from to) e ∙ ap inside (kept-ends l from to w (quoted-room e)) ∙ inside_snoc (token_at l from) (kept l (from + 1) (to - 1)) (token_at l (to - 1)))

-- ---- the run of some tokens less Whitespace is the run of the same tokens trimmed

leave-word : (t : Token) (ts : List Token) → is_whitespace t ≡ false → leave t ts ≡ t ∷ ts
unfolding leave
leave-word t [] e = rw e
leave-word t (u ∷ us) e = refl

leave-space : (t u : Token) (ts : List Token) → is_whitespace u ≡ true → last_of t (leave u ts) ≡ last_of t ts
unfolding leave last_of
leave-space t u [] e = rw e
leave-space t u (v ∷ vs) e = refl

last_cons : (t u : Token) (ts : List Token) → last_of t (u ∷ ts) ≡ last_of u ts
unfolding last_of
last_cons t u ts = refl

last-without : (t : Token) (ts : List Token) → last_of t (without is_whitespace ts) ≡ last_of t (trim_end ts)
unfolding without trim_end
last-without t [] = refl
last-without t (u ∷ us) = go (is_whitespace u) refl (last-without t us) (last-without u us)
  where
    go : (b : Bool) → is_whitespace u ≡ b → last_of t (without is_whitespace us) ≡ last_of t (trim_end us) → last_of u (without is_whitespace us) ≡ last_of u (trim_end us) → last_of t (cond (is_whitespace u) (without is_whitespace us) (u ∷ without is_whitespace us)) ≡ last_of t (leave u (trim_end us))
    go true e h k = rw e (h ∙ sym (leave-space t u (trim_end us) e))
    go false e h k = rw (e, leave-word u (trim_end us) e) (last_cons t u (without is_whitespace us) ∙ k ∙ sym (last_cons t u (trim_end us)))

run-cons : (t : Token) (xs ys : List Token) → last_of t xs ≡ last_of t ys → run_of (t ∷ xs) ≡ run_of (t ∷ ys)
unfolding run_of
run-cons t xs ys e = rw e

pub run-without : (ts : List Token) → run_of (without is_whitespace ts) ≡ run_of (trim ts)
unfolding trim trim_start without trim_end
run-without [] = refl
run-without (t ∷ ts) = go (is_whitespace t) refl (run-without ts)
  where
    go : (b : Bool) → is_whitespace t ≡ b → run_of (without is_whitespace ts) ≡ run_of (trim_end (trim_start ts)) → run_of (cond (is_whitespace t) (without is_whitespace ts) (t ∷ without is_whitespace ts)) ≡ run_of (trim_end (cond (is_whitespace t) (trim_start ts) (t ∷ ts)))
    go true e h = rw e h
    go false e h = rw e (run-cons t (without is_whitespace ts) (trim_end ts) (last-without t ts) ∙ ap run_of (sym (leave-word t (trim_end ts) e)))
