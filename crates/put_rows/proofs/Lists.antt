-- Groups, ids and pieces of shorthand, on lists of kept tokens.
use Prim.Native.Nat.{ℕ, ◌+◌, ◌≤◌, ◌<◌}
use native.Mathlib.Omega.{arith}
use mathlib.Core.Bool.{Bool, true, false, cond, ◌&&◌, ◌||◌}
use mathlib.Core.Path.{◌≡◌, refl, ap, ◌∙◌}
use mathlib.Core.List.{List, [], ◌∷◌, ◌++◌}
use lib.ListN.{get_or}
use Rattle.token.specs.declared.Run.{Run}
use Rattle.token.specs.declared.quotes.QuoteMark.TheVariants as mark
use Rattle.token.specs.Kind.{attr_ref}
use Rattle.token.specs.Line.{Line, Token, token_at}
use Rattle.runs.specs.Run.{kept, is_hash, is_percent, up_to, onward, trim, run_of}
use Rattle.runs.specs.Places.{FoundIn}
use Rattle.runs.proofs.KeptLaws.{onward-later, place_is, kept-none, kept-first, kept-split}
use Rattle.row.specs.declared.Row.{Row}
use Rattle.row.specs.declared.tag.Tag.TheVariants as tag
use Rattle.row.specs.Tag.{tag_number}
use Rattle.row.specs.Row.{one_run, ident, role, option, diagnostic}
use Rattle.put_rows.specs.Rows.{one_row, row_first, is_stop, pieces, symbol_row, symbol_tag, last_empty, shorthand_read, later_groups, groups, unless_empty, group_rows}

-- ---- groups

pub later_groups-append : (p : Token → Bool) (xs ys : List Token) → onward p xs ≡ [] → later_groups p (xs ++ ys) ≡ later_groups p ys
unfolding later_groups
later_groups-append p [] ys e = refl
later_groups-append p (x ∷ xs) ys e = rw (onward-later p x xs e).0 (later_groups-append p xs ys (onward-later p x xs e).1)

later_groups-here : (p : Token → Bool) (t : Token) (ts : List Token) → p t ≡ true → later_groups p (t ∷ ts) ≡ groups p ts
unfolding later_groups groups
later_groups-here p t ts e = rw e

later_groups-none : (p : Token → Bool) → later_groups p [] ≡ []
unfolding later_groups
later_groups-none p = refl

module _ (l : Line) (p : Token → Bool) (i to m : ℕ) (low : i ≤ m) (high : m ≤ to) (w : FoundIn l p i to m) where
  later : later_groups p (kept l i to) ≡ later_groups p (kept l m to)
  later = ap (later_groups p) (kept-split l i to m low high) ∙ later_groups-append p (kept l i m) (kept l m to) w.none

  pub groups-next : m < to → groups p (kept l i to) ≡ kept l i m ∷ groups p (kept l (m + 1) to)
  unfolding groups
  groups-next h =
      rw (← w.before) (ap (λ (gs : List (List Token)). kept l i m ∷ gs)
      (later ∙ ap (later_groups p) (kept-first l m to h (w.kept h)) ∙ later_groups-here p (token_at l m) (kept l (m + 1) to) (w.here h)))

  pub groups-last : to ≤ m → groups p (kept l i to) ≡ kept l i m ∷ []
  unfolding groups
  groups-last h = rw (← w.before) (ap (λ (gs : List (List Token)). kept l i m ∷ gs) (later ∙ ap (later_groups p) (kept-none l m to h) ∙ later_groups-none p))

pub unless-append : (f : Run → Row) (ts : List Token) (rest : List Row) → unless_empty f ts rest ≡ unless_empty f ts [] ++ rest
unless-append f [] rest = refl
unless-append f (t ∷ ts) rest = refl

pub group_rows-first : (f : Run → Row) (g : List Token) (gs : List (List Token)) → group_rows f (g ∷ gs) ≡ unless_empty f (trim g) [] ++ group_rows f gs
unfolding group_rows
group_rows-first f g gs = unless-append f (trim g) (group_rows f gs)

pub group_rows-last : (f : Run → Row) (g : List Token) → group_rows f (g ∷ []) ≡ unless_empty f (trim g) []
unfolding group_rows
group_rows-last f g = refl

pub unless-none : (f : Run → Row) (ts : List Token) → ts ≡ [] → unless_empty f ts [] ≡ []
unless-none f ts e = rw e

-- ---- ids

pub run-count : (ts : List Token) → (run_of ts).count ≡ 0 → ts ≡ []
unfolding run_of
run-count [] e = refl
run-count (t ∷ ts) e = absurd (omega (arith, e))

-- ---- shorthand

pub pieces-append : (xs ys : List Token) → onward is_stop xs ≡ [] → pieces (xs ++ ys) ≡ pieces ys
unfolding pieces
pieces-append [] ys e = refl
pieces-append (x ∷ xs) ys e = rw (onward-later is_stop x xs e).0 (pieces-append xs ys (onward-later is_stop x xs e).1)

pieces-stop : (t : Token) (ts : List Token) → is_stop t ≡ true → pieces (t ∷ ts) ≡ record { symbol = t; taken = up_to is_stop ts } ∷ pieces ts
unfolding pieces
pieces-stop t ts e = rw e

last-empty-none : (ts : List Token) → ts ≡ [] → last_empty (up_to is_stop ts) (pieces ts) ≡ true
unfolding up_to pieces
last-empty-none ts e = rw e

last-empty-some : (ts : List Token) (t : Token) (us : List Token) → ts ≡ t ∷ us → last_empty (up_to is_stop ts) (pieces ts) ≡ false
unfolding up_to pieces
last-empty-some ts t us e = rw e (go (is_stop t))
  where
    go : (b : Bool) → last_empty (cond b [] (t ∷ up_to is_stop us)) (cond b (record { symbol = t; taken = up_to is_stop us } ∷ pieces us) (pieces us)) ≡ false
    go true = refl
    go false = refl

pub symbol-row : (t : Token) (r : Run) → symbol_row t r ≡ one_run (tag_number (symbol_tag t.kind)) r
symbol-row t r = go (is_hash t) (is_percent t)
  where
    go : (a b : Bool) → cond a (ident r mark.None) (cond b (option r) (role r)) ≡ one_run (tag_number (cond a tag.Id (cond b tag.Option tag.Role))) r
    go true b = refl
    go false true = refl
    go false false = refl

module _ (l : Line) (i to start : ℕ) (h : i < to) (e : get_or l.kinds i 0 ≡ attr_ref → ⊥) (f : is_stop (token_at l i) ≡ true) (same : kept l start to ≡ kept l (i + 1) to) (has : Bool) where
  pieces-here : pieces (kept l i to) ≡ record { symbol = token_at l i; taken = up_to is_stop (kept l start to) } ∷ pieces (kept l start to)
  pieces-here = ap pieces (kept-first l i to h e) ∙ pieces-stop (token_at l i) (kept l (i + 1) to) f ∙ rw same

  pub short-last : to ≤ start → shorthand_read has (pieces (kept l i to)) ≡ one_row has (diagnostic i 1)
  unfolding shorthand_read
  short-last g = rw (pieces-here, last-empty-none (kept l start to) (kept-none l start to g), place_is l i)

  module _ (g : start < to) (k : get_or l.kinds start 0 ≡ attr_ref → ⊥) where
    pub short-second : (is_hash (token_at l i) && has) ≡ true → shorthand_read has (pieces (kept l i to)) ≡ one_row has (diagnostic i 4)
    unfolding shorthand_read
    short-second z = rw (pieces-here, last-empty-some (kept l start to) (token_at l start) (kept l (start + 1) to) (kept-first l start to g k), z, place_is l i)

    pub short-more : (is_hash (token_at l i) && has) ≡ false → (m : ℕ) → start ≤ m → m ≤ to → FoundIn l is_stop start to m → shorthand_read has (pieces (kept l i to)) ≡ row_first (one_run (tag_number (symbol_tag (token_at l i).kind)) (run_of (kept l start m))) (shorthand_read (is_hash (token_at l i) || has) (pieces (kept l m to)))
    unfolding shorthand_read
    short-more z m a b w =
        let rest : pieces (kept l start to) ≡ pieces (kept l m to) = ap pieces (kept-split l start to m a b) ∙ pieces-append (kept l start m) (kept l m to) w.none in
        rw (pieces-here, last-empty-some (kept l start to) (token_at l start) (kept l (start + 1) to) (kept-first l start to g k), z, ← w.before, rest)
        (ap (λ (r : Row). row_first r (shorthand_read (is_hash (token_at l i) || has) (pieces (kept l m to)))) (symbol-row (token_at l i) (run_of (kept l start m))))

pub short_none : (has : Bool) (ts : List Token) → ts ≡ [] → shorthand_read has (pieces ts) ≡ record { rows = []; has_id = has }
unfolding shorthand_read pieces
short_none has ts e = rw e
