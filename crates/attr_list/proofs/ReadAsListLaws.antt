-- Every line that is read as a list is read as specs/ReadAsList.antt says.
use Rattle.std.specs.Prelude.{ℕ, zero, suc, ◌+◌, ◌*◌, ◌≤◌, ◌<◌, Bool, true, cond, not, ◌≡◌, eqb, length}
use Rattle.std.proofs.Common.{arith, sym, ◌∙◌, inl, inr, eq-eqb, ne_eqb, leb-true}
use Rattle.std.proofs.Math.Decide.{ℕ_discrete}
use Rattle.std.proofs.Math.Bool.{false}
use Rattle.std.proofs.Math.Path.{refl, ap, subst}
use mathlib.Core.List.{List, []}
use Rattle.std.proofs.lemmas.Bool.{eqb-false}
use Rattle.refusals.specs.Refusals.{rows_too_short, no_closing_bracket}
use Rattle.token.specs.Kind.{close_bracket, kind_at}
use Rattle.token.specs.Line.{Line, check, refusal}
use Rattle.row.specs.Row.{width, room_for, with_rows}
use Rattle.delimiters.specs.Divide as divide
use Rattle.delimiters.specs.Delimit as delimit
use Rattle.delimiters.proofs.CountLaws.{counts, count-first}
use Rattle.delimiters.proofs.DivideLaws.{divided, rejoined-none, attributes-none}
use Rattle.std.specs.Prelude.{Option, Some, None}
use Rattle.token.specs.declared.TokenPlace.{TokenPlace}
use Rattle.closing.specs.declared.LinkMacro.{LinkMacro}
use Rattle.closing.specs.declared.LinkMacro.TheVariants.{AsList, AsText}
use Rattle.closing.specs.Closing.{closing}
use Rattle.closing.specs.Link.{link_macro}
use Rattle.closing.proofs.ClosingLaws.{Closed, closing-closes, closes-bracket}
use Rattle.attr_list.specs.declared.entries.Entry.{Entry}
use Rattle.attr_list.specs.declared.entries.Entry.TheVariants.{Block, BlockMacro, Inline, Link}
use Rattle.attr_list.specs.Entry.{is_block, full_line}
use Rattle.list_rows.specs.ListRows.{rows_from, list_rows}
use Rattle.attr_list.specs.Reading.{Reading, refused, gives, answer_of, buffer_of, list_to, link_to, read_by, unless_closed, lent_refusal, unless_refused, reading}
use Rattle.attr_list.specs.ReadAsList.{TakenAsList, ClosedAt, ReadAsList}
use Rattle.attr_list.specs.Outcome.{WhenReadAsList}
use Rattle.token.proofs.LineLaws.{check-none}
use Rattle.list_rows.proofs.ListRowsLaws.{list-few}
use Rattle.attr_list.proofs.Laws.{bracket-closes, rows-in-front, others-after}

-- ---- a line that 1 to 7 do not refuse has a token, and its buffer has room

not-no : (b : Bool) → not b ≡ false → b ≡ true
not-no true e = refl
not-no false e = sym e

pub record Accepts (most : ℕ) (l : Line) (room : ℕ) : Type 0 where
  pub line : refusal most l ≡ 0
  pub fits : width * length l.kinds ≤ room

pub accepts : (most : ℕ) (l : Line) (room : ℕ) → lent_refusal most l room ≡ 0 → Accepts most l room
unfolding lent_refusal
accepts most l room e = go (refusal most l) refl e
  where
    go : (n : ℕ) → refusal most l ≡ n → check (not (eqb n 0)) n (check (not (room_for (length l.kinds) room)) rows_too_short 0) ≡ 0 → Accepts most l room
    go zero f g =
        record {
          line = f;
          fits = leb-true (width * length l.kinds) room (not-no (room_for (length l.kinds) room) (check-none (not (room_for (length l.kinds) room)) rows_too_short 0 (omega arith) g).0);
        }
    go (suc n) f g =
        let b : eqb (suc n) 0 ≡ false = ne_eqb (suc n) 0 (λ e. omega arith) in
        let z : suc n ≡ 0 = subst (λ (x : Bool). check (not x) (suc n) (check (not (room_for (length l.kinds) room)) rows_too_short 0) ≡ 0) b g in
        absurd (omega arith)

pub accepts-some : (most : ℕ) (l : Line) (room : ℕ) → Accepts most l room → 0 < length l.kinds
unfolding refusal
accepts-some most l room w = go (length l.kinds) refl
  where
    go : (n : ℕ) → length l.kinds ≡ n → 0 < length l.kinds
    go zero e = absurd (eqb-false (length l.kinds) 0 (check-none (eqb (length l.kinds) 0) 1 _ (omega arith) w.line).0 e)
    go (suc n) e = omega arith

-- ---- a list

module _ (most : ℕ) (l : Line) (given : List ℕ) (z : lent_refusal most l (length given) ≡ 0) where
  room : width * length l.kinds ≤ length given
  room = (accepts most l (length given) z).fits

  some : 0 < length l.kinds
  some = accepts-some most l (length given) (accepts most l (length given) z)

  list_read : (e : Entry) (end : ℕ) → TakenAsList e l → ClosedAt e l.kinds end → divide.Closes l.kinds end → ReadAsList most e l given (length (list_rows l (is_block e) end)) (end + 1) (delimit.rejoined l.kinds) (with_rows given 0 (list_rows l (is_block e) end))
  list_read e end t b w =
      let d = divided l.kinds end w in
      let c = counts l.kinds in
      let fits : width * length (list_rows l (is_block e) end) ≤ length given = omega (arith, list-few l (is_block e) end d.within, b.among, room) in
      record {
        accepted = z;
        taken = t;
        end = end;
        closes = b;
        consumed_through = refl;
        not_the_last = c.within;
        no_bracket = c.none_closes;
        count_ends = c.ends;
        before_the_bracket = d.within;
        only_commas = d.only_commas;
        in_order = d.in_order;
        taken_back = d.taken_back;
        outside = d.outside;
        inside = d.inside;
        attributes = delimit.attributes l.kinds end;
        attribute_count = d.how-many;
        follow = d.follow;
        each_once = d.each_once;
        row_count = refl;
        numbers = rows-in-front given (list_rows l (is_block e) end) fits;
        others = others-after given (list_rows l (is_block e) end) fits;
      }

  -- an empty list
  empty-read : (e : Entry) → TakenAsList e l → kind_at l.kinds 0 ≡ close_bracket → ReadAsList most e l given 0 1 0 (with_rows given 0 [])
  unfolding rows_from
  empty-read e t f =
      let none : list_rows l (is_block e) 0 ≡ [] = ap (λ ss. (rows_from l (is_block e) false ss).rows) (attributes-none l.kinds 0 (count-first l.kinds f)) in
      subst (λ (b : ℕ). ReadAsList most e l given 0 1 b (with_rows given 0 [])) (rejoined-none l.kinds (count-first l.kinds f))
      (subst (λ rs. ReadAsList most e l given (length rs) 1 (delimit.rejoined l.kinds) (with_rows given 0 rs)) none
      (list_read e 0 t (record { among = some; bracket = f; first = λ g. refl; rule = λ g. absurd (g f) }) (record { bracket = f; first = λ g. refl })))

  -- ---- what an entry gives

  abbrev Right : Entry → Reading → Type 0
  Right e r = WhenReadAsList most e l given (answer_of r) (buffer_of given r)

  right-list : (e : Entry) (c : Option TokenPlace) → (kind_at l.kinds 0 ≡ close_bracket → ⊥) → Closed l.kinds (full_line e) c → Right e (list_to l (is_block e) c)
  right-list e (Some end) h w =
      let b = closes-bracket l.kinds some (full_line e) end.0 w in
      λ t. list_read e end.0 t (record { among = b.among; bracket = b.bracket; first = λ f. absurd (h f); rule = λ f. w }) (bracket-closes l.kinds h end.0 b)
  right-list e None h w = tt

  right-text : (b : Bool) (r : Reading) → (TakenAsList Link l → ⊥) → Right Link (cond b r (refused no_closing_bracket))
  right-text true (refused n) h = tt
  right-text true (gives rows consumed rejoined) h = λ t. absurd (h t)
  right-text false r h = tt

  -- a link that begins with no CloseBracket and holds text is not taken as a list
  not-a-list : (end : Rattle.token.specs.declared.TokenPlace.TokenPlace) → link_macro l.kinds l.pairs ≡ AsText end → (kind_at l.kinds 0 ≡ close_bracket → ⊥) → TakenAsList Link l → ⊥
  not-a-list end e h (inl f) = h f
  not-a-list end e h (inr f) = let z : ◌≡◌ {A = ℕ} 0 1 = ap told (sym e ∙ f) in omega arith
    where
      told : LinkMacro → ℕ
      told AsList = 1
      told (AsText p) = 0

  right-link : (m : LinkMacro) → link_macro l.kinds l.pairs ≡ m → (kind_at l.kinds 0 ≡ close_bracket → ⊥) → Right Link (link_to l m)
  right-link AsList e h = right-list Link (closing false l.kinds) h (closing-closes l.kinds some false)
  right-link (AsText end) e h = right-text (eqb (kind_at l.kinds end.0) close_bracket) _ (not-a-list end e h)

  right_by : (e : Entry) → (kind_at l.kinds 0 ≡ close_bracket → ⊥) → Right e (read_by e l)
  right_by Block h = right-list Block (closing true l.kinds) h (closing-closes l.kinds some true)
  right_by BlockMacro h = right-list BlockMacro (closing true l.kinds) h (closing-closes l.kinds some true)
  right_by Inline h = right-list Inline (closing false l.kinds) h (closing-closes l.kinds some false)
  right_by Link h = right-link (link_macro l.kinds l.pairs) refl h

  right-closed : (e : Entry) → Right e (unless_closed l.kinds (read_by e l))
  right-closed e = go (ℕ_discrete (kind_at l.kinds 0) close_bracket)
    where
      go : Dec (kind_at l.kinds 0 ≡ close_bracket) → Right e (unless_closed l.kinds (read_by e l))
      go (yes f) = subst (λ (b : Bool). Right e (cond b (gives [] 1 0) (read_by e l))) (sym (eq-eqb (kind_at l.kinds 0) close_bracket f)) (λ t. empty-read e t f)
      go (no f) = subst (λ (b : Bool). Right e (cond b (gives [] 1 0) (read_by e l))) (sym (ne_eqb (kind_at l.kinds 0) close_bracket f)) (right_by e f)

-- whatever the entry, the limit, the line and the buffer: where the line is read as a list the record holds of the answer and of the buffer on return
pub read-as-list : (most : ℕ) (e : Entry) (l : Line) (given : List ℕ) → WhenReadAsList most e l given (answer_of (reading most e l (length given))) (buffer_of given (reading most e l (length given)))
unfolding reading
read-as-list most e l given = go (lent_refusal most l (length given)) refl
  where
    go : (n : ℕ) → lent_refusal most l (length given) ≡ n → WhenReadAsList most e l given (answer_of (unless_refused n (unless_closed l.kinds (read_by e l)))) (buffer_of given (unless_refused n (unless_closed l.kinds (read_by e l))))
    go zero z = right-closed most l given z e
    go (suc n) z = tt

-- ---- what a link is read as where it is not taken as a list: text, which is one row, with no comma taken back

abbrev OneRow : Reading → Type 0
OneRow (refused n) = Unit {0}
OneRow (gives rows consumed rejoined) = (length rows ≡ 1) × (rejoined ≡ 0)

text-row : (b : Bool) (r : Reading) → OneRow r → OneRow (cond b r (refused no_closing_bracket))
text-row true r w = w
text-row false r w = tt

pub not_taken : (l : Line) → (TakenAsList Link l → ⊥) → OneRow (unless_closed l.kinds (read_by Link l))
not_taken l h = go (ℕ_discrete (kind_at l.kinds 0) close_bracket) (link_macro l.kinds l.pairs) refl
  where
    by : (m : LinkMacro) → link_macro l.kinds l.pairs ≡ m → OneRow (link_to l m)
    by AsList e = absurd (h (inr e))
    by (AsText end) e = text-row (eqb (kind_at l.kinds end.0) close_bracket) _ (refl, refl)

    go : Dec (kind_at l.kinds 0 ≡ close_bracket) → (m : LinkMacro) → link_macro l.kinds l.pairs ≡ m → OneRow (unless_closed l.kinds (read_by Link l))
    go (yes f) m e = absurd (h (inl f))
    go (no f) m e =
        subst (λ (b : Bool). OneRow (cond b (gives [] 1 0) (read_by Link l))) (sym (ne_eqb (kind_at l.kinds 0) close_bracket f))
        (subst (λ (x : LinkMacro). OneRow (link_to l x)) (sym e) (by m e))
