-- What each way through the readers gives is what the definitions give.
use Prim.Native.Nat.{ℕ, zero, suc, ◌+◌, ◌*◌, ◌-◌, ◌≤◌, ◌<◌}
use native.Mathlib.Omega.{arith}
use mathlib.Core.Bool.{Bool, true, false, cond}
use mathlib.Core.Path.{◌≡◌, refl, sym, ap, subst, ◌∙◌}
use mathlib.Core.List.{List, [], ◌∷◌}
use lib.ListN.{length}
use Rattle.std.specs.Prelude.{Option, Some, None}
use lib.Seq.{sets}
use borrow.Author.Tests.{eq-eqb, ne_eqb}
use Rattle.token.specs.declared.TokenPlace.{TokenPlace}
use Rattle.token.specs.declared.quotes.Unquoted.{Unquoted}
use Rattle.refusals.specs.declared.Refusal.{Refusal}
use Rattle.refusals.specs.Numbered.{number_of}
use Rattle.refusals.specs.Refusals.{rows_too_short, no_closing_bracket}
use Rattle.refusals.proofs.Laws.{number-some}
use Rattle.token.specs.Kind.{close_bracket, kind_at}
use Rattle.token.specs.Line.{Line, line_of, refusal}
use Rattle.runs.specs.Run.{kept, quote_mark, unquote, unquoted, run_of}
use Rattle.row.specs.declared.Row.{Row}
use Rattle.row.specs.Row.{width, numbers, all_numbers, positional, room_for, with_rows, Wrote}
use Rattle.row.proofs.Laws.{wrote_one}
use Rattle.delimiters.specs.Delimit.{dividing, rejoined, parted}
use Rattle.delimiters.specs.Divide.{Ascending}
use Rattle.delimiters.proofs.CountLaws.{bracket-past}
use Rattle.delimiters.proofs.DivideLaws.{dividing-ascend-to, attributes-some}
use Rattle.closing.specs.declared.LinkMacro.{LinkMacro}
use Rattle.closing.specs.declared.LinkMacro.TheVariants.{AsText}
use Rattle.closing.specs.Link.{holds_of, link_macro}
use Rattle.closing.specs.Closing.{numbers_of, closing}
use Rattle.closing.proofs.Laws.{same_case}
use Rattle.closing.proofs.ClosingLaws.{IsBracket, Closed, closing-closes, closes-bracket}
use Rattle.closing.proofs.LinkLaws.{Within, link-within, same-link}
use Rattle.attr_list.specs.declared.entries.Entry.{Entry}
use Rattle.attr_list.specs.declared.entries.Entry.TheVariants.{Block, BlockMacro, Inline, Link}
use Rattle.attr_list.specs.Entry.{is_block, full_line}
use Rattle.attr_list.specs.Answer.{Answer, Refused, Read}
use Rattle.list_rows.specs.ListRows.{parted_rows, list_rows, rows_from}
use Rattle.attr_list.specs.Reading.{Reading, refused, gives, answer_of, Gives, list_to, list_of, text_to, link_to, read_by, unless_closed, lent_refusal, unless_refused, reading}
use Rattle.attr_list.specs.Outcome.{Outcome, WhenReadAsList}
use Rattle.attr_list.proofs.Laws.{bracket-some}
use Rattle.attr_list.proofs.ReadAsListLaws.{read-as-list}

pub gives_as : (given : List ℕ) (r s : Reading) (a : Answer) (left : List ℕ) → Gives given r a left → r ≡ s → Gives given s a left
gives_as given r s a left w e = subst (λ (x : Reading). Gives given x a left) e w

pub gives-refused : (given : List ℕ) (n : ℕ) → Gives given (refused n) (Refused n) given
gives-refused given n = record { answer = refl; buffer = refl }

pub gives_none : (given : List ℕ) (consumed : ℕ) → Gives given (gives [] consumed 0) (Read 0 consumed 0) given
unfolding with_rows all_numbers
gives_none given consumed = record { answer = refl; buffer = refl }

-- ---- 1 to 7

module _ (most : ℕ) (l : Line) (room : ℕ) where
  pub refused-line : (n : ℕ) → n ≡ refusal most l → (n ≡ 0 → ⊥) → n ≡ lent_refusal most l room
  unfolding lent_refusal
  refused-line n e h = rw (← e, ne_eqb n 0 h)

  pub refused-room : (n : ℕ) → n ≡ refusal most l → n ≡ 0 → room_for (length l.kinds) room ≡ false → rows_too_short ≡ lent_refusal most l room
  unfolding lent_refusal
  refused-room n e z f = rw (sym e ∙ z, f)

  pub refused_none : refusal most l ≡ 0 → room_for (length l.kinds) room ≡ true → 0 ≡ lent_refusal most l room
  unfolding lent_refusal
  refused_none z f = rw (z, f)

  -- what is read where none of them refuses
  module _ (entry : Entry) where
    pub read-refused : (n : ℕ) → n ≡ lent_refusal most l room → (n ≡ 0 → ⊥) → refused n ≡ reading most entry l room
    unfolding reading
    read-refused n e h = go n h e
      where
        go : (n : ℕ) → (n ≡ 0 → ⊥) → n ≡ lent_refusal most l room → refused n ≡ unless_refused (lent_refusal most l room) (unless_closed l.kinds (read_by entry l))
        go zero h e = absurd (h refl)
        go (suc n) h e = ap (λ (x : ℕ). unless_refused x (unless_closed l.kinds (read_by entry l))) e

    pub read_taken : 0 ≡ lent_refusal most l room → unless_closed l.kinds (read_by entry l) ≡ reading most entry l room
    unfolding reading
    read_taken z = ap (λ (x : ℕ). unless_refused x (unless_closed l.kinds (read_by entry l))) z

-- ---- an entry: what it gives is its outcome, demand 3 included

module _ (most : ℕ) (e : Entry) (l : Line) (given : List ℕ) where
  pub gives-outcome : (a : Answer) (left : List ℕ) → Gives given (reading most e l (length given)) a left → Outcome most e l given a left
  gives-outcome a left w =
      record {
        answer = w.answer;
        buffer = w.buffer;
        list = subst (λ (x : Answer). WhenReadAsList most e l given x left) (sym w.answer)
            (subst (WhenReadAsList most e l given (answer_of (reading most e l (length given)))) (sym w.buffer) (read-as-list most e l given));
      }

  -- 1 to 7 refuse
  pub outcome-refused : (n : ℕ) → n ≡ lent_refusal most l (length given) → (n ≡ 0 → ⊥) → Outcome most e l given (Refused n) given
  outcome-refused n is h =
      gives-outcome (Refused n) given (gives_as given (refused n) _ (Refused n) given (gives-refused given n) (read-refused most l (length given) e n is h))

  -- 1 to 6 refuse the line, 7 the buffer
  pub outcome-line : (r : Refusal) → number_of r ≡ refusal most l → Outcome most e l given (Refused (number_of r)) given
  outcome-line r is =
      let h : number_of r ≡ 0 → ⊥ = λ z. omega (arith, number-some r, z) in
      outcome-refused (number_of r) (refused-line most l (length given) (number_of r) is h) h

  pub outcome-room : refusal most l ≡ 0 → room_for (length l.kinds) (length given) ≡ false → Outcome most e l given (Refused rows_too_short) given
  outcome-room z f = outcome-refused rows_too_short (refused-room most l (length given) 0 (sym z) refl f) (λ e. omega (arith, e))

  -- none of them does
  pub outcome-read : 0 ≡ lent_refusal most l (length given) → (a : Answer) (left : List ℕ) → Gives given (unless_closed l.kinds (read_by e l)) a left → Outcome most e l given a left
  outcome-read z a left w = gives-outcome a left (gives_as given _ _ a left w (read_taken most l (length given) e z))

  -- the same by the checks of the line and of the buffer
  pub outcome-taken : refusal most l ≡ 0 → room_for (length l.kinds) (length given) ≡ true → (a : Answer) (left : List ℕ) → Gives given (unless_closed l.kinds (read_by e l)) a left → Outcome most e l given a left
  outcome-taken z f = outcome-read (refused_none most l (length given) z f)

-- ---- an entry that is no link reads a list

pub list-entry : (e : Entry) (l : Line) → (e ≡ Link → ⊥) → list_of l (full_line e) (is_block e) ≡ read_by e l
list-entry Block l h = refl
list-entry BlockMacro l h = refl
list-entry Inline l h = refl
list-entry Link l h = absurd (h refl)

-- ---- a line whose first token is CloseBracket, and any other

pub closed-gives : (kinds : List ℕ) (r : Reading) (given : List ℕ) → kind_at kinds 0 ≡ close_bracket → (a : Answer) → a ≡ answer_of (gives [] 1 0) → Gives given (unless_closed kinds r) a given
closed-gives kinds r given e a is =
    gives_as given (gives [] 1 0) (unless_closed kinds r) a given (record { answer = is; buffer = (gives_none given 1).buffer })
    (ap (λ (b : Bool). cond b (gives [] 1 0) r) (sym (eq-eqb (kind_at kinds 0) close_bracket e)))

pub open_is : (kinds : List ℕ) (r : Reading) → (kind_at kinds 0 ≡ close_bracket → ⊥) → r ≡ unless_closed kinds r
open_is kinds r h = ap (λ (b : Bool). cond b (gives [] 1 0) r) (sym (ne_eqb (kind_at kinds 0) close_bracket h))

pub open_gives : (kinds : List ℕ) (r : Reading) (given : List ℕ) → (kind_at kinds 0 ≡ close_bracket → ⊥) → (a : Answer) (left : List ℕ) → Gives given r a left → Gives given (unless_closed kinds r) a left
open_gives kinds r given h a left w = gives_as given r (unless_closed kinds r) a left w (open_is kinds r h)

-- what is read of such a line m, the line l that was lent, where it is refused by none of 1 to 7
module _ (most : ℕ) (e : Entry) (l m : Line) (given : List ℕ) (z : refusal most l ≡ 0) (f : room_for (length l.kinds) (length given) ≡ true) (h : kind_at l.kinds 0 ≡ close_bracket → ⊥) (same : m ≡ l) (a : Answer) (left : List ℕ) where
  pub outcome-list : (e ≡ Link → ⊥) → Gives given (list_of m (full_line e) (is_block e)) a left → Outcome most e l given a left
  outcome-list n w =
      outcome-taken most e l given z f a left
      (open_gives l.kinds (read_by e l) given h a left
      (gives_as given _ _ a left (subst (λ (x : Line). Gives given (list_of x (full_line e) (is_block e)) a left) same w) (list-entry e l n)))

  pub outcome-link : e ≡ Link → Gives given (link_to m (link_macro m.kinds m.pairs)) a left → Outcome most e l given a left
  outcome-link is w =
      outcome-taken most e l given z f a left
      (open_gives l.kinds (read_by e l) given h a left
      (subst (λ (x : Entry). Gives given (read_by x l) a left) (sym is)
      (subst (λ (x : Line). Gives given (link_to x (link_macro x.kinds x.pairs)) a left) same w)))

-- ---- a list

module _ (kinds : List ℕ) (full : Bool) (c : Option TokenPlace) (told : numbers_of c ≡ numbers_of (closing full kinds)) where
  is : c ≡ closing full kinds
  is = same_case c (closing full kinds) told

  pub end_is : 0 < length kinds → (end : TokenPlace) → c ≡ Some end → IsBracket kinds end.0
  end_is some end e = closes-bracket kinds some full end.0 (subst (Closed kinds full) (sym is ∙ e) (closing-closes kinds some full))

  pub list-nowhere : (text pairs : List ℕ) (block : Bool) (given : List ℕ) → c ≡ None → Gives given (list_of (line_of kinds text pairs) full block) (Refused no_closing_bracket) given
  list-nowhere text pairs block given e = gives_as given (refused no_closing_bracket) _ (Refused no_closing_bracket) given (gives-refused given no_closing_bracket) (ap (list_to (line_of kinds text pairs) block) (sym e ∙ is))

  module _ (some : 0 < length kinds) (end : TokenPlace) (e : c ≡ Some end) (cs : List ℕ) (same : cs ≡ dividing kinds) where
    pub list-commas : Ascending 0 cs end.0
    list-commas =
        subst (λ (ps : List ℕ). Ascending 0 ps end.0) (sym same)
        (dividing-ascend-to kinds end.0 (bracket-past kinds end.0 (end_is some end e).bracket))

    pub list-gives : (text pairs : List ℕ) → (kind_at kinds 0 ≡ close_bracket → ⊥) → (block : Bool) (given left : List ℕ) (r b : ℕ) → Wrote given 0 (parted_rows (line_of kinds text pairs) block cs end.0) left r → b ≡ rejoined kinds → Gives given (list_of (line_of kinds text pairs) full block) (Read r (end.0 + 1) b) left
    list-gives text pairs h block given left r b w back =
        let parts : parted 0 cs end.0 ≡ Rattle.delimiters.specs.Delimit.attributes kinds end.0 = ap (λ (ps : List ℕ). parted 0 ps end.0) same ∙ sym (attributes-some kinds end.0 (bracket-some kinds h end.0 (end_is some end e))) in
        let rows : parted_rows (line_of kinds text pairs) block cs end.0 ≡ list_rows (line_of kinds text pairs) block end.0 = ap (λ ss. (rows_from (line_of kinds text pairs) block false ss).rows) parts in
        let count : r ≡ length (parted_rows (line_of kinds text pairs) block cs end.0) = omega (arith, w.count) in
        let answer : Read r (end.0 + 1) b ≡ Read (length (list_rows (line_of kinds text pairs) block end.0)) (end.0 + 1) (rejoined kinds) = ap (λ (m : ℕ). Read m (end.0 + 1) b) (count ∙ ap length rows) ∙ ap (Read (length (list_rows (line_of kinds text pairs) block end.0)) (end.0 + 1)) back in
        gives_as given (gives (list_rows (line_of kinds text pairs) block end.0) (end.0 + 1) (rejoined kinds)) _ (Read r (end.0 + 1) b) left
        (record { answer = answer; buffer = w.buffer ∙ ap (with_rows given 0) rows })
        (ap (list_to (line_of kinds text pairs) block) (sym e ∙ is))

-- ---- a link

-- its text

pub text-among : (kinds pairs : List ℕ) (m : LinkMacro) → holds_of m ≡ holds_of (link_macro kinds pairs) → 0 < length kinds → (end : TokenPlace) → m ≡ AsText end → end.0 < length kinds
text-among kinds pairs m is some end e =
    let w : end.0 ≤ length kinds - 1 = subst (Within (length kinds - 1)) (sym (same-link m (link_macro kinds pairs) is) ∙ e) (link-within kinds pairs) in
    omega arith

module _ (kinds text pairs : List ℕ) (end : ℕ) (given : List ℕ) where
  pub text-gives : kind_at kinds end ≡ close_bracket → (t : Unquoted) (row : Row) (left : List ℕ) → row ≡ positional t.run t.mark → t ≡ unquoted (kept (line_of kinds text pairs) 0 end) → left ≡ sets given (width * 0) (numbers row) → Gives given (text_to (line_of kinds text pairs) end) (Read 1 (end + 1) 0) left
  text-gives h t row left e f fills =
      let ts = kept (line_of kinds text pairs) 0 end in
      let only = positional (run_of (unquote ts)) (quote_mark ts) in
      let same : row ≡ only = e ∙ ap (λ (u : Unquoted). positional u.run u.mark) f in
      gives_as given (gives (only ∷ []) (end + 1) 0) _ (Read 1 (end + 1) 0) left
      (record { answer = refl; buffer = fills ∙ ap (λ (x : Row). sets given (width * 0) (numbers x)) same ∙ (wrote_one given 0 only).buffer })
      (sym (ap (λ (b : Bool). cond b (gives (only ∷ []) (end + 1) 0) (refused no_closing_bracket)) (eq-eqb (kind_at kinds end) close_bracket h)))
