-- The statement of demand 3 leaves one answer: rows, tokens consumed, commas taken back and a buffer on return that satisfy it, for an entry, a line
-- and a buffer given, are the ones that the equations give.
use Rattle.std.specs.Prelude.{ℕ, ◌+◌, ◌*◌, ◌≤◌, Bool, cond, ◌≡◌, refl, List, [], ◌++◌, length, take, drop}
use Rattle.std.proofs.Common.{arith, sym, ◌∙◌, inl, inr, take-append-drop, eq-eqb, ne_eqb}
use Rattle.std.proofs.Math.Decide.{ℕ_discrete}
use Rattle.std.proofs.Math.Bool.{false}
use Rattle.std.proofs.Math.Path.{ap, subst}
use Rattle.token.specs.Kind.{close_bracket, kind_at}
use Rattle.token.specs.Line.{Line}
use Rattle.row.specs.declared.Row.{Row}
use Rattle.row.specs.Row.{width, all_numbers, with_rows}
use Rattle.delimiters.proofs.CountLaws.{count-first}
use Rattle.delimiters.specs.Delimit.{rejoined}
use Rattle.delimiters.proofs.DivideLaws.{taken-back-is, rejoined-none, attributes-are, attributes-none}
use Rattle.closing.specs.declared.LinkMacro.TheVariants.{AsList}
use Rattle.closing.specs.Closing.{closing}
use Rattle.closing.specs.Link.{link_macro}
use Rattle.closing.proofs.ClosingLaws.{closes-closing}
use Rattle.attr_list.specs.declared.entries.Entry.{Entry}
use Rattle.attr_list.specs.declared.entries.Entry.TheVariants.{Block, BlockMacro, Inline, Link}
use Rattle.attr_list.specs.Entry.{is_block, full_line}
use Rattle.attr_list.specs.Answer.{Read}
use Rattle.list_rows.specs.ListRows.{rows_from, list_rows}
use Rattle.attr_list.specs.Reading.{Reading, gives, Gives, list_to, link_to, read_by, unless_closed, unless_refused, reading}
use Rattle.attr_list.specs.ReadAsList.{TakenAsList, rows_of_attributes, ReadAsList}
use Rattle.list_rows.proofs.ListRowsLaws.{list-few}
use Rattle.attr_list.proofs.Laws.{in-front}
use Rattle.attr_list.proofs.ReadAsListLaws.{accepts}

-- a buffer is the rows at its front and what stood behind them
rows_left : (given left : List ℕ) (rs : List Row) (n : ℕ) → n ≡ length rs → width * length rs ≤ length given → take (width * n) left ≡ all_numbers rs → drop (width * n) left ≡ drop (width * n) given → left ≡ with_rows given 0 rs
rows_left given left rs n e room f g =
    sym (take-append-drop (width * n) left)
    ∙ ap (λ (x : List ℕ). x ++ drop (width * n) left) f
    ∙ ap (λ (x : List ℕ). all_numbers rs ++ x) g
    ∙ ap (λ (m : ℕ). all_numbers rs ++ drop (width * m) given) e
    ∙ sym (in-front given rs room)

module _ (most : ℕ) (e : Entry) (l : Line) (given : List ℕ) (rows consumed back : ℕ) (left : List ℕ) (w : ReadAsList most e l given rows consumed back left) where
  -- the rows are the list's
  rows_same : rows_of_attributes e l w.attributes ≡ list_rows l (is_block e) w.end
  rows_same = ap (rows_of_attributes e l) (attributes-are l.kinds w.end w.attributes w.attribute_count w.follow)

  fits : width * length (list_rows l (is_block e) w.end) ≤ length given
  fits = omega (arith, list-few l (is_block e) w.end w.before_the_bracket, w.closes.among, (accepts most l (length given) w.accepted).fits)

  -- and the commas taken back those of the definition
  back-same : back ≡ rejoined l.kinds
  back-same = taken-back-is l.kinds back w.taken_back

  list-gives : Gives given (gives (list_rows l (is_block e) w.end) (w.end + 1) (rejoined l.kinds)) (Read rows consumed back) left
  list-gives =
      let n : rows ≡ length (list_rows l (is_block e) w.end) = w.row_count ∙ ap length rows_same in
      record {
        answer = ap (λ (x : ℕ). Read x consumed back) n ∙ ap (λ (x : ℕ). Read (length (list_rows l (is_block e) w.end)) x back) w.consumed_through
            ∙ ap (Read (length (list_rows l (is_block e) w.end)) (w.end + 1)) back-same;
        buffer = rows_left given left (list_rows l (is_block e) w.end) rows n fits (w.numbers ∙ ap all_numbers rows_same) w.others;
      }

  -- a list that its first token closes has no rows
  empty : kind_at l.kinds 0 ≡ close_bracket → gives (list_rows l (is_block e) w.end) (w.end + 1) (rejoined l.kinds) ≡ gives [] 1 0
  unfolding rows_from
  empty f =
      ap (λ (x : ℕ). gives (list_rows l (is_block e) x) (x + 1) (rejoined l.kinds)) (w.closes.first f)
      ∙ ap (λ ss. gives (rows_from l (is_block e) false ss).rows 1 (rejoined l.kinds)) (attributes-none l.kinds 0 (count-first l.kinds f))
      ∙ ap (gives [] 1) (rejoined-none l.kinds (count-first l.kinds f))

  -- any other is closed by its entry's rule
  module _ (h : kind_at l.kinds 0 ≡ close_bracket → ⊥) where
    at-the-end : gives (list_rows l (is_block e) w.end) (w.end + 1) (rejoined l.kinds) ≡ list_to l (is_block e) (closing (full_line e) l.kinds)
    at-the-end = ap (list_to l (is_block e)) (sym (closes-closing l.kinds (full_line e) w.end (w.closes.rule h)))

    is-list : TakenAsList Link l → link_macro l.kinds l.pairs ≡ AsList
    is-list (inl f) = absurd (h f)
    is-list (inr f) = f

  by-entry : (x : Entry) → TakenAsList x l → (kind_at l.kinds 0 ≡ close_bracket → ⊥) → list_to l (is_block x) (closing (full_line x) l.kinds) ≡ read_by x l
  by-entry Block t h = refl
  by-entry BlockMacro t h = refl
  by-entry Inline t h = refl
  by-entry Link t h = ap (link_to l) (sym (is-list h t))

  is_read : gives (list_rows l (is_block e) w.end) (w.end + 1) (rejoined l.kinds) ≡ unless_closed l.kinds (read_by e l)
  is_read = go (ℕ_discrete (kind_at l.kinds 0) close_bracket)
    where
      go : Dec (kind_at l.kinds 0 ≡ close_bracket) → gives (list_rows l (is_block e) w.end) (w.end + 1) (rejoined l.kinds) ≡ unless_closed l.kinds (read_by e l)
      go (yes f) = empty f ∙ ap (λ (b : Bool). cond b (gives [] 1 0) (read_by e l)) (sym (eq-eqb (kind_at l.kinds 0) close_bracket f))
      go (no f) = at-the-end f ∙ by-entry e w.taken f ∙ ap (λ (b : Bool). cond b (gives [] 1 0) (read_by e l)) (sym (ne_eqb (kind_at l.kinds 0) close_bracket f))

  pub one_answer : Gives given (reading most e l (length given)) (Read rows consumed back) left
  unfolding reading
  one_answer =
      subst (λ (r : Reading). Gives given r (Read rows consumed back) left)
      (is_read ∙ ap (λ (n : ℕ). unless_refused n (unless_closed l.kinds (read_by e l))) (sym w.accepted)) list-gives
