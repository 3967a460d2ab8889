-- An attribute that is not cut: its rows by its runs.
use Prim.Native.Nat.{ℕ, ◌+◌, ◌-◌, ◌≤◌}
use native.Mathlib.Omega.{arith}
use mathlib.Core.Bool.{Bool, true, false, cond}
use mathlib.Core.Path.{◌≡◌, refl, sym, ap, subst, ◌∙◌}
use mathlib.Core.List.{List, [], ◌∷◌}
use mathlib.Core.Logic.{⊎_elim}
use types.Run.{OneOf}
use lib.Dec.{eqb}
use lib.ListN.{length}
use Rattle.token.specs.declared.Run.{Run}
use Rattle.token.specs.declared.quotes.Unquoted.{Unquoted}
use Rattle.token.specs.Line.{Line, Token}
use Rattle.token.specs.Quotes.{marked}
use Rattle.runs.specs.Run.{is_comma, is_whitespace, run_of, in_run}
use Rattle.row.specs.declared.Row.{Row}
use Rattle.row.specs.declared.tag.Tag.TheVariants as tag
use Rattle.row.specs.Tag.{tag_number}
use Rattle.row.specs.Row.{marked_run, named, plain, ident, role, option, diagnostic}
use Rattle.attr_ir.specs.declared.AttrIr.{AttrIr}
use Rattle.attr_ir.specs.declared.AttrIr.TheVariants as ir
use Rattle.attr_ir.specs.Ir.{runs_of, tokens_of}
use Rattle.attr_ir.specs.Places.{InLine, Bounded}
use Rattle.put_rows.specs.declared.Written.{Written}
use Rattle.put_rows.specs.Rows.{Read, one_row, in_shorthand, groups, group_read, id_run}
use Rattle.attribute.specs.Attribute.{ir_read}
use Rattle.put_rows.specs.Written.{WroteId, Outcome}
use Rattle.attribute.specs.Outcome.{Uncut, Put, most_rows}
use Rattle.put_rows.proofs.RowsLaws.{id-by-run}
use Rattle.put_rows.proofs.Outcomes.{told, told-as}

-- ---- where its runs stand

in-line : (kinds : List ℕ) (a b : ℕ) (r : Run) → InLine kinds a b r → b ≤ length kinds → InLine kinds 0 (length kinds) r
in-line kinds a b r w h = record { within = omega (arith, w.within); few = omega (arith, w.within); ends = w.ends }

module _ (kinds : List ℕ) (a b : ℕ) where
  pub bounded-in : (i : AttrIr) → Bounded kinds a b i → b ≤ length kinds → Bounded kinds 0 (length kinds) i
  bounded-in (ir.Positional t cut) w h = in-line kinds a b t.run w h
  bounded-in (ir.Named n v) w h = (in-line kinds a b n w.0 h, in-line kinds a b v.run w.1 h)
  bounded-in (ir.Plain n v) w h = (in-line kinds a b n w.0 h, in-line kinds a b v.run w.1 h)
  bounded-in (ir.Options r) w h = in-line kinds a b r w h
  bounded-in (ir.Roles r) w h = in-line kinds a b r w h
  bounded-in (ir.Id t) w h = in-line kinds a b t.run w h
  bounded-in (ir.Shorthand r) w h = in-line kinds a b r w h

  pub most-few : (i : AttrIr) → Bounded kinds a b i → most_rows i ≤ b - a + 1
  most-few (ir.Positional t cut) w = omega arith
  most-few (ir.Named n v) w = omega arith
  most-few (ir.Plain n v) w = omega arith
  most-few (ir.Options r) w = omega (arith, w.few)
  most-few (ir.Roles r) w = omega (arith, w.few)
  most-few (ir.Id t) w = omega arith
  most-few (ir.Shorthand r) w = omega (arith, w.few)

-- ---- what each case writes

module _ (l : Line) (i : AttrIr) (u : Uncut l i) where
  runs_as : (j : AttrIr) → i ≡ j → j ≡ runs_of (tokens_of l j)
  runs_as j e = sym e ∙ u.runs ∙ ap (λ (x : AttrIr). runs_of (tokens_of l x)) e

  module _ (has : Bool) (before : List ℕ) (at : ℕ) (after : List ℕ) (r : Written) where
    put_as : (j : AttrIr) → i ≡ j → (d : Read) → ((again : List Token → Read) → d ≡ ir_read again has (tokens_of l j)) → Outcome d (most_rows j) before at r after → Put l i has before at r after
    put_as j e d f w again =
        told-as before at d (ir_read again has (tokens_of l i)) after r (f again ∙ sym (ap (λ (x : AttrIr). ir_read again has (tokens_of l x)) e)) (most_rows j) (most_rows i) w
        (subst (λ (n : ℕ). most_rows j ≤ n) (sym (ap most_rows e)) (omega arith))

    one : (row : Row) (id : Bool) → WroteId before at (one_row id row) after r → Outcome (one_row id row) 1 before at r after
    one row id w = told before at (one_row id row) (one_row id row) after r refl 1 w (omega (arith, w.wrote.count))

    pub put-positional : (t : Unquoted) (cut : Bool) → i ≡ ir.Positional t cut → (row : Row) → row ≡ marked_run (tag_number tag.Positional) t.run t.mark → WroteId before at (one_row has row) after r → Put l i has before at r after
    unfolding ir_read
    put-positional t true e row f w = absurd (u.whole t e)
    put-positional t false e row f w =
        let x : ir.Positional t false ≡ ir.Positional (marked (run_of (in_run l t.run)) t.mark) false = runs_as (ir.Positional t false) e in
        let same : t ≡ marked (run_of (in_run l t.run)) t.mark = cc in
        put_as (ir.Positional t false) e (one_row has row) (λ again. ap (one_row has) (f ∙ ap (λ (y : Unquoted). marked_run (tag_number tag.Positional) y.run t.mark) same)) (one row has w)

    pub put-named : (n : Run) (v : Unquoted) → i ≡ ir.Named n v → WroteId before at (one_row has (named n v.run v.mark)) after r → Put l i has before at r after
    unfolding ir_read
    put-named n v e w = put_as (ir.Named n v) e (one_row has (named n v.run v.mark)) (λ again. refl) (one (named n v.run v.mark) has w)

    pub put-plain : (n : Run) (v : Unquoted) → i ≡ ir.Plain n v → WroteId before at (one_row has (plain n v.run v.mark)) after r → Put l i has before at r after
    unfolding ir_read
    put-plain n v e w = put_as (ir.Plain n v) e (one_row has (plain n v.run v.mark)) (λ again. refl) (one (plain n v.run v.mark) has w)

    pub put-options : (run : Run) → i ≡ ir.Options run → Outcome (group_read has option (groups is_comma (in_run l run))) run.count before at r after → Put l i has before at r after
    unfolding ir_read
    put-options run e w = put_as (ir.Options run) e _ (λ again. refl) w

    pub put-roles : (run : Run) → i ≡ ir.Roles run → Outcome (group_read has role (groups is_whitespace (in_run l run))) run.count before at r after → Put l i has before at r after
    unfolding ir_read
    put-roles run e w = put_as (ir.Roles run) e _ (λ again. refl) w

    one-id : (t : Unquoted) → WroteId before at (id_run has t.run t.mark) after r → Outcome (id_run has t.run t.mark) 1 before at r after
    unfolding id_run
    one-id t w = go (eqb t.run.count 0) has w
      where
        go : (b c : Bool) → WroteId before at (cond b (one_row c (diagnostic 0 3)) (cond c (one_row true (diagnostic t.run.place.0 4)) (one_row true (ident t.run t.mark)))) after r
            → Outcome (cond b (one_row c (diagnostic 0 3)) (cond c (one_row true (diagnostic t.run.place.0 4)) (one_row true (ident t.run t.mark)))) 1 before at r after
        go true c w = one (diagnostic 0 3) c w
        go false true w = one (diagnostic t.run.place.0 4) true w
        go false false w = one (ident t.run t.mark) true w

    pub put_id : (t : Unquoted) → i ≡ ir.Id t → WroteId before at (id_run has t.run t.mark) after r → Put l i has before at r after
    unfolding ir_read
    put_id t e w =
        let x : ir.Id t ≡ ir.Id (marked (run_of (in_run l t.run)) t.mark) = runs_as (ir.Id t) e in
        let same : t ≡ marked (run_of (in_run l t.run)) t.mark = cc in
        put_as (ir.Id t) e (id_run has t.run t.mark) (λ again. ap (λ (y : Unquoted). id_run has y.run t.mark) same ∙ sym (id-by-run has (in_run l t.run) t.mark)) (one-id t w)

    pub put-shorthand : (run : Run) → i ≡ ir.Shorthand run → Outcome (in_shorthand has (in_run l run)) run.count before at r after → Put l i has before at r after
    unfolding ir_read
    put-shorthand run e w = put_as (ir.Shorthand run) e _ (λ again. refl) w

-- none of the cases behind a positional is the first
pub not_first : (n : ℕ) → OneOf (1 ∷ 2 ∷ 3 ∷ 4 ∷ 5 ∷ 6 ∷ []) n → n ≡ 0 → ⊥
not_first n k z =
    ⊎_elim (λ e. omega (arith, e, z)) (⊎_elim (λ e. omega (arith, e, z)) (⊎_elim (λ e. omega (arith, e, z)) (⊎_elim (λ e. omega (arith, e, z)) (⊎_elim (λ e. omega (arith, e, z)) (λ e. omega (arith, e, z)))))) k
