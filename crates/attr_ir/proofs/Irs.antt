-- An attribute by its reading.
use Prim.Native.Nat.{ℕ}
use native.Mathlib.Omega.{arith}
use mathlib.Core.Bool.{Bool, true, false, not, ◌&&◌}
use mathlib.Core.Path.{◌≡◌, refl, sym, ap, ◌∙◌}
use mathlib.Core.List.{List}
use lib.Dec.{eqb}
use Rattle.token.specs.declared.Run.{Run}
use Rattle.token.specs.declared.quotes.QuoteMark.{QuoteMark}
use Rattle.token.specs.declared.quotes.Unquoted.{Unquoted}
use Rattle.token.specs.Quotes.{mark_number}
use Rattle.token.specs.Line.{line_of}
use Rattle.runs.specs.Run.{kept, quote_mark, quoted, unquote, unquoted, run_of}
use Rattle.runs.specs.Places.{all, Part}
use Rattle.attr_ir.specs.declared.Reading.{Reading}
use Rattle.attr_ir.specs.declared.Reading.TheVariants.{Shorthand, Positional, Named}
use Rattle.attr_ir.specs.declared.AttrIr.{AttrIr}
use Rattle.attr_ir.specs.declared.AttrIr.TheVariants as ir
use Rattle.attr_ir.specs.Look.{look}
use Rattle.attr_ir.specs.Ir.{shorthand, key_value_ir, ir_as, attr_ir, runs_of}
use Rattle.attr_ir.specs.Places.{IrOf}
use Rattle.attr_ir.proofs.Values.{part_in}

not-not : (b : Bool) → not (not b) ≡ b
not-not true = refl
not-not false = refl

module _ (kinds text pairs : List ℕ) (from to : ℕ) (block : Bool) (reading : Reading) (e : reading ≡ look block true false (kept (line_of kinds text pairs) from to)) where
  abbrev Answered : AttrIr → Type 0
  Answered r = IrOf (attr_ir block) (line_of kinds text pairs) from to r

  read_as : (x : Reading) → reading ≡ x → ir_as block (kept (line_of kinds text pairs) from to) x ≡ attr_ir block (kept (line_of kinds text pairs) from to)
  unfolding attr_ir
  read_as x f = ap (ir_as block (kept (line_of kinds text pairs) from to)) (sym f ∙ e)

  pub ir-shorthand : reading ≡ Shorthand → (r : Run) → ((text pairs : List ℕ) → r ≡ run_of (kept (line_of kinds text pairs) from to)) → Part all kinds from to r → Answered (ir.Shorthand r)
  unfolding ir_as
  ir-shorthand f r a p =
      record {
        answer = ap ir.Shorthand (a text pairs) ∙ ap runs_of (read_as Shorthand f);
        held = ap shorthand (p.same text pairs) ∙ read_as Shorthand f;
        within = part_in all kinds from to from to r (omega arith) (omega arith) p;
      }

  pub ir-positional : (noted : Bool) → reading ≡ Positional noted → (t : Unquoted) → ((text pairs : List ℕ) → t ≡ unquoted (kept (line_of kinds text pairs) from to)) → Part unquote kinds from to t.run
      → (cut : Bool) → cut ≡ (noted && block && eqb (mark_number t.mark) 0) → Answered (ir.Positional t cut)
  unfolding ir_as quoted
  ir-positional noted f t a p cut g =
      let l = line_of kinds text pairs in
      let m : t.mark ≡ quote_mark (kept l from to) = ap (λ (u : Unquoted). u.mark) (a text pairs) in
      let h : cut ≡ (noted && block && not (quoted (kept l from to))) = g ∙ ap (λ (b : Bool). noted && block && b) (ap (λ (x : QuoteMark). eqb (mark_number x) 0) m ∙ sym (not-not (eqb (mark_number (quote_mark (kept l from to))) 0))) in
      record {
        answer = rw (a text pairs, h) (ap runs_of (read_as (Positional noted) f));
        held = rw (p.same text pairs, m, h) (read_as (Positional noted) f);
        within = part_in unquote kinds from to from to t.run (omega arith) (omega arith) p;
      }

  pub ir-named : reading ≡ Named → (r : AttrIr) → IrOf key_value_ir (line_of kinds text pairs) from to r → Answered r
  unfolding ir_as
  ir-named f r w = record { answer = w.answer ∙ ap runs_of (read_as Named f); held = w.held ∙ read_as Named f; within = w.within }
