-- Names and values of a named attribute.
use Prim.Native.Nat.{ℕ, ◌+◌, ◌≤◌, ◌<◌, min}
use native.Mathlib.Omega.{arith}
use native.Mathlib.Decide.{dec_lt}
use mathlib.Core.Bool.{true, false}
use mathlib.Core.Path.{◌≡◌, refl, sym, ap, ◌∙◌}
use mathlib.Core.List.{List, [], ◌∷◌}
use lib.ListN.{get_or}
use Rattle.token.specs.declared.Run.{Run}
use Rattle.token.specs.declared.quotes.Unquoted.{Unquoted}
use Rattle.token.specs.Kind.{whitespace}
use Rattle.token.specs.Line.{Line, Token, line_of, token_at}
use Rattle.token.specs.Quotes.{marked}
use Rattle.runs.specs.Run.{kept, is_whitespace, is_equals, without, unquote, unquoted, run_of}
use Rattle.runs.specs.Names.{bytes}
use Rattle.runs.specs.Places.{FoundIn, all, StartsAt, Part, FoundAt}
use Rattle.runs.proofs.KeptLaws.{is-kind, not-kind, kept-none, kept-first}
use Rattle.attr_ir.specs.declared.Name.{Name}
use Rattle.attr_ir.specs.declared.Name.TheVariants.{Options, Role, Id, Plain, Other}
use Rattle.attr_ir.specs.declared.AttrIr.{AttrIr}
use Rattle.attr_ir.specs.declared.AttrIr.TheVariants as ir
use Rattle.attr_ir.specs.Ir.{options, roles, plain, named, name_tokens, less_first, less_space, value, value_mark, value_tokens, name_of, named_ir, key_value_ir, runs_of}
use Rattle.attr_ir.specs.Places.{InLine, IrOf}

-- ---- the value

-- a part of what is left from `start` on is a part of the whole
pub part-as : (f g : List Token → List Token) (kinds : List ℕ) (from start to : ℕ) (r : Run) → from ≤ start → ((text pairs : List ℕ) → f (kept (line_of kinds text pairs) start to) ≡ g (kept (line_of kinds text pairs) from to)) → Part f kinds start to r → Part g kinds from to r
part-as f g kinds from start to r h e w =
    record {
      within = w.within;
      few = omega (arith, w.few);
      low = λ lt. omega (arith, w.low lt);
      same = λ text pairs. w.same text pairs ∙ e text pairs;
      ends = w.ends;
    }

-- what is unquoted: the tokens less one Whitespace in front
pub value-by : (ts us : List Token) → us ≡ less_space ts → unquote us ≡ value ts
unfolding value
value-by ts us e = ap unquote e

space_none : (ts : List Token) → ts ≡ [] → ts ≡ less_space ts
space_none ts e = rw e refl

space-blank : (ts : List Token) (t : Token) (us : List Token) → ts ≡ t ∷ us → is_whitespace t ≡ true → us ≡ less_space ts
space-blank ts t us e f = rw (e, f) refl

space-word : (ts : List Token) (t : Token) (us : List Token) → ts ≡ t ∷ us → is_whitespace t ≡ false → ts ≡ less_space ts
space-word ts t us e f = rw (e, f) refl

module _ (kinds : List ℕ) (from to start : ℕ) (w : StartsAt all kinds from to start) (text pairs : List ℕ) where
  pub less-empty : to ≤ start → kept (line_of kinds text pairs) start to ≡ less_space (kept (line_of kinds text pairs) from to)
  less-empty h = space_none (kept (line_of kinds text pairs) start to) (kept-none (line_of kinds text pairs) start to h) ∙ ap less_space (w.part.same text pairs)

  module _ (h : start < to) where
    begins : kept (line_of kinds text pairs) from to ≡ token_at (line_of kinds text pairs) start ∷ kept (line_of kinds text pairs) (start + 1) to
    begins = sym (w.part.same text pairs) ∙ kept-first (line_of kinds text pairs) start to h (w.first h)

    pub less-blank : get_or kinds start 0 ≡ whitespace → kept (line_of kinds text pairs) (start + 1) to ≡ less_space (kept (line_of kinds text pairs) from to)
    less-blank e = space-blank (kept (line_of kinds text pairs) from to) _ _ begins (is-kind (line_of kinds text pairs) start whitespace e)

    pub less-word : (get_or kinds start 0 ≡ whitespace → ⊥) → kept (line_of kinds text pairs) start to ≡ less_space (kept (line_of kinds text pairs) from to)
    less-word e = w.part.same text pairs ∙ space-word (kept (line_of kinds text pairs) from to) _ _ begins (not-kind (line_of kinds text pairs) start whitespace e)

-- ---- runs within from..to

pub part_in : (f : List Token → List Token) (kinds : List ℕ) (from to low high : ℕ) (r : Run) → low ≤ from → to ≤ high → Part f kinds from to r → InLine kinds low high r
part_in f kinds from to low high r a b w = record { within = omega (arith, w.within); few = omega (arith, w.few); ends = w.ends }

pub in-in : (kinds : List ℕ) (from to high : ℕ) (r : Run) → to ≤ high → InLine kinds from to r → InLine kinds from high r
in-in kinds from to high r b w = record { within = omega (arith, w.within); few = omega (arith, w.few); ends = w.ends }

-- ---- a named attribute

less-first : (l : Line) (from to m after : ℕ) → FoundIn l is_equals from to m → m ≤ to → after ≡ min to (m + 1) → less_first (kept l m to) ≡ kept l after to
less-first l from to m after w high next = go (dec_lt m to)
  where
    go : Dec (m < to) → less_first (kept l m to) ≡ kept l after to
    go (yes h) =
        let e : after ≡ m + 1 = omega (arith, next) in
        ap less_first (kept-first l m to h (w.kept h)) ∙ ap (λ (n : ℕ). kept l n to) (sym e)
    go (no h) = ap less_first (kept-none l m to (omega arith)) ∙ sym (kept-none l after to (omega (arith, next)))

module _ (kinds text pairs : List ℕ) (from to m after : ℕ) (w : FoundAt is_equals kinds from to m) (next : after ≡ min to (m + 1))
    (v : Unquoted) (vt : (text pairs : List ℕ) → v ≡ unquoted (less_space (kept (line_of kinds text pairs) after to))) (vp : Part value kinds after to v.run)
    (asked : Name) (an : asked ≡ name_of (bytes (without is_whitespace (kept (line_of kinds text pairs) from m)))) where
  abbrev Answered : AttrIr → Type 0
  Answered r = IrOf key_value_ir (line_of kinds text pairs) from to r

  ir-is : (a : Name) → asked ≡ a → named_ir a (without is_whitespace (kept (line_of kinds text pairs) from m)) (value (kept (line_of kinds text pairs) after to)) (value_mark (kept (line_of kinds text pairs) after to)) ≡ key_value_ir (kept (line_of kinds text pairs) from to)
  unfolding key_value_ir name_tokens value_tokens
  ir-is a e =
      let f = w.found text pairs in
      sym (rw (← f.before, ← f.after, less-first (line_of kinds text pairs) from to m after f w.high next, ← an, e))

  inside : InLine kinds from to v.run
  inside = part_in value kinds after to from to v.run (omega (arith, w.low, w.high, next)) (omega arith) vp

  vr : v.run ≡ run_of (value (kept (line_of kinds text pairs) after to))
  unfolding value
  vr = ap (λ (t : Unquoted). t.run) (vt text pairs)

  vm : v.mark ≡ value_mark (kept (line_of kinds text pairs) after to)
  unfolding value_mark
  vm = ap (λ (t : Unquoted). t.mark) (vt text pairs)

  v-is : v ≡ marked (run_of (value (kept (line_of kinds text pairs) after to))) (value_mark (kept (line_of kinds text pairs) after to))
  unfolding value value_mark
  v-is = vt text pairs

  pub named-options : asked ≡ Options → Answered (ir.Options v.run)
  unfolding named_ir
  named-options e =
      record { answer = ap ir.Options vr ∙ ap runs_of (ir-is Options e); held = ap options (vp.same text pairs) ∙ ir-is Options e; within = inside }

  pub named-role : asked ≡ Role → Answered (ir.Roles v.run)
  unfolding named_ir
  named-role e =
      record { answer = ap ir.Roles vr ∙ ap runs_of (ir-is Role e); held = ap roles (vp.same text pairs) ∙ ir-is Role e; within = inside }

  pub named-id : asked ≡ Id → Answered (ir.Id v)
  unfolding named_ir
  named-id e =
      record { answer = ap ir.Id v-is ∙ ap runs_of (ir-is Id e); held = rw (vp.same text pairs, vm) (ir-is Id e); within = inside }

  module _ (n : Run) (nr : n ≡ run_of (without is_whitespace (kept (line_of kinds text pairs) from m))) (ni : InLine kinds from m n) where
    pub named-plain : asked ≡ Plain → Answered (ir.Plain n v)
    unfolding named_ir
    named-plain e =
        let x : plain n v.run v.mark ≡ key_value_ir (kept (line_of kinds text pairs) from to) = rw (nr, vr, vm) (ir-is Plain e) in
        record { answer = ap runs_of x; held = x; within = (in-in kinds from m to n w.high ni, inside) }

    pub named_other : asked ≡ Other → Answered (ir.Named n v)
    unfolding named_ir
    named_other e =
        let x : named n v.run v.mark ≡ key_value_ir (kept (line_of kinds text pairs) from to) = rw (nr, vr, vm) (ir-is Other e) in
        record { answer = ap runs_of x; held = x; within = (in-in kinds from m to n w.high ni, inside) }
