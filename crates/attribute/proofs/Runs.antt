-- The tokens of a run: what holds of them by the run, and the other way round.
use Rattle.std.specs.Prelude.{ℕ, ◌+◌, ◌≡◌, Bool}
use Rattle.std.proofs.Common.{sym, subst}
use Rattle.token.specs.declared.Run.{Run}
use Rattle.token.specs.declared.TokenPlace.{TokenPlace}
use Rattle.token.specs.declared.lent.Line as lent
use Rattle.token.specs.Checked.{line_in}
use Rattle.token.specs.Line.{Line}
use Rattle.runs.specs.declared.places.Tokens as at
use Rattle.attr_ir.specs.declared.AttrIr.{AttrIr}
use Rattle.attr_ir.specs.Ir.{attr_ir}
use Rattle.attr_ir.specs.Places.{IrOf}

module _ (P : Line → ℕ → ℕ → Type 0) (t : at.Tokens) {line : lent.Line} (r : Run) (e : record { line : t.line ≡ line; from : t.from ≡ r.place; to : t.to.0 ≡ r.place.0 + r.count }) where
  pub of-run : P (line_in t.line) t.from.0 t.to.0 → P (line_in line) r.place.0 (r.place.0 + r.count)
  of-run w =
      subst (λ (x : lent.Line). P (line_in x) r.place.0 (r.place.0 + r.count)) e.line
      (subst (λ (x : TokenPlace). P (line_in t.line) x.0 (r.place.0 + r.count)) e.from (subst (λ (n : ℕ). P (line_in t.line) t.from.0 n) e.to w))

  pub to-run : P (line_in line) r.place.0 (r.place.0 + r.count) → P (line_in t.line) t.from.0 t.to.0
  to-run w =
      subst (λ (n : ℕ). P (line_in t.line) t.from.0 n) (sym e.to)
      (subst (λ (x : TokenPlace). P (line_in t.line) x.0 (r.place.0 + r.count)) (sym e.from) (subst (λ (x : lent.Line). P (line_in x) r.place.0 (r.place.0 + r.count)) (sym e.line) w))

-- ---- the same of an attribute's runs

pub run-ir : (t : at.Tokens) {line : lent.Line} (r : Run) (block : Bool) (i : AttrIr) → record { line : t.line ≡ line; from : t.from ≡ r.place; to : t.to.0 ≡ r.place.0 + r.count }
    → IrOf (attr_ir block) (line_in t.line) t.from.0 t.to.0 i → IrOf (attr_ir block) (line_in line) r.place.0 (r.place.0 + r.count) i
run-ir t r block i e w = of-run (λ l from to. IrOf (attr_ir block) l from to i) t r e w
