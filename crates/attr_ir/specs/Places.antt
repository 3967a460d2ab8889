-- What a caller may use of an attribute's runs: whose they are, and where they stand.
use Rattle.std.specs.Prelude.{ℕ, ◌+◌, ◌-◌, ◌≤◌, ◌≡◌, List}
use Rattle.token.specs.declared.Run.{Run}
use Rattle.token.specs.Line.{Line, Token}
use Rattle.runs.specs.Run.{kept}
use Rattle.runs.specs.Places.{Ends}
use Rattle.attr_ir.specs.declared.AttrIr.{AttrIr}
use Rattle.attr_ir.specs.declared.AttrIr.TheVariants.{Positional, Named, Plain, Options, Roles, Id, Shorthand}
use Rattle.attr_ir.specs.Ir.{Ir, runs_of, tokens_of}

-- a run within from..to whose first and last token are kept
pub record InLine (kinds : List ℕ) (from to : ℕ) (r : Run) : Type 0 where
  pub within : r.place.0 + r.count ≤ to
  pub few : r.count ≤ to - from
  pub ends : Ends kinds r.place.0 (r.place.0 + r.count)

-- each run of an attribute
abbrev pub Bounded : (kinds : List ℕ) (from to : ℕ) → AttrIr → Type 0
Bounded kinds from to (Positional t cut) = InLine kinds from to t.run
Bounded kinds from to (Named name value) = InLine kinds from to name × InLine kinds from to value.run
Bounded kinds from to (Plain name value) = InLine kinds from to name × InLine kinds from to value.run
Bounded kinds from to (Options r) = InLine kinds from to r
Bounded kinds from to (Roles r) = InLine kinds from to r
Bounded kinds from to (Id t) = InLine kinds from to t.run
Bounded kinds from to (Shorthand r) = InLine kinds from to r

-- the outcome of a call that reads the tokens kept from..to by f: the runs of what f gives, whose tokens are those that f gives, and where they stand
pub record IrOf (f : List Token → Ir) (l : Line) (from to : ℕ) (r : AttrIr) : Type 0 where
  pub answer : r ≡ runs_of (f (kept l from to))
  pub held : tokens_of l r ≡ f (kept l from to)
  pub within : Bounded l.kinds from to r
