-- `first_kept` finds the first token kept: none is kept before it. Assumes nothing.
use mathlib.Core.Bool.{false, not}
use Rattle.std.proofs.Common.{arith, rules, tests, refl, eqb, ℕ, ◌≤◌, ◌<◌, ◌≡◌, get_or}
use Rattle.token.specs.Kind.{attr_ref}
use Rattle.runs.proofs.Ranges.{Left, walk, left-start, left-skip, left-done}
use Rattle.runs.specs.Places.{all}
use Rattle.runs.proofs.PlacesLaws.{starts-place}
use Rattle.runs.proofs.places.Places.first_kept.Goals as goal

pub returns : goal.returns
returns c =
    let kinds = c.args.self.kinds.now in
    let from = c.args.self.from.0 in
    let to = c.args.self.to.0 in
    let r = c.find.result.0 in
    let f = c.find.ensures in
    let skipped : (i : ℕ) → from ≤ i → i < r → get_or kinds i 0 ≡ attr_ref = λ i low high. let q = f.before i low high in let e : not (eqb (get_or kinds i 0) attr_ref) ≡ false = search (rules, tests) in search (rules, tests) in
    let shut : r < to → get_or kinds r 0 ≡ attr_ref → ⊥ = λ h. let q = f.here h in search (rules, tests) in
    let left = walk (Left all kinds from to) from r f.low (left-start all kinds from to (omega arith)) (λ i low high w. left-skip all kinds from to i (omega (arith, f.high)) (skipped i low high) w) in
    let w = left-done all kinds from to r (λ text pairs. refl) shut left in
    record { place = starts-place all kinds from to r w; part = w }
