-- `find_kind` looks for a kind. Assumes nothing.
use Rattle.std.proofs.Common.{rules, tests, sym, ℕ, ◌≤◌, ◌<◌, ◌∙◌, ◌≡◌, get_or}
use Rattle.runs.proofs.Finds.{found-first}
use Rattle.runs.proofs.KeptLaws.{is-kind, not-kind}
use Rattle.runs.proofs.PlacesLaws.{found-place}
use Rattle.runs.specs.Run.{of_kind}
use Rattle.token.specs.Line.{line_of}
use Rattle.runs.proofs.places.Places.find_kind.Goals as goal

pub returns : goal.returns
returns c =
    let kinds = c.args.self.kinds.now in
    let f = c.find.ensures in
    let r = c.find.result.0 in
    let kind = c.args.kind in
    let passed : (i : ℕ) → c.args.self.from.0 ≤ i → i < r → get_or kinds i 0 ≡ kind → ⊥ = λ i low high. let q = f.before i low high in search (rules, tests) in
    let met : r < c.args.self.to.0 → get_or kinds r 0 ≡ kind = λ h. let q = f.here h in search (rules, tests) in
    let w = found-first (of_kind kind) kinds _ _ r f.low f.high (λ i low high text pairs. not-kind (line_of kinds text pairs) i kind (passed i low high)) (λ h. record { kept = λ e. c.requires (sym (met h) ∙ e); here = λ text pairs. is-kind (line_of kinds text pairs) r kind (met h) }) in
    record { place = λ text pairs. found-place _ _ _ _ _ w.high (w.found text pairs); found = w }
