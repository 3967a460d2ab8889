-- `find_symbol` looks for a Dots, Hash or Percent. Assumes nothing.
use Rattle.std.proofs.Common.{rules, tests, ℕ, ◌≤◌, ◌<◌, ◌≡◌, ◌||◌, true, false, eqb, get_or}
use Rattle.token.specs.Kind.{dots, hash, percent}
use Rattle.token.specs.Line.{token_at}
use Rattle.runs.proofs.Finds.{found-first}
use Rattle.attr_ir.specs.Look.{is_symbol}
use Rattle.attribute.proofs.SymbolKinds.{symbol-kept}
use Rattle.attribute.proofs.symbols.find_symbol.Goals as goal

pub returns : goal.returns
unfolding token_at
returns c =
    let kinds = c.args.places.kinds.now in
    let f = c.find.ensures in
    let r = c.find.result.0 in
    let passed : (i : ℕ) → c.args.places.from.0 ≤ i → i < r → (eqb (get_or kinds i 0) dots || eqb (get_or kinds i 0) hash || eqb (get_or kinds i 0) percent) ≡ false = λ i low high. let q = f.before i low high in search (rules, tests) in
    let met : r < c.args.places.to.0 → (eqb (get_or kinds r 0) dots || eqb (get_or kinds r 0) hash || eqb (get_or kinds r 0) percent) ≡ true = λ h. let q = f.here h in search (rules, tests) in
    found-first is_symbol kinds _ _ r f.low f.high (λ i low high text pairs. passed i low high) (λ h. record { kept = symbol-kept _ (met h); here = λ text pairs. met h })
