-- `find_stop` looks for the next symbol. Assumes nothing.
use Rattle.std.proofs.Common.{rules, tests, arith, ap, ◌≡◌, ◌≤◌, ◌<◌, ℕ, true, false}
use Rattle.token.specs.Line.{line_of, token_at}
use Rattle.put_rows.specs.Rows.{is_stop}
use Rattle.put_rows.proofs.GroupRows.{stops-first}
use Rattle.put_rows.proofs.shorthand.find_stop.Goals as goal

pub returns : goal.returns
unfolding token_at
returns c =
    let t = c.args.tokens in
    let l = line_of t.line.kinds.now t.line.text.now t.line.pairs.now in
    let from : c.places.result.from.0 ≡ t.from.0 = ap (λ p. p.from.0) c.places.ensures in
    let to : c.places.result.to.0 ≡ t.to.0 = ap (λ p. p.to.0) c.places.ensures in
    let f = c.find.ensures in
    let r = c.find.result.0 in
    let before : (i : ℕ) → t.from.0 ≤ i → i < r → is_stop (token_at l i) ≡ false = λ i low high. let q = f.before i (omega (arith, from)) high in search (rules, tests) in
    let here : r < t.to.0 → is_stop (token_at l r) ≡ true = λ h. let q = f.here (omega (arith, to)) in search (rules, tests) in
    stops-first _ _ _ _ _ r (omega (arith, from, f.low)) (omega (arith, to, f.high)) before here
