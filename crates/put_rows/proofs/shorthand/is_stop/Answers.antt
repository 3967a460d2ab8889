-- `is_stop` tells a Hash, a Percent and a one-byte Dots from other tokens, by its kind and its length. Assumes nothing.
use Rattle.std.proofs.Common.{rules, tests, sym, ap, ◌∙◌, ◌≡◌, ◌||◌, ℕ, true, eqb}
use Rattle.token.specs.Kind.{hash, percent}
use Rattle.token.proofs.Matched.{matched}
use Rattle.put_rows.proofs.GroupRows.{stop-either, stop-dots, stop-other}
use Rattle.runs.proofs.NamesLaws.{kind-of, one-long}
use Rattle.token.specs.Line.{token_at}
use Rattle.token.specs.Checked.{line_in, token_in}
use Rattle.put_rows.proofs.shorthand.is_stop.Goals as goal

pub returns-in-Ok-Hash : goal.returns-in-Ok-Hash
unfolding token_at
returns-in-Ok-Hash c =
    let q : (eqb c.kind.result hash || eqb c.kind.result percent) ≡ true = search (rules, tests) in
    stop-either (token_in c.args.token) (sym (ap (λ (n : ℕ). eqb n hash || eqb n percent) c.kind.ensures) ∙ q)

pub returns-in-Ok-Dots : goal.returns-in-Ok-Dots
returns-in-Ok-Dots c =
    let t = c.args.token in
    let k = matched (sym c.kind.ensures ∙ c.in-Ok-Dots.ensures) c.in-Ok-Dots.field-0-is in
    stop-dots (token_in t) (kind-of (line_in t.line) t.place.0 _ k) _ (one-long _ _ _ t.line.lent _ t.within _ c.length.ensures)

pub returns-in_default : goal.returns-in_default
unfolding token_at
returns-in_default c =
    let k = c.kind.ensures in
    stop-other (token_in c.args.token) (λ e. search rules) (λ e. search rules) (λ e. search rules)

pub returns-in_default-2 : goal.returns-in_default-2
unfolding token_at
returns-in_default-2 c =
    let k = c.kind.ensures in
    stop-other (token_in c.args.token) (λ e. search rules) (λ e. search rules) (λ e. search rules)
