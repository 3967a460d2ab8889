-- `next_bracket` asks of each two neighbours from `from` on whether the second closes. Assumes nothing.
use Rattle.std.proofs.Common.{rules, tests, arith, refl, sym, ap, ◌∙◌, ◌≡◌, ◌<◌, length, ℕ, ◌+◌, ◌-◌, ◌≤◌, Option, Some, None, List, get_or, take, drop, Bor}
use Rattle.std.specs.Prelude.{IfSome, IsSomeAnd}
use Rattle.std.specs.List.{IsSubsliceAt}
use Rattle.std.specs.Option.{option_map}
use Rattle.closing.proofs.Laws.{next-first, next-after, next_here, next-end, next_past, rest-at, rest-long}
use Rattle.closing.proofs.bracket.next_bracket.Goals as goal

-- what is asked of the window of two at place k of the tokens from `from` on is asked of the line's tokens behind it
neighbours : {P : Type 0} (kinds : List ℕ) (from n k : ℕ) (xs : List ℕ) (Q : Bor (List ℕ) → Type 0) (o : Option (Bor (List ℕ)))
    → n ≡ 2 → xs ≡ take (length kinds - from) (drop from kinds) → IsSomeAnd o Q
    → IfSome o (λ x. (length x.now ≡ n) × (k + n ≤ length xs) × IsSubsliceAt n xs k x.now)
    → ((y : Bor (List ℕ)) → from + 1 + k < length kinds → get_or y.now 0 0 ≡ get_or kinds (from + k) 0
    → get_or y.now 1 0 ≡ get_or kinds (from + 1 + k) 0 → Q y → P)
    → P
neighbours kinds from n k xs Q (Some y) two e q w then =
    let long = ap length e ∙ rest-long kinds from in
    let first : k + 0 ≡ k = omega arith in
    let second : from + (k + 1) ≡ from + 1 + k = omega arith in
    let read = w.2.2 in
    then y (omega (arith, long, w.1))
    (read 0 0 (omega arith) ∙ rw (first, e) (rest-at kinds from k (omega (arith, long, w.1))))
    (read 1 0 (omega arith) ∙ rw (e, ← second) (rest-at kinds from (k + 1) (omega (arith, long, w.1)))) q
neighbours kinds from n k xs Q None two e q w then = absurd q

-- an item that is there meets what is said of it where it is there
there : (v : ℕ) (Q : Bor (List ℕ) → Type 0) (o : Option (Bor (List ℕ))) → option_map (λ x. get_or x.now 0 0) o ≡ Some v → IfSome o Q → IsSomeAnd o Q
there v Q (Some y) e q = q
there v Q None e q = absurd (search rules)

pub returns-then-kinds-from : goal.returns-then-kinds-from
returns-then-kinds-from c = next-first c.args.kinds.now c.args.from.0 c.if-kinds-from.true

pub returns-in_err-passed : goal.returns-in_err-passed
returns-in_err-passed c =
    let kinds = c.args.kinds.now in
    let from = c.args.from.0 in
    let n = length kinds - (from + 1) in
    let r = c.in_err-passed.ensures.runs in
    let size = ap (λ s. s.parts.size) r.1 ∙ c.array_windows.ensures.size in
    let rest = ap (λ s. s.parts.rest.now) r.1 ∙ c.array_windows.ensures.rest in
    let w = c.array_windows.ensures.runs r.0 r.0.seen (omega (arith, size)) in
    let none = r.2.1 (λ a b f x. refl) in
    let all : r.0.len ≡ n = omega (arith, w.1 r.2.0, size, ap length rest, rest-long kinds from) in
    let passed : (k : ℕ) → k < n → get_or kinds (from + 1 + k) 0 ≡ 10 → get_or kinds (from + k) 0 ≡ 5 = λ k h e.
    neighbours kinds from _ k _ _ (r.0.at k) size rest (there _ _ _ (w.3 k 0 (omega (arith, all))) (none k)) (w.2 k) (λ y l f g q. sym f ∙ (let d = g ∙ e in search (rules, tests))) in
    c.from_residual.ensures ∙ next-end kinds (from + 1 + n) (omega arith) ∙ next_past kinds from n (omega arith) passed ∙ next-after kinds from c.if-kinds-from.false

pub returns : goal.returns
returns c =
    let kinds = c.args.kinds.now in
    let from = c.args.from.0 in
    let p = c.in_ok-passed.passed in
    let r = c.in_ok-passed.ensures.runs in
    let size = ap (λ s. s.parts.size) r.1 ∙ c.array_windows.ensures.size in
    let rest = ap (λ s. s.parts.rest.now) r.1 ∙ c.array_windows.ensures.rest in
    let w = c.array_windows.ensures.runs r.0 r.0.seen (omega (arith, size)) in
    let first = r.2.1 (λ a b f x. refl) in
    let passed : (k : ℕ) → k < p → get_or kinds (from + 1 + k) 0 ≡ 10 → get_or kinds (from + k) 0 ≡ 5 = λ k h e.
    neighbours kinds from _ k _ _ (r.0.at k) size rest (first.1 k h) (w.2 k) (λ y l f g q. sym f ∙ (let d = g ∙ e in search (rules, tests))) in
    let back : from + 1 + p - 1 ≡ from + p = omega arith in
    let closes : record { among : from + 1 + p < length kinds; bracket : get_or kinds (from + 1 + p) 0 ≡ 10; free : get_or kinds (from + p) 0 ≡ 5 → ⊥ } =
    neighbours kinds from _ p _ _ (r.0.at p) size rest first.0 (w.2 p) (λ y l f g q. record { among = l; bracket = sym g ∙ search (rules, tests); free = λ d. (let b = f ∙ d in search (rules, tests)) }) in
    next_here kinds (from + 1 + p) closes.among closes.bracket (rw back closes.free) ∙ next_past kinds from p (omega (arith, closes.among)) passed ∙ next-after kinds from c.if-kinds-from.false
