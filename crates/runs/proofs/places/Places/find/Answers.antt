-- `find` asks of one place after the other. Assumes nothing.
use Rattle.std.proofs.Common.{ℕ, ◌+◌, ◌≤◌, ◌<◌, ◌≡◌, arith, subst}
use Rattle.std.proofs.Math.Decide.{dec_lt}
use Rattle.runs.proofs.places.Places.find.Goals as goal

-- what holds of each place from..i and of i holds of each place from..i + 1
and-here : (P : ℕ → Type 0) (from i : ℕ) → ((j : ℕ) → from ≤ j → j < i → P j) → P i → (j : ℕ) → from ≤ j → j < i + 1 → P j
and-here P from i before here j low high = go (dec_lt j i)
  where
    go : Dec (j < i) → P j
    go (yes h) = before j low h
    go (no h) = let e : i ≡ j = omega arith in subst P e here

pub loop-i-init : goal.loop-i-init
loop-i-init g c = λ j low high. absurd (omega arith)

pub loop-i-preserved : goal.loop-i-preserved
loop-i-preserved g c = and-here _ _ _ c.loop-i.invariant c.if-wanted.ensures

pub returns-then-wanted : goal.returns-then-wanted
returns-then-wanted g c = record { low = omega arith; high = omega arith; before = c.loop-i.invariant; here = λ _. c.if-wanted.ensures }

pub returns : goal.returns
returns g c = record { low = omega arith; high = omega arith; before = λ j low high. c.loop-i.invariant j low (omega arith); here = λ h. absurd (omega arith) }
