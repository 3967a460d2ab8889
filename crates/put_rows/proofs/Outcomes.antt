-- What is written, as an outcome.
use Prim.Native.Nat.{ℕ, ◌+◌, ◌≤◌}
use native.Mathlib.Omega.{arith}
use mathlib.Core.Path.{◌≡◌, subst}
use mathlib.Core.List.{List}
use Rattle.row.specs.Row.{with_rows}
use Rattle.put_rows.specs.declared.Written.{Written}
use Rattle.put_rows.specs.Rows.{Read}
use Rattle.put_rows.specs.Written.{written, WroteId, Outcome}

module _ (before : List ℕ) (at : ℕ) (d D : Read) (after : List ℕ) (r : Written) (e : d ≡ D) where
  pub told : (most : ℕ) → WroteId before at d after r → r.rows ≤ at + most → Outcome D most before at r after
  told most w h =
      let v = subst (λ (x : Read). WroteId before at x after r) e w in
      record { answer = rw (← v.wrote.count, ← v.id); buffer = v.wrote.buffer; few = h }

  pub told-as : (m most : ℕ) → Outcome d m before at r after → m ≤ most → Outcome D most before at r after
  told-as m most w h =
      let v = subst (λ (x : Read). Outcome x m before at r after) e w in
      record { answer = v.answer; buffer = v.buffer; few = omega (arith, v.few, h) }

-- ---- what is written, as `attr_rows` of the crate `attr_list` says it

pub all_told : (before : List ℕ) (at : ℕ) (d D : Read) (after : List ℕ) (r : Written) (most : ℕ) → WroteId before at d after r → d ≡ D → r.rows ≤ most → (r ≡ written at D) × ((after ≡ with_rows before at D.rows) × (r.rows ≤ most))
all_told before at d D after r most w e h =
    let v = subst (λ (x : Read). WroteId before at x after r) e w in
    (rw (← v.wrote.count, ← v.id), (v.wrote.buffer, h))
