-- Dots, Hash and Percent by their kinds.
use Rattle.std.proofs.Math.Nat.{suc-ne-zero}
use Rattle.std.proofs.Common.{◌≡◌, ◌||◌, ℕ, true, false, subst, eqb}
use Rattle.token.specs.Kind.{attr_ref, dots, hash, percent}

-- an AttrRef is none
pub symbol-kept : (k : ℕ) → (eqb k dots || eqb k hash || eqb k percent) ≡ true → k ≡ attr_ref → ⊥
symbol-kept k e z =
    let f : false ≡ true = subst (λ (n : ℕ). (eqb n dots || eqb n hash || eqb n percent) ≡ true) z e in
    absurd (suc-ne-zero 0 cc)
