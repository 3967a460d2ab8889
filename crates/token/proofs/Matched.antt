-- The kind that a number is, where a match took an arm.
use Prim.Native.Nat.{ℕ}
use mathlib.Core.Path.{◌≡◌, ap, ◌∙◌}
use Rattle.token.specs.declared.kind.TokenKind.{TokenKind}
use Rattle.token.specs.KindNumber.{number_of}

-- the number of a kind that is b is the number of b
pub matched : {k : ℕ} {a b : TokenKind} → k ≡ number_of a → a ≡ b → k ≡ number_of b
matched e f = e ∙ ap number_of f
