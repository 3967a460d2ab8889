-- Names by their bytes.
use Rattle.std.specs.Prelude.{ℕ, Bool, true, false, ◌&&◌, ◌≡◌, List, [], ◌∷◌, ◌++◌, eqb, length, drop, Option, None, Some}
use Rattle.token.specs.Line.{Token}

-- the bytes of some tokens, one after the other
unfoldable pub bytes : List Token → List ℕ
bytes [] = []
bytes (t ∷ ts) = t.lexeme ++ bytes ts

unfoldable pub same_bytes : List ℕ → List ℕ → Bool
same_bytes [] [] = true
same_bytes [] (b ∷ bs) = false
same_bytes (a ∷ xs) [] = false
same_bytes (a ∷ xs) (b ∷ bs) = eqb a b && same_bytes xs bs

-- whether the second list begins with the first
unfoldable pub prefix : List ℕ → List ℕ → Bool
prefix [] bs = true
prefix (a ∷ xs) [] = false
prefix (a ∷ xs) (b ∷ bs) = eqb a b && prefix xs bs

-- what is left of the second list behind the first, if it begins with that
abbrev pub Stripped : (start name : List ℕ) → Option (List ℕ) → Type 0
Stripped start name None = prefix start name ≡ false
Stripped start name (Some left) = (prefix start name ≡ true) × (left ≡ drop (length start) name)
