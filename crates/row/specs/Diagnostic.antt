-- The diagnostics, each with its number (document 01, "The line, the rows, the set").
use Rattle.std.specs.Prelude.{ℕ, ◌≡◌, ◌<◌, ◌⊎◌, Result, Ok, Err}
use Rattle.row.specs.declared.diagnostic.NotADiagnostic.{NotADiagnostic}
use Rattle.row.specs.declared.diagnostic.Diagnostic.{Diagnostic}
use Rattle.row.specs.declared.diagnostic.Diagnostic.TheVariants.{InvalidIdAttribute, InvalidAttrList, InvalidEmptyIdAttribute, MoreThanOneIdAttribute}

-- "Diagnostics: 1 Invalid id attribute; 2 Invalid attr list; 3 Invalid empty id attribute (place 0, the list's own); 4 More than one id attribute."
abbrev pub diagnostic_number : Diagnostic → ℕ
diagnostic_number InvalidIdAttribute = 1
diagnostic_number InvalidAttrList = 2
diagnostic_number InvalidEmptyIdAttribute = 3
diagnostic_number MoreThanOneIdAttribute = 4

abbrev pub Gives : Diagnostic → ℕ → Type 0
Gives d n = n ≡ diagnostic_number d

-- a number is the diagnostic's that it is read as; 0 and what is over 4 are no diagnostic's
abbrev pub Decodes : ℕ → Result Diagnostic NotADiagnostic → Type 0
Decodes n (Ok d) = n ≡ diagnostic_number d
Decodes n (Err e) = ((n ≡ 0) ⊎ (4 < n)) × (e.0 ≡ n)
