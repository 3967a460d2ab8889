-- What a diagnostic says (document 01, "The line, the rows, the set").
use Rattle.std.specs.Prelude.{ℕ, List, codes}
use Rattle.row.specs.declared.diagnostic.Diagnostic.{Diagnostic}
use Rattle.row.specs.declared.diagnostic.Diagnostic.TheVariants.{InvalidIdAttribute, InvalidAttrList, InvalidEmptyIdAttribute, MoreThanOneIdAttribute}

abbrev pub words : Diagnostic → List ℕ
words InvalidIdAttribute = codes "Invalid id attribute"
words InvalidAttrList = codes "Invalid attr list"
words InvalidEmptyIdAttribute = codes "Invalid empty id attribute"
words MoreThanOneIdAttribute = codes "More than one id attribute"
