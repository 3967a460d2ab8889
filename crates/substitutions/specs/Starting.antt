-- The sets that the Rust starts a block with, each by the order of its kinds.
use Rattle.std.specs.Prelude.{[], ◌∷◌}
use Rattle.substitutions.specs.declared.Substitutions.{Substitutions}
use Rattle.substitutions.specs.Order.{set_of}

abbrev pub normal_set : Substitutions
normal_set = set_of (1 ∷ 2 ∷ 3 ∷ 4 ∷ 5 ∷ 6 ∷ [])

abbrev pub verbatim_set : Substitutions
verbatim_set = set_of (1 ∷ 7 ∷ [])

abbrev pub attr_value_set : Substitutions
attr_value_set = set_of (1 ∷ 2 ∷ 3 ∷ 4 ∷ [])

abbrev pub only_special_chars_set : Substitutions
only_special_chars_set = set_of (1 ∷ [])

abbrev pub all_set : Substitutions
all_set = set_of (1 ∷ 2 ∷ 3 ∷ 4 ∷ 5 ∷ 6 ∷ 7 ∷ [])
