-- Every starting set is sound, as its tests compute.
use Rattle.std.specs.Prelude.{◌≡◌, refl, true}
use Rattle.substitutions.specs.Kinds.{flagged, each, sum}
use Rattle.substitutions.specs.Held.{times, small, empty, packed, once, covered, spare, spares, held, sound}
use Rattle.substitutions.specs.Moves.{empty_set}
use Rattle.substitutions.specs.Order.{flags_of}
use Rattle.substitutions.specs.Starting.{normal_set, verbatim_set, attr_value_set, only_special_chars_set, all_set}

pub none-sound : sound empty_set ≡ true
unfolding sound held small packed empty once covered spares spare times each sum flagged
none-sound = refl

pub normal-sound : sound normal_set ≡ true
unfolding sound held small packed empty once covered spares spare times each sum flagged flags_of
normal-sound = refl

pub verbatim-sound : sound verbatim_set ≡ true
unfolding sound held small packed empty once covered spares spare times each sum flagged flags_of
verbatim-sound = refl

pub attr-value-sound : sound attr_value_set ≡ true
unfolding sound held small packed empty once covered spares spare times each sum flagged flags_of
attr-value-sound = refl

pub only-special-chars-sound : sound only_special_chars_set ≡ true
unfolding sound held small packed empty once covered spares spare times each sum flagged flags_of
only-special-chars-sound = refl

pub all_sound : sound all_set ≡ true
unfolding sound held small packed empty once covered spares spare times each sum flagged flags_of
all_sound = refl
