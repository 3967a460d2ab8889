-- The limit of the slide viewer's label strip (document 02, slip 9).
use Rattle.std.specs.Prelude.{ℕ}

-- "the same reader with 256 tokens at most"
abbrev pub viewer_tokens : ℕ
viewer_tokens = 256
