-- The quote marks, each with its number (document 02, slip 2).
use Rattle.std.specs.Prelude.{ℕ, ◌≡◌, ◌<◌, Result, Ok, Err}
use Rattle.token.specs.declared.Run.{Run}
use Rattle.token.specs.declared.quotes.Unquoted.{Unquoted}
use Rattle.token.specs.declared.quotes.NotAQuoteMark.{NotAQuoteMark}
use Rattle.token.specs.declared.quotes.QuoteMark.{QuoteMark}
use Rattle.token.specs.declared.quotes.QuoteMark.TheVariants.{None, Double, Single}

-- "Taking off quotes must also report which were taken: 0 none, 1 double, 2 single."
abbrev pub mark_number : QuoteMark → ℕ
mark_number None = 0
mark_number Double = 1
mark_number Single = 2

-- a run, and which quotes were taken off
abbrev pub marked : Run → QuoteMark → Unquoted
marked r m = record { run = r; mark = m }

abbrev pub Gives : QuoteMark → ℕ → Type 0
Gives m n = n ≡ mark_number m

-- a number is the mark's that it is read as, and one over 2 is no mark's
abbrev pub Decodes : ℕ → Result QuoteMark NotAQuoteMark → Type 0
Decodes n (Ok m) = n ≡ mark_number m
Decodes n (Err e) = (2 < n) × (e.0 ≡ n)
