-- The kinds of the code, each with its number of `TokenKind`'s order.
use Rattle.std.specs.Prelude.{ℕ, ◌≡◌, ◌<◌, Result, Ok, Err}
use Rattle.token.specs.declared.kind.NotAKind.{NotAKind}
use Rattle.token.specs.declared.kind.TokenKind.{TokenKind}
use Rattle.token.specs.declared.kind.TokenKind.TheVariants.{Ampersand, AttrDef, AttrPassDbl, AttrRef, Backtick, Backslash, Bang, CalloutNumber, Caret, CloseBrace, CloseBracket, CloseParens, Colon, Comma, Dashes, DelimiterLine, Digits, Directive, Discard, DoubleQuote, Dots, Email, Entity, EqualSigns, Eof, ForwardSlashes, GreaterThan, Hash, LessThan, MacroName, MaybeEmail, Newline, NoBreakSpace, OpenBrace, OpenBracket, OpenParens, Percent, Pipe, Plus, PreprocPassthru, Punctuation, QuestionMark, SemiColon, SingleQuote, Star, TermDelimiter, Tilde, Underscore, UriScheme, Whitespace, Word}
use Rattle.token.specs.Kind as kind

abbrev pub number_of : TokenKind → ℕ
number_of Ampersand = kind.ampersand
number_of AttrDef = kind.attr_def
number_of AttrPassDbl = kind.attr_pass_dbl
number_of AttrRef = kind.attr_ref
number_of Backtick = kind.backtick
number_of Backslash = kind.backslash
number_of Bang = kind.bang
number_of CalloutNumber = kind.callout_number
number_of Caret = kind.caret
number_of CloseBrace = kind.close_brace
number_of CloseBracket = kind.close_bracket
number_of CloseParens = kind.close_parens
number_of Colon = kind.colon
number_of Comma = kind.comma
number_of Dashes = kind.dashes
number_of DelimiterLine = kind.delimiter_line
number_of Digits = kind.digits
number_of Directive = kind.directive
number_of Discard = kind.discard
number_of DoubleQuote = kind.double_quote
number_of Dots = kind.dots
number_of Email = kind.email
number_of Entity = kind.entity
number_of EqualSigns = kind.equal_signs
number_of Eof = kind.eof
number_of ForwardSlashes = kind.forward_slashes
number_of GreaterThan = kind.greater_than
number_of Hash = kind.hash
number_of LessThan = kind.less_than
number_of MacroName = kind.macro_name
number_of MaybeEmail = kind.maybe_email
number_of Newline = kind.newline
number_of NoBreakSpace = kind.no_break_space
number_of OpenBrace = kind.open_brace
number_of OpenBracket = kind.open_bracket
number_of OpenParens = kind.open_parens
number_of Percent = kind.percent
number_of Pipe = kind.pipe
number_of Plus = kind.plus
number_of PreprocPassthru = kind.preproc_passthru
number_of Punctuation = kind.punctuation
number_of QuestionMark = kind.question_mark
number_of SemiColon = kind.semi_colon
number_of SingleQuote = kind.single_quote
number_of Star = kind.star
number_of TermDelimiter = kind.term_delimiter
number_of Tilde = kind.tilde
number_of Underscore = kind.underscore
number_of UriScheme = kind.uri_scheme
number_of Whitespace = kind.whitespace
number_of Word = kind.word

abbrev pub Gives : TokenKind → ℕ → Type 0
Gives k n = n ≡ number_of k

-- a byte is the number of the kind that it is read as, and one over the largest is no kind's
abbrev pub Decodes : ℕ → Result TokenKind NotAKind → Type 0
Decodes n (Ok k) = n ≡ number_of k
Decodes n (Err e) = (kind.largest < n) × (e.0 ≡ n)
