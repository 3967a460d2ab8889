-- "Kinds are 0 to 50 in the order of `TokenKind`": the kinds by the Rust's names.
use Rattle.std.specs.Prelude.{ℕ, List, [], ◌∷◌, get_or}

abbrev pub ampersand : ℕ
ampersand = 0

abbrev pub attr_def : ℕ
attr_def = 1

abbrev pub attr_pass_dbl : ℕ
attr_pass_dbl = 2

abbrev pub attr_ref : ℕ
attr_ref = 3

abbrev pub backtick : ℕ
backtick = 4

abbrev pub backslash : ℕ
backslash = 5

abbrev pub bang : ℕ
bang = 6

abbrev pub callout_number : ℕ
callout_number = 7

abbrev pub caret : ℕ
caret = 8

abbrev pub close_brace : ℕ
close_brace = 9

abbrev pub close_bracket : ℕ
close_bracket = 10

abbrev pub close_parens : ℕ
close_parens = 11

abbrev pub colon : ℕ
colon = 12

abbrev pub comma : ℕ
comma = 13

abbrev pub dashes : ℕ
dashes = 14

abbrev pub delimiter_line : ℕ
delimiter_line = 15

abbrev pub digits : ℕ
digits = 16

abbrev pub directive : ℕ
directive = 17

abbrev pub discard : ℕ
discard = 18

abbrev pub double_quote : ℕ
double_quote = 19

abbrev pub dots : ℕ
dots = 20

abbrev pub email : ℕ
email = 21

abbrev pub entity : ℕ
entity = 22

abbrev pub equal_signs : ℕ
equal_signs = 23

abbrev pub eof : ℕ
eof = 24

abbrev pub forward_slashes : ℕ
forward_slashes = 25

abbrev pub greater_than : ℕ
greater_than = 26

abbrev pub hash : ℕ
hash = 27

abbrev pub less_than : ℕ
less_than = 28

abbrev pub macro_name : ℕ
macro_name = 29

abbrev pub maybe_email : ℕ
maybe_email = 30

abbrev pub newline : ℕ
newline = 31

abbrev pub no_break_space : ℕ
no_break_space = 32

abbrev pub open_brace : ℕ
open_brace = 33

abbrev pub open_bracket : ℕ
open_bracket = 34

abbrev pub open_parens : ℕ
open_parens = 35

abbrev pub percent : ℕ
percent = 36

abbrev pub pipe : ℕ
pipe = 37

abbrev pub plus : ℕ
plus = 38

abbrev pub preproc_passthru : ℕ
preproc_passthru = 39

abbrev pub punctuation : ℕ
punctuation = 40

abbrev pub question_mark : ℕ
question_mark = 41

abbrev pub semi_colon : ℕ
semi_colon = 42

abbrev pub single_quote : ℕ
single_quote = 43

abbrev pub star : ℕ
star = 44

abbrev pub term_delimiter : ℕ
term_delimiter = 45

abbrev pub tilde : ℕ
tilde = 46

abbrev pub underscore : ℕ
underscore = 47

abbrev pub uri_scheme : ℕ
uri_scheme = 48

abbrev pub whitespace : ℕ
whitespace = 49

abbrev pub word : ℕ
word = 50

-- the largest of them
abbrev pub largest : ℕ
largest = word

-- every kind, in the order of `TokenKind`: their numbers are their places in it
abbrev pub order : List ℕ
order =
    ampersand
    ∷ attr_def
    ∷ attr_pass_dbl
    ∷ attr_ref
    ∷ backtick
    ∷ backslash
    ∷ bang
    ∷ callout_number
    ∷ caret
    ∷ close_brace
    ∷ close_bracket
    ∷ close_parens
    ∷ colon
    ∷ comma
    ∷ dashes
    ∷ delimiter_line
    ∷ digits
    ∷ directive
    ∷ discard
    ∷ double_quote
    ∷ dots
    ∷ email
    ∷ entity
    ∷ equal_signs
    ∷ eof
    ∷ forward_slashes
    ∷ greater_than
    ∷ hash
    ∷ less_than
    ∷ macro_name
    ∷ maybe_email
    ∷ newline
    ∷ no_break_space
    ∷ open_brace
    ∷ open_bracket
    ∷ open_parens
    ∷ percent
    ∷ pipe
    ∷ plus
    ∷ preproc_passthru
    ∷ punctuation
    ∷ question_mark
    ∷ semi_colon
    ∷ single_quote
    ∷ star
    ∷ term_delimiter
    ∷ tilde
    ∷ underscore
    ∷ uri_scheme
    ∷ whitespace
    ∷ word
    ∷ []

-- the kind of the token at place p
abbrev pub kind_at : List ℕ → ℕ → ℕ
kind_at kinds p = get_or kinds p 0
