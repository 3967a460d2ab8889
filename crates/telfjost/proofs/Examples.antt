-- Document 01's cases that it marks P, lines and subs texts, in one list, proved by one fact about the definitions; and lines for document 02's quote
-- marks and commas taken back.
use Rattle.std.specs.Prelude.{ℕ, ◌+◌, true, ◌≡◌, refl, List, [], ◌∷◌, ◌++◌, map, length}
use Rattle.substitutions.specs.declared.Mode.{Mode}
use Rattle.substitutions.specs.declared.Mode.TheVariants.{Port, Sheet}
use Rattle.substitutions.specs.declared.Substitutions.{Substitutions}
use Rattle.substitutions.specs.declared.SetAnswer.{SetAnswer}
use Rattle.substitutions.specs.Moves.{set}
use Rattle.subs_names.specs.Names.{callouts, verbatim, quotes, macros}
use Rattle.token.specs.Kind.{attr_ref, close_bracket, comma, digits, double_quote, dots, equal_signs, hash, percent, single_quote, word}
use Rattle.token.specs.Line.{run}
use Rattle.token.specs.declared.quotes.QuoteMark.TheVariants as mark
use Rattle.row.specs.Row.{empty_positional, positional, named, ident, role, option, diagnostic, plain}
use Rattle.attr_list.specs.declared.entries.Entry.{Entry}
use Rattle.attr_list.specs.declared.entries.Entry.TheVariants.{Block, Link}
use Rattle.attr_ir.specs.Ir as attr-ir-ir
use Rattle.attr_ir.specs.Look as attr-ir-look
use Rattle.attr_list.specs.Reading as attr-list-reading
use Rattle.list_rows.specs.ListRows as list-rows-list-rows
use Rattle.attribute.specs.Attribute as attribute-attribute
use Rattle.put_rows.specs.Rows as put-rows-rows
use Rattle.closing.specs.Closing as closing-closing
use Rattle.closing.specs.Link as closing-link
use Rattle.customize_subs.specs.Customizing as customize-subs-customizing
use Rattle.customize_subs.specs.Text as customize-subs-text
use Rattle.delimiters.specs.Count as delimiters-count
use Rattle.delimiters.specs.Delimit as delimiters-delimit
use Rattle.subs_names.specs.Names as subs-names-names
use Rattle.substitutions.specs.Held as substitutions-held
use Rattle.substitutions.specs.Kinds as substitutions-kinds
use Rattle.substitutions.specs.Moves as substitutions-moves
use Rattle.token.specs.Line as token-line
use Rattle.runs.specs.Names as runs-names
use Rattle.runs.specs.Run as runs-run

-- ---- the lines

-- an entry; a line by the kinds and lexemes of its tokens, which follow one another; how many numbers the row buffer has; what is given
pub record LineCase : Type 0 where
  pub entry : Entry
  pub kinds : List ℕ
  pub lexemes : List (List ℕ)
  pub room : ℕ
  pub gives : attr-list-reading.Reading

-- the text, and the pairs of tokens that begin at `offset`
unfoldable pub text_of : List (List ℕ) → List ℕ
text_of [] = []
text_of (x ∷ xs) = x ++ text_of xs

unfoldable pub pairs_from : (offset : ℕ) → List (List ℕ) → List ℕ
pairs_from offset [] = []
pairs_from offset (x ∷ xs) = offset ∷ length x ∷ pairs_from (offset + length x) xs

-- the lines that document 01 marks P, in its order: the block entry, and room for a row for each token
abbrev pub lines : List LineCase
lines =
    -- `]`
    record {
      entry = Block;
      kinds = close_bracket ∷ [];
      lexemes = (93 ∷ []) ∷ [];
      room = 6;
      gives = attr-list-reading.gives [] 1 0;
    }
    -- `a,b]`
    ∷ record {
      entry = Block;
      kinds = word ∷ comma ∷ word ∷ close_bracket ∷ [];
      lexemes = (97 ∷ []) ∷ (44 ∷ []) ∷ (98 ∷ []) ∷ (93 ∷ []) ∷ [];
      room = 24;
      gives = attr-list-reading.gives (positional (run 0 1) mark.None ∷ positional (run 2 1) mark.None ∷ []) 4 0;
    }
    -- `a,]`
    ∷ record {
      entry = Block;
      kinds = word ∷ comma ∷ close_bracket ∷ [];
      lexemes = (97 ∷ []) ∷ (44 ∷ []) ∷ (93 ∷ []) ∷ [];
      room = 18;
      gives = attr-list-reading.gives (positional (run 0 1) mark.None ∷ empty_positional ∷ []) 3 0;
    }
    -- `k="a,b",c]`
    ∷ record {
      entry = Block;
      kinds = word ∷ equal_signs ∷ double_quote ∷ word ∷ comma ∷ word ∷ double_quote ∷ comma ∷ word ∷ close_bracket ∷ [];
      lexemes = (107 ∷ []) ∷ (61 ∷ []) ∷ (34 ∷ []) ∷ (97 ∷ []) ∷ (44 ∷ []) ∷ (98 ∷ []) ∷ (34 ∷ []) ∷ (44 ∷ []) ∷ (99 ∷ []) ∷ (93 ∷ []) ∷ [];
      room = 60;
      gives = attr-list-reading.gives (named (run 0 1) (run 3 3) mark.Double ∷ positional (run 8 1) mark.None ∷ []) 10 1;
    }
    -- `",'",']`: the pairs cross, and the comma at 4 divides
    ∷ record {
      entry = Block;
      kinds = double_quote ∷ comma ∷ single_quote ∷ double_quote ∷ comma ∷ single_quote ∷ close_bracket ∷ [];
      lexemes = (34 ∷ []) ∷ (44 ∷ []) ∷ (39 ∷ []) ∷ (34 ∷ []) ∷ (44 ∷ []) ∷ (39 ∷ []) ∷ (93 ∷ []) ∷ [];
      room = 42;
      gives = attr-list-reading.gives (positional (run 1 2) mark.Double ∷ positional (run 5 1) mark.None ∷ []) 7 1;
    }
    -- `a==b=c]`
    ∷ record {
      entry = Block;
      kinds = word ∷ equal_signs ∷ word ∷ equal_signs ∷ word ∷ close_bracket ∷ [];
      lexemes = (97 ∷ []) ∷ (61 ∷ 61 ∷ []) ∷ (98 ∷ []) ∷ (61 ∷ []) ∷ (99 ∷ []) ∷ (93 ∷ []) ∷ [];
      room = 36;
      gives = attr-list-reading.gives (named (run 0 1) (run 2 3) mark.None ∷ []) 6 0;
    }
    -- `.x#y%]`
    ∷ record {
      entry = Block;
      kinds = dots ∷ word ∷ hash ∷ word ∷ percent ∷ close_bracket ∷ [];
      lexemes = (46 ∷ []) ∷ (120 ∷ []) ∷ (35 ∷ []) ∷ (121 ∷ []) ∷ (37 ∷ []) ∷ (93 ∷ []) ∷ [];
      room = 36;
      gives = attr-list-reading.gives (role (run 1 1) ∷ ident (run 3 1) mark.None ∷ diagnostic 4 1 ∷ []) 6 0;
    }
    -- `#%o]`
    ∷ record {
      entry = Block;
      kinds = hash ∷ percent ∷ word ∷ close_bracket ∷ [];
      lexemes = (35 ∷ []) ∷ (37 ∷ []) ∷ (111 ∷ []) ∷ (93 ∷ []) ∷ [];
      room = 24;
      gives = attr-list-reading.gives (ident (run 0 0) mark.None ∷ option (run 2 1) ∷ []) 4 0;
    }
    -- `a...b.c]`
    ∷ record {
      entry = Block;
      kinds = word ∷ dots ∷ word ∷ dots ∷ word ∷ close_bracket ∷ [];
      lexemes = (97 ∷ []) ∷ (46 ∷ 46 ∷ 46 ∷ []) ∷ (98 ∷ []) ∷ (46 ∷ []) ∷ (99 ∷ []) ∷ (93 ∷ []) ∷ [];
      room = 36;
      gives = attr-list-reading.gives (positional (run 0 1) mark.None ∷ diagnostic 1 2 ∷ []) 6 0;
    }
    ∷ []

-- ---- the subs texts

-- A subs text put on a set, and the set that comes of it.
pub record SubsCase : Type 0 where
  pub mode : Mode
  pub given : Substitutions
  pub text : List ℕ
  pub made : Substitutions

-- kinds 1 to 6
abbrev pub one_to_six : Substitutions
one_to_six = set (1 ∷ 2 ∷ 3 ∷ 4 ∷ 5 ∷ 6 ∷ 0 ∷ []) 63

abbrev onto : Mode → Substitutions → List ℕ → Substitutions → SubsCase
onto m s text t = record { mode = m; given = s; text = text; made = t }

-- the subs texts that document 01 marks P, in both modes
abbrev pub texts : List SubsCase
texts =
    -- `+callouts` on kinds 1 to 6: same order, flags 127; sheet mode: 7 last
    onto Port one_to_six (43 ∷ callouts) (set (1 ∷ 2 ∷ 3 ∷ 4 ∷ 5 ∷ 6 ∷ 0 ∷ []) 127)
    ∷ onto Sheet one_to_six (43 ∷ callouts) (set (1 ∷ 2 ∷ 3 ∷ 4 ∷ 5 ∷ 6 ∷ 7 ∷ []) 127)
    -- `verbatim`: 1, 4, flags 9; sheet mode 1, 7, flags 65
    ∷ onto Port one_to_six verbatim (set (1 ∷ 4 ∷ 0 ∷ 0 ∷ 0 ∷ 0 ∷ 0 ∷ []) 9)
    ∷ onto Sheet one_to_six verbatim (set (1 ∷ 7 ∷ 0 ∷ 0 ∷ 0 ∷ 0 ∷ 0 ∷ []) 65)
    -- `quotes, macros`: 2, flags 2; sheet mode 2, 5, flags 18
    ∷ onto Port one_to_six (quotes ++ (44 ∷ 32 ∷ macros)) (set (2 ∷ 0 ∷ 0 ∷ 0 ∷ 0 ∷ 0 ∷ 0 ∷ []) 2)
    ∷ onto Sheet one_to_six (quotes ++ (44 ∷ 32 ∷ macros)) (set (2 ∷ 5 ∷ 0 ∷ 0 ∷ 0 ∷ 0 ∷ 0 ∷ []) 18)
    ∷ []

-- ---- all of them

-- what is put to a reader, and what it gives
pub data Put : Type 0 where
  line : LineCase → Put
  subs : SubsCase → Put

pub data Given : Type 0 where
  rows : attr-list-reading.Reading → Given
  answer : SetAnswer → Given

pub record Marked : Type 0 where
  pub put : Put
  pub gives : Given

-- what the definitions give
abbrev pub reading_of : LineCase → attr-list-reading.Reading
reading_of c = attr-list-reading.reading token-line.most_tokens c.entry (token-line.line_of c.kinds (text_of c.lexemes) (pairs_from 0 c.lexemes)) c.room

abbrev pub gives : Put → Given
gives (line c) = rows (reading_of c)
gives (subs c) = answer (customize-subs-customizing.meta_answer c.mode c.given true c.text)

-- what is due: of a line the rows, tokens consumed and commas taken back; of a subs text the set, and no refusal
abbrev pub marked_line : LineCase → Marked
marked_line c = record { put = line c; gives = rows c.gives }

abbrev pub marked_subs : SubsCase → Marked
marked_subs c = record { put = subs c; gives = answer (record { refusal = 0; set = c.made }) }

abbrev pub marked : List Marked
marked = map marked_line lines ++ map marked_subs texts

abbrev pub computed : Marked → Marked
computed m = record { put = m.put; gives = gives m.put }

pub marked-hold : map computed marked ≡ marked
unfolding text_of pairs_from token-line.token_at token-line.tokens token-line.some_over token-line.misplaced token-line.refusal runs-run.without runs-run.up_to runs-run.onward runs-run.last_of runs-run.front runs-run.kept runs-run.trim_start runs-run.leave runs-run.trim_end runs-run.trim runs-run.quote_mark runs-run.quoted runs-run.inside runs-run.unquote runs-run.run_of runs-names.bytes runs-names.same_bytes delimiters-count.counted delimiters-delimit.start delimiters-delimit.at_comma delimiters-delimit.rejoin delimiters-delimit.rejoin_times delimiters-delimit.rejoin_to delimiters-delimit.note delimiters-delimit.at_quote delimiters-delimit.step delimiters-delimit.after delimiters-delimit.dividing delimiters-delimit.rejoined delimiters-delimit.parted delimiters-delimit.attributes closing-closing.last_bracket closing-closing.unescaped closing-closing.next_bracket closing-link.turn closing-link.look_from closing-link.link_macro attr-ir-look.symbol_sight attr-ir-look.sight attr-ir-look.look attr-ir-ir.name_tokens attr-ir-ir.value attr-ir-ir.value_mark attr-ir-ir.value_tokens attr-ir-ir.name_of attr-ir-ir.named_ir attr-ir-ir.key_value_ir attr-ir-ir.ir_as attr-ir-ir.attr_ir put-rows-rows.pieces put-rows-rows.shorthand_read put-rows-rows.later_groups put-rows-rows.groups put-rows-rows.group_rows put-rows-rows.id_read attribute-attribute.cut_read attribute-attribute.ir_read attribute-attribute.reading attribute-attribute.attribute_in attribute-attribute.attribute list-rows-list-rows.rows_from closing-closing.last_begins attr-list-reading.lent_refusal attr-list-reading.reading customize-subs-customizing.meta_answer customize-subs-customizing.meta_refusal customize-subs-customizing.meta_of customize-subs-customizing.start_of customize-subs-customizing.through customize-subs-customizing.stepped customize-subs-customizing.name_of customize-subs-customizing.strategy_of customize-subs-customizing.entered customize-subs-text.modified customize-subs-text.spaced customize-subs-text.back customize-subs-text.blank customize-subs-text.front customize-subs-text.split customize-subs-text.on_first subs-names-names.lookup_of subs-names-names.same substitutions-moves.answer substitutions-moves.refusal_of substitutions-moves.prepend_of substitutions-moves.remove_of substitutions-moves.insert_of substitutions-moves.led substitutions-moves.without substitutions-moves.filled substitutions-held.sound substitutions-held.held substitutions-held.spares substitutions-held.spare substitutions-held.covered substitutions-held.once substitutions-held.packed substitutions-held.empty substitutions-held.small substitutions-held.times substitutions-kinds.sum substitutions-kinds.each substitutions-kinds.flagged
marked-hold = refl

-- ---- which quotes were taken off

-- lines of document 02's quote marks, slip 2, with room for a row for each token
abbrev quoted_lines : List LineCase
quoted_lines =
    -- `id="x"]`
    record {
      entry = Block;
      kinds = word ∷ equal_signs ∷ double_quote ∷ word ∷ double_quote ∷ close_bracket ∷ [];
      lexemes = (105 ∷ 100 ∷ []) ∷ (61 ∷ []) ∷ (34 ∷ []) ∷ (120 ∷ []) ∷ (34 ∷ []) ∷ (93 ∷ []) ∷ [];
      room = 36;
      gives = attr-list-reading.gives (ident (run 3 1) mark.Double ∷ []) 6 0;
    }
    -- `id='x']`
    ∷ record {
      entry = Block;
      kinds = word ∷ equal_signs ∷ single_quote ∷ word ∷ single_quote ∷ close_bracket ∷ [];
      lexemes = (105 ∷ 100 ∷ []) ∷ (61 ∷ []) ∷ (39 ∷ []) ∷ (120 ∷ []) ∷ (39 ∷ []) ∷ (93 ∷ []) ∷ [];
      room = 36;
      gives = attr-list-reading.gives (ident (run 3 1) mark.Single ∷ []) 6 0;
    }
    -- `#x]`: an id of shorthand did not go through unquoting
    ∷ record {
      entry = Block;
      kinds = hash ∷ word ∷ close_bracket ∷ [];
      lexemes = (35 ∷ []) ∷ (120 ∷ []) ∷ (93 ∷ []) ∷ [];
      room = 18;
      gives = attr-list-reading.gives (ident (run 1 1) mark.None ∷ []) 3 0;
    }
    -- `role="a"]`: nor did a role or an option, split out of a list that did
    ∷ record {
      entry = Block;
      kinds = word ∷ equal_signs ∷ double_quote ∷ word ∷ double_quote ∷ close_bracket ∷ [];
      lexemes = (114 ∷ 111 ∷ 108 ∷ 101 ∷ []) ∷ (61 ∷ []) ∷ (34 ∷ []) ∷ (97 ∷ []) ∷ (34 ∷ []) ∷ (93 ∷ []) ∷ [];
      room = 36;
      gives = attr-list-reading.gives (role (run 3 1) ∷ []) 6 0;
    }
    -- `opts='a,b']`
    ∷ record {
      entry = Block;
      kinds = word ∷ equal_signs ∷ single_quote ∷ word ∷ comma ∷ word ∷ single_quote ∷ close_bracket ∷ [];
      lexemes = (111 ∷ 112 ∷ 116 ∷ 115 ∷ []) ∷ (61 ∷ []) ∷ (39 ∷ []) ∷ (97 ∷ []) ∷ (44 ∷ []) ∷ (98 ∷ []) ∷ (39 ∷ []) ∷ (93 ∷ []) ∷ [];
      room = 48;
      gives = attr-list-reading.gives (option (run 3 1) ∷ option (run 5 1) ∷ []) 8 1;
    }
    -- `""]`: quotes with nothing between them
    ∷ record {
      entry = Block;
      kinds = double_quote ∷ double_quote ∷ close_bracket ∷ [];
      lexemes = (34 ∷ []) ∷ (34 ∷ []) ∷ (93 ∷ []) ∷ [];
      room = 18;
      gives = attr-list-reading.gives (positional (run 0 0) mark.Double ∷ []) 3 0;
    }
    -- `k=""]`
    ∷ record {
      entry = Block;
      kinds = word ∷ equal_signs ∷ double_quote ∷ double_quote ∷ close_bracket ∷ [];
      lexemes = (107 ∷ []) ∷ (61 ∷ []) ∷ (34 ∷ []) ∷ (34 ∷ []) ∷ (93 ∷ []) ∷ [];
      room = 30;
      gives = attr-list-reading.gives (named (run 0 1) (run 0 0) mark.Double ∷ []) 5 0;
    }
    -- `id=""]`: a diagnostic
    ∷ record {
      entry = Block;
      kinds = word ∷ equal_signs ∷ double_quote ∷ double_quote ∷ close_bracket ∷ [];
      lexemes = (105 ∷ 100 ∷ []) ∷ (61 ∷ []) ∷ (34 ∷ []) ∷ (34 ∷ []) ∷ (93 ∷ []) ∷ [];
      room = 30;
      gives = attr-list-reading.gives (diagnostic 0 3 ∷ []) 5 0;
    }
    -- `subs="a"]`: tag 8
    ∷ record {
      entry = Block;
      kinds = word ∷ equal_signs ∷ double_quote ∷ word ∷ double_quote ∷ close_bracket ∷ [];
      lexemes = (115 ∷ 117 ∷ 98 ∷ 115 ∷ []) ∷ (61 ∷ []) ∷ (34 ∷ []) ∷ (97 ∷ []) ∷ (34 ∷ []) ∷ (93 ∷ []) ∷ [];
      room = 36;
      gives = attr-list-reading.gives (plain (run 0 1) (run 3 1) mark.Double ∷ []) 6 0;
    }
    -- `"a]`: no two quotes of one kind
    ∷ record {
      entry = Block;
      kinds = double_quote ∷ word ∷ close_bracket ∷ [];
      lexemes = (34 ∷ []) ∷ (97 ∷ []) ∷ (93 ∷ []) ∷ [];
      room = 18;
      gives = attr-list-reading.gives (positional (run 0 2) mark.None ∷ []) 3 0;
    }
    -- `"a']`
    ∷ record {
      entry = Block;
      kinds = double_quote ∷ word ∷ single_quote ∷ close_bracket ∷ [];
      lexemes = (34 ∷ []) ∷ (97 ∷ []) ∷ (39 ∷ []) ∷ (93 ∷ []) ∷ [];
      room = 24;
      gives = attr-list-reading.gives (positional (run 0 3) mark.None ∷ []) 4 0;
    }
    -- `"{x}a"]`: an AttrRef between the quote and the run
    ∷ record {
      entry = Block;
      kinds = double_quote ∷ attr_ref ∷ word ∷ double_quote ∷ close_bracket ∷ [];
      lexemes = (34 ∷ []) ∷ (123 ∷ 120 ∷ 125 ∷ []) ∷ (97 ∷ []) ∷ (34 ∷ []) ∷ (93 ∷ []) ∷ [];
      room = 30;
      gives = attr-list-reading.gives (positional (run 2 1) mark.Double ∷ []) 5 0;
    }
    -- `"a".b]`: nothing was taken
    ∷ record {
      entry = Block;
      kinds = double_quote ∷ word ∷ double_quote ∷ dots ∷ word ∷ close_bracket ∷ [];
      lexemes = (34 ∷ []) ∷ (97 ∷ []) ∷ (34 ∷ []) ∷ (46 ∷ []) ∷ (98 ∷ []) ∷ (93 ∷ []) ∷ [];
      room = 36;
      gives = attr-list-reading.gives (positional (run 0 5) mark.None ∷ []) 6 0;
    }
    -- `a.b]`: what was cut
    ∷ record {
      entry = Block;
      kinds = word ∷ dots ∷ word ∷ close_bracket ∷ [];
      lexemes = (97 ∷ []) ∷ (46 ∷ []) ∷ (98 ∷ []) ∷ (93 ∷ []) ∷ [];
      room = 24;
      gives = attr-list-reading.gives (positional (run 0 1) mark.None ∷ role (run 2 1) ∷ []) 4 0;
    }
    -- `a."b"]`: quotes in the tail of a cut stay
    ∷ record {
      entry = Block;
      kinds = word ∷ dots ∷ double_quote ∷ word ∷ double_quote ∷ close_bracket ∷ [];
      lexemes = (97 ∷ []) ∷ (46 ∷ []) ∷ (34 ∷ []) ∷ (98 ∷ []) ∷ (34 ∷ []) ∷ (93 ∷ []) ∷ [];
      room = 36;
      gives = attr-list-reading.gives (positional (run 0 1) mark.None ∷ role (run 2 3) ∷ []) 6 0;
    }
    -- `"text"]`: a link's text
    ∷ record {
      entry = Link;
      kinds = double_quote ∷ word ∷ double_quote ∷ close_bracket ∷ [];
      lexemes = (34 ∷ []) ∷ (116 ∷ 101 ∷ 120 ∷ 116 ∷ []) ∷ (34 ∷ []) ∷ (93 ∷ []) ∷ [];
      room = 24;
      gives = attr-list-reading.gives (positional (run 1 1) mark.Double ∷ []) 4 0;
    }
    ∷ []

pub quotes-hold : map computed (map marked_line quoted_lines) ≡ map marked_line quoted_lines
unfolding text_of pairs_from token-line.token_at token-line.tokens token-line.some_over token-line.misplaced token-line.refusal runs-run.without runs-run.up_to runs-run.onward runs-run.last_of runs-run.front runs-run.kept runs-run.trim_start runs-run.leave runs-run.trim_end runs-run.trim runs-run.quote_mark runs-run.quoted runs-run.inside runs-run.unquote runs-run.run_of runs-names.bytes runs-names.same_bytes delimiters-count.counted delimiters-delimit.start delimiters-delimit.at_comma delimiters-delimit.rejoin delimiters-delimit.rejoin_times delimiters-delimit.rejoin_to delimiters-delimit.note delimiters-delimit.at_quote delimiters-delimit.step delimiters-delimit.after delimiters-delimit.dividing delimiters-delimit.rejoined delimiters-delimit.parted delimiters-delimit.attributes closing-closing.last_bracket closing-closing.unescaped closing-closing.next_bracket closing-link.turn closing-link.look_from closing-link.link_macro attr-ir-look.symbol_sight attr-ir-look.sight attr-ir-look.look attr-ir-ir.name_tokens attr-ir-ir.value attr-ir-ir.value_mark attr-ir-ir.value_tokens attr-ir-ir.name_of attr-ir-ir.named_ir attr-ir-ir.key_value_ir attr-ir-ir.ir_as attr-ir-ir.attr_ir put-rows-rows.pieces put-rows-rows.shorthand_read put-rows-rows.later_groups put-rows-rows.groups put-rows-rows.group_rows put-rows-rows.id_read attribute-attribute.cut_read attribute-attribute.ir_read attribute-attribute.reading attribute-attribute.attribute_in attribute-attribute.attribute list-rows-list-rows.rows_from closing-closing.last_begins attr-list-reading.lent_refusal attr-list-reading.reading customize-subs-customizing.meta_answer customize-subs-customizing.meta_refusal customize-subs-customizing.meta_of customize-subs-customizing.start_of customize-subs-customizing.through customize-subs-customizing.stepped customize-subs-customizing.name_of customize-subs-customizing.strategy_of customize-subs-customizing.entered customize-subs-text.modified customize-subs-text.spaced customize-subs-text.back customize-subs-text.blank customize-subs-text.front customize-subs-text.split customize-subs-text.on_first subs-names-names.lookup_of subs-names-names.same substitutions-moves.answer substitutions-moves.refusal_of substitutions-moves.prepend_of substitutions-moves.remove_of substitutions-moves.insert_of substitutions-moves.led substitutions-moves.without substitutions-moves.filled substitutions-held.sound substitutions-held.held substitutions-held.spares substitutions-held.spare substitutions-held.covered substitutions-held.once substitutions-held.packed substitutions-held.empty substitutions-held.small substitutions-held.times substitutions-kinds.sum substitutions-kinds.each substitutions-kinds.flagged
quotes-hold = refl

-- ---- how many commas were taken back

-- lines for document 02's slip 5, with room for a row for each token
abbrev taken_back_lines : List LineCase
taken_back_lines =
    -- `name=O'Brien,edition=3,second=O'Neill]`: the edition is part of the name
    record {
      entry = Block;
      kinds = word ∷ equal_signs ∷ word ∷ single_quote ∷ word ∷ comma ∷ word ∷ equal_signs ∷ digits ∷ comma ∷ word ∷ equal_signs ∷ word ∷ single_quote ∷ word ∷ close_bracket ∷ [];
      lexemes = (110 ∷ 97 ∷ 109 ∷ 101 ∷ []) ∷ (61 ∷ []) ∷ (79 ∷ []) ∷ (39 ∷ []) ∷ (66 ∷ 114 ∷ 105 ∷ 101 ∷ 110 ∷ []) ∷ (44 ∷ []) ∷ (101 ∷ 100 ∷ 105 ∷ 116 ∷ 105 ∷ 111 ∷ 110 ∷ []) ∷ (61 ∷ []) ∷ (51 ∷ []) ∷ (44 ∷ []) ∷ (115 ∷ 101 ∷ 99 ∷ 111 ∷ 110 ∷ 100 ∷ []) ∷ (61 ∷ []) ∷ (79 ∷ []) ∷ (39 ∷ []) ∷ (78 ∷ 101 ∷ 105 ∷ 108 ∷ 108 ∷ []) ∷ (93 ∷ []) ∷ [];
      room = 96;
      gives = attr-list-reading.gives (named (run 0 1) (run 2 13) mark.None ∷ []) 16 2;
    }
    -- `title="Lung,edition=3,note="left",width=8]`: a quote is forgotten behind Lung, and the edition is part of the title
    ∷ record {
      entry = Block;
      kinds = word ∷ equal_signs ∷ double_quote ∷ word ∷ comma ∷ word ∷ equal_signs ∷ digits ∷ comma ∷ word ∷ equal_signs ∷ double_quote ∷ word ∷ double_quote ∷ comma ∷ word ∷ equal_signs ∷ digits ∷ close_bracket ∷ [];
      lexemes = (116 ∷ 105 ∷ 116 ∷ 108 ∷ 101 ∷ []) ∷ (61 ∷ []) ∷ (34 ∷ []) ∷ (76 ∷ 117 ∷ 110 ∷ 103 ∷ []) ∷ (44 ∷ []) ∷ (101 ∷ 100 ∷ 105 ∷ 116 ∷ 105 ∷ 111 ∷ 110 ∷ []) ∷ (61 ∷ []) ∷ (51 ∷ []) ∷ (44 ∷ []) ∷ (110 ∷ 111 ∷ 116 ∷ 101 ∷ []) ∷ (61 ∷ []) ∷ (34 ∷ []) ∷ (108 ∷ 101 ∷ 102 ∷ 116 ∷ []) ∷ (34 ∷ []) ∷ (44 ∷ []) ∷ (119 ∷ 105 ∷ 100 ∷ 116 ∷ 104 ∷ []) ∷ (61 ∷ []) ∷ (56 ∷ []) ∷ (93 ∷ []) ∷ [];
      room = 114;
      gives = attr-list-reading.gives (named (run 0 1) (run 3 10) mark.Double ∷ named (run 15 1) (run 17 1) mark.None ∷ []) 19 2;
    }
    -- `',"',"]`: both commas are inside a pair, and the pairs cross
    ∷ record {
      entry = Block;
      kinds = single_quote ∷ comma ∷ double_quote ∷ single_quote ∷ comma ∷ double_quote ∷ close_bracket ∷ [];
      lexemes = (39 ∷ []) ∷ (44 ∷ []) ∷ (34 ∷ []) ∷ (39 ∷ []) ∷ (44 ∷ []) ∷ (34 ∷ []) ∷ (93 ∷ []) ∷ [];
      room = 42;
      gives = attr-list-reading.gives (positional (run 1 2) mark.Single ∷ positional (run 5 1) mark.None ∷ []) 7 1;
    }
    -- `a]b,c]`: no comma is counted
    ∷ record {
      entry = Block;
      kinds = word ∷ close_bracket ∷ word ∷ comma ∷ word ∷ close_bracket ∷ [];
      lexemes = (97 ∷ []) ∷ (93 ∷ []) ∷ (98 ∷ []) ∷ (44 ∷ []) ∷ (99 ∷ []) ∷ (93 ∷ []) ∷ [];
      room = 36;
      gives = attr-list-reading.gives (positional (run 0 5) mark.None ∷ []) 6 0;
    }
    -- `]","`: read as empty
    ∷ record {
      entry = Link;
      kinds = close_bracket ∷ double_quote ∷ comma ∷ double_quote ∷ [];
      lexemes = (93 ∷ []) ∷ (34 ∷ []) ∷ (44 ∷ []) ∷ (34 ∷ []) ∷ [];
      room = 24;
      gives = attr-list-reading.gives [] 1 0;
    }
    -- `"a,b",k=v]`: a link that is a list
    ∷ record {
      entry = Link;
      kinds = double_quote ∷ word ∷ comma ∷ word ∷ double_quote ∷ comma ∷ word ∷ equal_signs ∷ word ∷ close_bracket ∷ [];
      lexemes = (34 ∷ []) ∷ (97 ∷ []) ∷ (44 ∷ []) ∷ (98 ∷ []) ∷ (34 ∷ []) ∷ (44 ∷ []) ∷ (107 ∷ []) ∷ (61 ∷ []) ∷ (118 ∷ []) ∷ (93 ∷ []) ∷ [];
      room = 60;
      gives = attr-list-reading.gives (positional (run 1 3) mark.Double ∷ named (run 6 1) (run 8 1) mark.None ∷ []) 10 1;
    }
    -- `"a,b"]`: a link read as text
    ∷ record {
      entry = Link;
      kinds = double_quote ∷ word ∷ comma ∷ word ∷ double_quote ∷ close_bracket ∷ [];
      lexemes = (34 ∷ []) ∷ (97 ∷ []) ∷ (44 ∷ []) ∷ (98 ∷ []) ∷ (34 ∷ []) ∷ (93 ∷ []) ∷ [];
      room = 36;
      gives = attr-list-reading.gives (positional (run 1 3) mark.Double ∷ []) 6 0;
    }
    -- `",",a`: refused after it is delimited
    ∷ record {
      entry = Block;
      kinds = double_quote ∷ comma ∷ double_quote ∷ comma ∷ word ∷ [];
      lexemes = (34 ∷ []) ∷ (44 ∷ []) ∷ (34 ∷ []) ∷ (44 ∷ []) ∷ (97 ∷ []) ∷ [];
      room = 30;
      gives = attr-list-reading.refused 8;
    }
    ∷ []

-- the four numbers of the answer: the refusal, rows, tokens consumed and commas taken back
abbrev pub answered : LineCase → List ℕ
answered c =
    let a = attr-list-reading.answer_of (reading_of c) in
    attr-list-reading.refusal_of a ∷ attr-list-reading.rows_of a ∷ attr-list-reading.consumed_of a ∷ attr-list-reading.rejoined_of a ∷ []

abbrev answers : List (List ℕ)
answers =
    (0 ∷ 1 ∷ 16 ∷ 2 ∷ []) ∷ (0 ∷ 2 ∷ 19 ∷ 2 ∷ []) ∷ (0 ∷ 2 ∷ 7 ∷ 1 ∷ []) ∷ (0 ∷ 1 ∷ 6 ∷ 0 ∷ []) ∷ (0 ∷ 0 ∷ 1 ∷ 0 ∷ []) ∷ (0 ∷ 2 ∷ 10 ∷ 1 ∷ [])
    ∷ (0 ∷ 1 ∷ 6 ∷ 0 ∷ []) ∷ (8 ∷ 0 ∷ 0 ∷ 0 ∷ []) ∷ []

pub taken-back-hold : (map computed (map marked_line taken_back_lines) ≡ map marked_line taken_back_lines) × (map answered taken_back_lines ≡ answers)
unfolding text_of pairs_from token-line.token_at token-line.tokens token-line.some_over token-line.misplaced token-line.refusal runs-run.without runs-run.up_to runs-run.onward runs-run.last_of runs-run.front runs-run.kept runs-run.trim_start runs-run.leave runs-run.trim_end runs-run.trim runs-run.quote_mark runs-run.quoted runs-run.inside runs-run.unquote runs-run.run_of runs-names.bytes runs-names.same_bytes delimiters-count.counted delimiters-delimit.start delimiters-delimit.at_comma delimiters-delimit.rejoin delimiters-delimit.rejoin_times delimiters-delimit.rejoin_to delimiters-delimit.note delimiters-delimit.at_quote delimiters-delimit.step delimiters-delimit.after delimiters-delimit.dividing delimiters-delimit.rejoined delimiters-delimit.parted delimiters-delimit.attributes closing-closing.last_bracket closing-closing.unescaped closing-closing.next_bracket closing-link.turn closing-link.look_from closing-link.link_macro attr-ir-look.symbol_sight attr-ir-look.sight attr-ir-look.look attr-ir-ir.name_tokens attr-ir-ir.value attr-ir-ir.value_mark attr-ir-ir.value_tokens attr-ir-ir.name_of attr-ir-ir.named_ir attr-ir-ir.key_value_ir attr-ir-ir.ir_as attr-ir-ir.attr_ir put-rows-rows.pieces put-rows-rows.shorthand_read put-rows-rows.later_groups put-rows-rows.groups put-rows-rows.group_rows put-rows-rows.id_read attribute-attribute.cut_read attribute-attribute.ir_read attribute-attribute.reading attribute-attribute.attribute_in attribute-attribute.attribute list-rows-list-rows.rows_from closing-closing.last_begins attr-list-reading.lent_refusal attr-list-reading.reading customize-subs-customizing.meta_answer customize-subs-customizing.meta_refusal customize-subs-customizing.meta_of customize-subs-customizing.start_of customize-subs-customizing.through customize-subs-customizing.stepped customize-subs-customizing.name_of customize-subs-customizing.strategy_of customize-subs-customizing.entered customize-subs-text.modified customize-subs-text.spaced customize-subs-text.back customize-subs-text.blank customize-subs-text.front customize-subs-text.split customize-subs-text.on_first subs-names-names.lookup_of subs-names-names.same substitutions-moves.answer substitutions-moves.refusal_of substitutions-moves.prepend_of substitutions-moves.remove_of substitutions-moves.insert_of substitutions-moves.led substitutions-moves.without substitutions-moves.filled substitutions-held.sound substitutions-held.held substitutions-held.spares substitutions-held.spare substitutions-held.covered substitutions-held.once substitutions-held.packed substitutions-held.empty substitutions-held.small substitutions-held.times substitutions-kinds.sum substitutions-kinds.each substitutions-kinds.flagged
taken-back-hold = (refl, refl)
