-- Parts of a subs text by their places, as laws speak of them: the code reads them as slices, and no contract cites these. `TextLaws` and `CustomizingLaws`
-- tie them to `Text` and `Customizing`.
use Rattle.std.specs.Prelude.{ℕ, suc, ◌+◌, ◌-◌, ◌≡◌, cond, List, [], ◌∷◌, eqb, leb, length, take, drop}
use Rattle.substitutions.specs.declared.Mode.{Mode}
use Rattle.substitutions.specs.declared.Mode.TheVariants.{Port, Sheet}
use Rattle.substitutions.specs.declared.Move.{Move}
use Rattle.substitutions.specs.declared.Move.TheVariants.{Insert, Prepend, Remove}
use Rattle.customize_subs.specs.Text.{split, front, first_of, last_of}
use Rattle.customize_subs.specs.Customizing.{part_of, strategy_of, name_of}

-- How many bytes stand before the first comma.
unfoldable pub to_comma : List ℕ → ℕ
to_comma [] = 0
to_comma (b ∷ bs) = cond (eqb b 44) 0 (suc (to_comma bs))

-- The bytes from place a up to place e.
unfoldable pub between : ℕ → ℕ → List ℕ → List ℕ
between a e l = take (e - a) (drop a l)

-- The parts from a place on: none past the end.
unfoldable pub parts_from : ℕ → List ℕ → List (List ℕ)
parts_from at text = cond (leb at (length text)) (split (drop at text)) []

-- A part without the spaces in front of it, in sheet mode.
abbrev pub front_of : Mode → List ℕ → List ℕ
front_of Port part = part
front_of Sheet part = front part

-- A part of the text: the bytes from `start` up to `end`; and the move that a part asks for with the places of its name.
pub record Span : Type 0 where
  pub start : ℕ
  pub end : ℕ

pub record Named : Type 0 where
  pub strategy : Move
  pub start : ℕ
  pub end : ℕ

-- Where the part from place a up to place e stands as the mode reads it: it begins behind the spaces in front of it, and is as long as
-- it is without those at its ends.
pub record PartAt (m : Mode) (a e : ℕ) (text : List ℕ) (r : Span) : Type 0 where
  pub begins : r.start ≡ e - length (front_of m (between a e text))
  pub ends : r.end ≡ r.start + length (part_of m (between a e text))
  pub part : between r.start r.end text ≡ part_of m (between a e text)

-- The move of the part from place a up to place e, and the places of its name: without a leading + or −, else without a trailing +.
abbrev pub named : Move → ℕ → ℕ → Named
named how a e = record { strategy = how; start = a; end = e }

unfoldable pub named_at : ℕ → ℕ → List ℕ → Named
named_at a e part =
    cond (eqb (first_of part) 43) (named Insert (a + 1) e)
    (cond (eqb (last_of part) 43) (named Prepend a (e - 1))
    (cond (eqb (first_of part) 45) (named Remove (a + 1) e)
    (named Insert a e)))

pub record NameAt (a e : ℕ) (text : List ℕ) (r : Named) : Type 0 where
  pub places : r ≡ named_at a e (between a e text)
  pub strategy : r.strategy ≡ strategy_of (between a e text)
  pub name : between r.start r.end text ≡ name_of (between a e text)
