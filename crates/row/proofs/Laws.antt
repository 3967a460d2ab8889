-- Laws of rows in a lent buffer.
use Rattle.std.specs.Prelude.{ℕ, suc, ◌+◌, ◌*◌, ◌≡◌, refl, List, [], ◌∷◌, ◌++◌, length, set}
use native.Mathlib.Omega.{arith}
use Rattle.std.proofs.Common.{suc-add, add-suc, add-zero, sym, ap, ◌∙◌, append_assoc, length-append}
use Rattle.std.proofs.lemmas.List.Edits.{sets}
use Rattle.std.proofs.Math.Seq.{length-sets}
use Rattle.token.specs.declared.Run.{Run}
use Rattle.row.specs.declared.Row.{Row}
use Rattle.row.specs.Row.{width, numbers, one_run, all_numbers, with_rows, Wrote, small, Fits}

-- a row of one run whose numbers fit
pub one-fits : (t : ℕ) (r : Run) (row : Row) → row ≡ one_run t r → small r.place.0 → small r.count → Fits row
one-fits t r row e p c = rw e (record { first_place = p; first_count = c; second_place = omega arith; second_count = omega arith })

pub sets-append : (l : List ℕ) (i : ℕ) (xs ys : List ℕ) → sets l i (xs ++ ys) ≡ sets (sets l i xs) (i + length xs) ys
sets-append l i [] ys = rw (add-zero i)
sets-append l i (x ∷ xs) ys = rw (add-suc i (length xs), ← suc-add i (length xs)) (sets-append (set l i x) (suc i) xs ys)

pub length-with_rows : (buffer : List ℕ) (at : ℕ) (rs : List Row) → length (with_rows buffer at rs) ≡ length buffer
unfolding with_rows
length-with_rows buffer at rs = length-sets buffer (width * at) (all_numbers rs)

-- `all` is to be written from row `from` of the buffer `base` on; `rest` of it is left to write from row `at` of the buffer `now` on
pub record Writes (base : List ℕ) (from : ℕ) (all : List Row) (now : List ℕ) (at : ℕ) (rest : List Row) : Type 0 where
  pub long : length now ≡ length base
  pub count : at + length rest ≡ from + length all
  pub buffer : with_rows now at rest ≡ with_rows base from all

module _ (base : List ℕ) (from : ℕ) (all : List Row) where
  pub writes_start : Writes base from all base from all
  writes_start = record { long = refl; count = refl; buffer = refl }

  -- one row is written
  pub writes-put : (now : List ℕ) (at : ℕ) (r : Row) (rest : List Row) → Writes base from all now at (r ∷ rest) → Writes base from all (sets now (width * at) (numbers r)) (at + 1) rest
  unfolding with_rows all_numbers
  writes-put now at r rest w =
      let e : width * (at + 1) ≡ width * at + width = omega arith in
      record {
        long = length-sets now (width * at) (numbers r) ∙ w.long;
        count = omega (arith, w.count);
        buffer = rw e (sym (sets-append now (width * at) (numbers r) (all_numbers rest)) ∙ w.buffer);
      }

  -- several rows are written by a call
  pub writes-call : (now : List ℕ) (at : ℕ) (rs : List Row) → Writes base from all now at rs → Writes base from all (with_rows now at rs) (at + length rs) []
  unfolding with_rows all_numbers
  writes-call now at rs w =
      record { long = length-sets now (width * at) (all_numbers rs) ∙ w.long; count = omega (arith, w.count); buffer = w.buffer }

  pub writes-count : (now : List ℕ) (at : ℕ) → Writes base from all now at [] → at ≡ from + length all
  writes-count now at w = omega (arith, w.count)

  pub writes-buffer : (now : List ℕ) (at : ℕ) → Writes base from all now at [] → now ≡ with_rows base from all
  unfolding with_rows all_numbers
  writes-buffer now at w = w.buffer

-- ---- several rows are written by a call

pub numbers-append : (rs ss : List Row) → all_numbers (rs ++ ss) ≡ all_numbers rs ++ all_numbers ss
unfolding all_numbers
numbers-append [] ss = refl
numbers-append (r ∷ rs) ss = ap (λ (l : List ℕ). numbers r ++ l) (numbers-append rs ss) ∙ sym (append_assoc (numbers r) (all_numbers rs) (all_numbers ss))

pub numbers-length : (rs : List Row) → length (all_numbers rs) ≡ width * length rs
unfolding all_numbers
numbers-length [] = refl
numbers-length (r ∷ rs) =
    let h : length (all_numbers rs) ≡ width * length rs = numbers-length rs in
    omega (arith, h)

pub writes-part : (base : List ℕ) (from : ℕ) (all : List Row) (now : List ℕ) (at : ℕ) (rs rest : List Row) (after : List ℕ) (r : ℕ) → Writes base from all now at (rs ++ rest) → Wrote now at rs after r → Writes base from all after r rest
unfolding with_rows
writes-part base from all now at rs rest after r w v =
    let e : width * r ≡ width * at + length (all_numbers rs) = omega (arith, v.count, numbers-length rs) in
    record {
      long = ap length v.buffer ∙ length-sets now (width * at) (all_numbers rs) ∙ w.long;
      count = omega (arith, w.count, v.count, length-append rs rest);
      buffer = rw (e, v.buffer) (sym (sets-append now (width * at) (all_numbers rs) (all_numbers rest)) ∙ ap (sets now (width * at)) (sym (numbers-append rs rest)) ∙ w.buffer);
    }

pub writes-wrote : (base : List ℕ) (from : ℕ) (all : List Row) (now : List ℕ) (at : ℕ) → Writes base from all now at [] → Wrote base from all now at
writes-wrote base from all now at w = record { count = writes-count base from all now at w; buffer = writes-buffer base from all now at w }

pub wrote_none : (before : List ℕ) (at : ℕ) → Wrote before at [] before at
unfolding with_rows all_numbers
wrote_none before at = record { count = omega arith; buffer = refl }

pub wrote_one : (before : List ℕ) (at : ℕ) (r : Row) → Wrote before at (r ∷ []) (sets before (width * at) (numbers r)) (at + 1)
wrote_one before at r = writes-wrote before at (r ∷ []) _ _ (writes-put before at (r ∷ []) before at r [] (writes_start before at (r ∷ [])))
