-- Laws of the readings: the rows in the buffer, and the closing bracket.
use Rattle.std.specs.Prelude.{ℕ, zero, suc, ◌+◌, ◌*◌, ◌≤◌, ◌<◌, ◌≡◌, refl, List, ◌++◌, take}
use Rattle.std.proofs.Common.{arith, subst, ◌∙◌, take_at, drop_at}
use Rattle.std.proofs.Math.Path.{ap}
use Rattle.std.proofs.Math.ListN.{length, drop}
use Rattle.std.proofs.Math.Seq.{sets-eq}
use Rattle.token.specs.Kind.{close_bracket, kind_at}
use Rattle.row.specs.declared.Row.{Row}
use Rattle.row.specs.Row.{width, all_numbers, with_rows}
use Rattle.row.proofs.Laws.{numbers-length}
use Rattle.delimiters.specs.Count.{counted}
use Rattle.delimiters.specs.Divide.{Closes}
use Rattle.delimiters.proofs.CountLaws.{count-some}
use Rattle.closing.proofs.ClosingLaws.{IsBracket}

-- ---- the rows in the buffer

module _ (given : List ℕ) (rs : List Row) (room : width * length rs ≤ length given) where
  pub in-front : with_rows given 0 rs ≡ all_numbers rs ++ drop (width * length rs) given
  unfolding with_rows
  in-front =
      let n : 0 + length (all_numbers rs) ≡ width * length rs = omega (arith, numbers-length rs) in
      sets-eq (all_numbers rs) given 0 (omega (arith, numbers-length rs)) ∙ ap (λ (k : ℕ). all_numbers rs ++ drop k given) n

  pub rows-in-front : take (width * length rs) (with_rows given 0 rs) ≡ all_numbers rs
  rows-in-front = ap (take (width * length rs)) in-front ∙ take_at (all_numbers rs) (drop (width * length rs) given) (width * length rs) (numbers-length rs)

  pub others-after : drop (width * length rs) (with_rows given 0 rs) ≡ drop (width * length rs) given
  others-after = ap (drop (width * length rs)) in-front ∙ drop_at (all_numbers rs) (drop (width * length rs) given) (width * length rs) (numbers-length rs)

-- ---- a closing bracket that stands later than the first token, which is no CloseBracket: something is counted

module _ (kinds : List ℕ) (not_first : kind_at kinds 0 ≡ close_bracket → ⊥) (end : ℕ) (w : IsBracket kinds end) where
  pub bracket-later : 0 < end
  bracket-later = go end refl
    where
      go : (n : ℕ) → end ≡ n → 0 < end
      go zero e = absurd (not_first (subst (λ (x : ℕ). kind_at kinds x ≡ close_bracket) e w.bracket))
      go (suc n) e = omega arith

  pub bracket-some : 0 < counted kinds
  bracket-some = count-some kinds (omega (arith, bracket-later, w.among)) not_first

  pub bracket-closes : Closes kinds end
  bracket-closes = record { bracket = w.bracket; first = λ e. absurd (not_first e) }
