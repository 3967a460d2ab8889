-- Laws of comparing bytes, one for each way through the loop's turn.
use Rattle.std.specs.Bool.{Decides, one_answer}
use Rattle.std.specs.Prelude.{Bool, ℕ, suc, ◌+◌, ◌≤◌, ◌<◌, length, drop, get_or, ◌≡◌, refl, true, false, List, [], ◌∷◌}
use Rattle.std.proofs.Common.{drop_of_length-le, ap, sym, ◌∙◌}
use Rattle.std.proofs.Math.Seq.{drop-cons}
use Rattle.std.proofs.Math.Numerals.{add-one}
use borrow.Author.Tests.{eq-eqb, ne_eqb}
use Rattle.std.proofs.Math.Bool.{and-false}
use Rattle.std.specs.Cmp.Lexicographic.{pointwise, same_text}
use Rattle.std.proofs.Common.{nat_eq}
use Rattle.subs_names.specs.Names.{same}

pub same-lengths : (a b : List ℕ) → (length a ≡ length b → ⊥) → false ≡ same a b
unfolding same
same-lengths [] [] h = absurd (h refl)
same-lengths [] (b ∷ bs) h = refl
same-lengths (a ∷ l) [] h = refl
same-lengths (a ∷ l) (b ∷ bs) h = rw (← same-lengths l bs (λ e. h (ap suc e)), and-false)

-- One turn of a walk over two names: what is left of them is the same exactly where the whole is.
module _ (a b : List ℕ) (i : ℕ) (la : i < length a) (lb : i < length b) where
  pub same_next : get_or a i 0 ≡ get_or b i 0 → same (drop (i + 1) a) (drop (i + 1) b) ≡ same (drop i a) (drop i b)
  unfolding same
  same_next h = rw (drop-cons a i 0 la, drop-cons b i 0 lb, add-one i, eq-eqb (get_or a i 0) (get_or b i 0) h)

  pub same_stop : (get_or a i 0 ≡ get_or b i 0 → ⊥) → false ≡ same (drop i a) (drop i b)
  unfolding same
  same_stop h = rw (drop-cons a i 0 la, drop-cons b i 0 lb, ne_eqb (get_or a i 0) (get_or b i 0) h)

pub same_end : (a b : List ℕ) (i : ℕ) → length a ≤ i → length b ≤ i → true ≡ same (drop i a) (drop i b)
unfolding same
same_end a b i ha hb = rw (drop_of_length-le a ha, drop_of_length-le b hb)

-- `same` is the equality of slices.
pub same_is : (a b : List ℕ) → pointwise nat_eq a b ≡ same a b
unfolding same
same_is [] [] = refl
same_is [] (b ∷ bs) = refl
same_is (a ∷ l) [] = refl
same_is (a ∷ l) (b ∷ bs) = rw (same_is l bs)

-- A test that decides whether two names are one is `same`.
same_refl : (a : List ℕ) → same a a ≡ true
unfolding same
same_refl [] = refl
same_refl (b ∷ bs) = rw (eq-eqb b b refl) (same_refl bs)

pub same-decided : (r : Bool) (a b : List ℕ) → Decides r (a ≡ b) → r ≡ same a b
same-decided r a b d = one_answer r (same a b) d (λ e. same_text a b (sym (same_is a b ∙ e)), λ e. ap (same a) (sym e) ∙ same_refl a)
