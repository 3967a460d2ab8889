-- The eight numbers leave one answer: no two answers have the same.
use Rattle.std.specs.Prelude.{Option, None, Some, Result, Ok, Err, ℕ, Bool, true, false, cond, ◌≡◌, refl}
use Rattle.std.proofs.Common.{arith, sym, ap, ◌∙◌}
use Rattle.refusals.specs.declared.Refusal.{Refusal}
use Rattle.refusals.specs.Numbered.{number_of}
use Rattle.refusals.proofs.Laws.{number-some, number-same}
use Rattle.anchor.specs.declared.Anchor.{Anchor}
use Rattle.anchor.specs.Numbers.{Numbers, numbers_of, found}

-- the anchor of these numbers
abbrev of : (id_place id_count text_place text_count consumed : ℕ) → (discard : Bool) → Anchor
of id_place id_count text_place text_count consumed discard =
    record {
      id = record { place = record { 0 = id_place }; count = id_count };
      reftext = record { place = record { 0 = text_place }; count = text_count };
      consumed = consumed;
      discard = discard;
    }

same-yes : (a b : Bool) → ◌≡◌ {A = ℕ} (cond a 1 0) (cond b 1 0) → a ≡ b
same-yes true true e = refl
same-yes true false e = absurd (omega (arith, e))
same-yes false true e = absurd (omega (arith, e))
same-yes false false e = refl

abbrev numbers : Anchor → Numbers
numbers a = found a.id a.reftext a.consumed a.discard

same-anchor : (a b : Anchor) → numbers a ≡ numbers b → a ≡ b
same-anchor a b e =
    let p : a.id.place.0 ≡ b.id.place.0 = ap (λ (n : Numbers). n.id_place) e in
    let c : a.id.count ≡ b.id.count = ap (λ (n : Numbers). n.id_count) e in
    let q : a.reftext.place.0 ≡ b.reftext.place.0 = ap (λ (n : Numbers). n.text_place) e in
    let d : a.reftext.count ≡ b.reftext.count = ap (λ (n : Numbers). n.text_count) e in
    let m : a.consumed ≡ b.consumed = ap (λ (n : Numbers). n.consumed) e in
    let y : a.discard ≡ b.discard = same-yes a.discard b.discard (ap (λ (n : Numbers). n.discard) e) in
    ap (λ (n : ℕ). of n a.id.count a.reftext.place.0 a.reftext.count a.consumed a.discard) p
    ∙ ap (λ (n : ℕ). of b.id.place.0 n a.reftext.place.0 a.reftext.count a.consumed a.discard) c
    ∙ ap (λ (n : ℕ). of b.id.place.0 b.id.count n a.reftext.count a.consumed a.discard) q
    ∙ ap (λ (n : ℕ). of b.id.place.0 b.id.count b.reftext.place.0 n a.consumed a.discard) d
    ∙ ap (λ (n : ℕ). of b.id.place.0 b.id.count b.reftext.place.0 b.reftext.count n a.discard) m
    ∙ ap (λ (t : Bool). of b.id.place.0 b.id.count b.reftext.place.0 b.reftext.count b.consumed t) y

module _ (r : Refusal) where
  not-refused : number_of r ≡ 0 → ⊥
  not-refused e = omega (arith, e, number-some r)

pub one-answer : (a b : Result (Option Anchor) Refusal) → numbers_of a ≡ numbers_of b → a ≡ b
one-answer (Err r) (Err s) e = ap Err (number-same r s (ap (λ (n : Numbers). n.refusal) e))
one-answer (Err r) (Ok None) e = absurd (not-refused r (ap (λ (n : Numbers). n.refusal) e))
one-answer (Err r) (Ok (Some b)) e = absurd (not-refused r (ap (λ (n : Numbers). n.refusal) e))
one-answer (Ok None) (Err s) e = absurd (not-refused s (sym (ap (λ (n : Numbers). n.refusal) e)))
one-answer (Ok (Some a)) (Err s) e = absurd (not-refused s (sym (ap (λ (n : Numbers). n.refusal) e)))
one-answer (Ok None) (Ok None) e = refl
one-answer (Ok None) (Ok (Some b)) e = absurd (let z : ◌≡◌ {A = ℕ} 0 1 = ap (λ (n : Numbers). n.anchor) e in omega (arith, z))
one-answer (Ok (Some a)) (Ok None) e = absurd (let z : ◌≡◌ {A = ℕ} 1 0 = ap (λ (n : Numbers). n.anchor) e in omega (arith, z))
one-answer (Ok (Some a)) (Ok (Some b)) e = ap (λ x. Ok (Some x)) (same-anchor a b e)
