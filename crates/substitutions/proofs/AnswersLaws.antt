-- What the code of the moves and of the refusals returns is what the definitions say: one law for each way through.
use Rattle.std.specs.Prelude.{ℕ, zero, suc, ◌+◌, ◌-◌, ◌≤◌, ◌<◌, ◌≡◌, refl, Bool, true, false, cond, ◌&&◌, List, [], ◌∷◌, eqb, length, Option, Some, None, Result}
use Rattle.std.proofs.Common.{sym, ◌∙◌, arith}
use borrow.Author.Tests.{ne_eqb, eqb-true, lt-ltb, le-ltb}
use Rattle.std.specs.Cmp.Lexicographic.{pointwise, same_text}
use Rattle.std.specs.Option.{option_eq}
use Rattle.std.specs.Result.{IsErrAnd}
use Rattle.std.proofs.lemmas.Result.{err_from_is_err_and}
use Rattle.refusals.specs.declared.Refusal.{Refusal}
use Rattle.refusals.specs.Numbered.{number_of as refused_by}
use Rattle.refusals.proofs.Laws.{number-some}
use Rattle.refusals.specs.Refusals.{set_not_held, set_not_sound}
use Rattle.substitutions.specs.declared.Substitutions.{Substitutions}
use Rattle.substitutions.specs.declared.Mode.{Mode}
use Rattle.substitutions.specs.declared.Mode.TheVariants.{Port, Sheet}
use Rattle.substitutions.specs.declared.Subs.{Subs}
use Rattle.substitutions.specs.declared.Move.{Move}
use Rattle.substitutions.specs.declared.Move.TheVariants.{Insert, Remove, Prepend}
use Rattle.substitutions.specs.Order.{flags_of}
use Rattle.substitutions.specs.Starting.{normal_set}
use Rattle.substitutions.specs.Kinds.{number_of, flag_of, flagged}
use Rattle.substitutions.specs.Held.{held, sound, empty}
use Rattle.substitutions.specs.Moves.{set, filled, without, led, insert_of, remove_of, prepend_of, refusal_of, refused_with, answer, answer_of, moved, answered, insert_answer, remove_answer, prepend_answer}
use Rattle.substitutions.proofs.KindsLaws.{and_left, and_right}
use Rattle.substitutions.proofs.HeldLaws.{held-is, sound-is}
use Rattle.substitutions.specs.Loops.{left, unclaimed_flags, few, normal_places, Leaves}

pub few-not : (f : ℕ) → (f ≡ 0 → ⊥) → (f ≡ 1 → ⊥) → (f ≡ 2 → ⊥) → (f ≡ 4 → ⊥) → (f ≡ 8 → ⊥) → (f ≡ 16 → ⊥) → (f ≡ 32 → ⊥) → (f ≡ 64 → ⊥)
    → few f ≡ false
unfolding few
few-not f n0 n1 n2 n3 n4 n5 n6 n7 =
    rw (ne_eqb f 0 n0, ne_eqb f 1 n1, ne_eqb f 2 n2, ne_eqb f 4 n3, ne_eqb f 8 n4, ne_eqb f 16 n5, ne_eqb f 32 n6, ne_eqb f 64 n7)

pub left-big : (s : Substitutions) → 128 ≤ s.flags → 255 ≡ unclaimed_flags s
unfolding unclaimed_flags
left-big s h = rw (le-ltb s.flags 128 h)

pub left-small : (s : Substitutions) → s.flags < 128 → left s.flags s.places ≡ unclaimed_flags s
unfolding unclaimed_flags
left-small s h = rw (lt-ltb s.flags 128 h)

-- What the code gives, of equal numbers.
pub leaves : (r : Option ℕ) (m n : ℕ) → Leaves r m → m ≡ n → Leaves r n
leaves None m n e q = e ∙ q
leaves (Some f) m n e q = e ∙ q

pub leaves-none : (r : Option ℕ) (n : ℕ) → Leaves r n → option_eq eqb r (Some 0) ≡ eqb n 0
leaves-none None n e = rw (sym e)
leaves-none (Some f) n e = rw (sym e)

-- The normal set has no flag left over.
normal-places : (ps : List ℕ) → length ps ≡ 7 → normal_places ps ≡ true → ps ≡ 1 ∷ 2 ∷ 3 ∷ 4 ∷ 5 ∷ 6 ∷ 0 ∷ []
unfolding normal_places
normal-places [] h e = absurd (omega (arith, h))
normal-places (a ∷ []) h e = absurd (omega (arith, h))
normal-places (a ∷ b ∷ []) h e = absurd (omega (arith, h))
normal-places (a ∷ b ∷ c ∷ []) h e = absurd (omega (arith, h))
normal-places (a ∷ b ∷ c ∷ d ∷ []) h e = absurd (omega (arith, h))
normal-places (a ∷ b ∷ c ∷ d ∷ f ∷ []) h e = absurd (omega (arith, h))
normal-places (a ∷ b ∷ c ∷ d ∷ f ∷ g ∷ []) h e = absurd (omega (arith, h))
normal-places (a ∷ b ∷ c ∷ d ∷ f ∷ g ∷ i ∷ []) h e =
    let e6 = and_left (eqb a 1 && eqb b 2 && eqb c 3 && eqb d 4 && eqb f 5 && eqb g 6) (eqb i 0) e in
    let e5 = and_left (eqb a 1 && eqb b 2 && eqb c 3 && eqb d 4 && eqb f 5) (eqb g 6) e6 in
    let e4 = and_left (eqb a 1 && eqb b 2 && eqb c 3 && eqb d 4) (eqb f 5) e5 in
    let e3 = and_left (eqb a 1 && eqb b 2 && eqb c 3) (eqb d 4) e4 in
    let e2 = and_left (eqb a 1 && eqb b 2) (eqb c 3) e3 in
    rw (
      eqb-true a 1 (and_left (eqb a 1) (eqb b 2) e2),
      eqb-true b 2 (and_right (eqb a 1) (eqb b 2) e2),
      eqb-true c 3 (and_right (eqb a 1 && eqb b 2) (eqb c 3) e3),
      eqb-true d 4 (and_right (eqb a 1 && eqb b 2 && eqb c 3) (eqb d 4) e4),
      eqb-true f 5 (and_right (eqb a 1 && eqb b 2 && eqb c 3 && eqb d 4) (eqb f 5) e5),
      eqb-true g 6 (and_right (eqb a 1 && eqb b 2 && eqb c 3 && eqb d 4 && eqb f 5) (eqb g 6) e6),
      eqb-true i 0 (and_right (eqb a 1 && eqb b 2 && eqb c 3 && eqb d 4 && eqb f 5 && eqb g 6) (eqb i 0) e),
    )
    refl
normal-places (a ∷ b ∷ c ∷ d ∷ f ∷ g ∷ i ∷ j ∷ ps) h e = absurd (omega (arith, h))

pub normal-left : (s : Substitutions) → length s.places ≡ 7 → s.flags ≡ 63 → normal_places s.places ≡ true → 0 ≡ unclaimed_flags s
unfolding unclaimed_flags left empty flagged
normal-left s seven e n = rw (e, normal-places s.places seven n) refl

-- The same of the normal set as a whole.
pub normal-set-left : (s : Substitutions) → s ≡ normal_set → 0 ≡ unclaimed_flags s
unfolding unclaimed_flags left empty flagged flags_of
normal-set-left s e = rw e refl

-- The same of a set that is compared with the normal set.
pub normal-same : (s t : Substitutions) → t ≡ normal_set → pointwise eqb s.places t.places && eqb s.flags t.flags ≡ true → 0 ≡ unclaimed_flags s
unfolding normal_places flags_of
normal-same s t n e =
    let places = same_text s.places t.places (sym (and_left (pointwise eqb s.places t.places) (eqb s.flags t.flags) e)) in
    let flags = eqb-true s.flags t.flags (and_right (pointwise eqb s.places t.places) (eqb s.flags t.flags) e) in
    normal-left s (rw (places, n) refl) (rw (flags, n) refl) (rw (places, n) refl)

-- The flags that the code has at hand, by those that the definition leaves.
pub few-left : (f n : ℕ) (b : Bool) → f ≡ n → b ≡ few f → few n ≡ b
few-left f n b e q = rw (sym e) (sym q)

-- The refusals, by what is left over.
module _ (s : Substitutions) (seven : length s.places ≡ 7) where
  pub refusal-10 : (m : Mode) → few (unclaimed_flags s) ≡ false → set_not_held ≡ refusal_of m s
  unfolding refusal_of
  refusal-10 Port e = rw (held-is s seven, e)
  refusal-10 Sheet e = rw (held-is s seven, e)

  pub refusal-port : few (unclaimed_flags s) ≡ true → 0 ≡ refusal_of Port s
  unfolding refusal_of
  refusal-port e = rw (held-is s seven, e)

  pub refusal-sheet : few (unclaimed_flags s) ≡ true → unclaimed_flags s ≡ 0 → 0 ≡ refusal_of Sheet s
  unfolding refusal_of
  refusal-sheet e z = rw (held-is s seven, e, sound-is s seven, z)

  pub refusal-11 : few (unclaimed_flags s) ≡ true → (unclaimed_flags s ≡ 0 → ⊥) → set_not_sound ≡ refusal_of Sheet s
  unfolding refusal_of
  refusal-11 e z = rw (held-is s seven, e, sound-is s seven, ne_eqb (unclaimed_flags s) 0 z)

-- A set that is not refused is held.
pub accepted : (m : Mode) (s : Substitutions) → refusal_of m s ≡ 0 → held s ≡ true
unfolding refusal_of
accepted Port s e = by (held s) e
  where
    by : (t : Bool) → ◌≡◌ {A = ℕ} (cond t 0 set_not_held) 0 → t ≡ true
    by true q = refl
    by false q = absurd (omega arith)
accepted Sheet s e = by (held s) (sound s) e
  where
    by : (t u : Bool) → ◌≡◌ {A = ℕ} (cond t (cond u 0 set_not_sound) set_not_held) 0 → t ≡ true
    by true u q = refl
    by false u q = absurd (omega arith)

-- The answers: a refusal with the set given, or what the move gives.
pub refused : (n m : ℕ) (s moved : Substitutions) → n ≡ m → (n ≡ 0 → ⊥) → record { refusal = n; set = s } ≡ answer m s moved
unfolding answer
refused zero m s moved e z = absurd (z refl)
refused (suc n) m s moved e z = rw (sym e)

-- A refused call gives the set given, bit for bit.
pub refusal-keeps : (n : ℕ) (s moved : Substitutions) → ((answer n s moved).refusal ≡ 0 → ⊥) → (answer n s moved).set ≡ s
unfolding answer
refusal-keeps zero s moved h = absurd (h refl)
refusal-keeps (suc n) s moved h = refl

pub moved_to : (m : ℕ) (s t moved : Substitutions) → m ≡ 0 → t ≡ moved → record { refusal = 0; set = t } ≡ answer m s moved
unfolding answer
moved_to m s t moved e q = rw (e, q)

-- The outcomes: by them an answer is a refusal's number with the set given, or what the move gives.
pub turned-away : (e : Refusal) (m : ℕ) (s moved : Substitutions) → refused_by e ≡ m → refused_with (refused_by e) s ≡ answer m s moved
turned-away e m s moved q = refused (refused_by e) m s moved q (λ z. absurd (omega (arith, number-some e, z)))

-- A move that is made after the set's check.
pub made : (how : Move) (m : Mode) (s : Substitutions) (k : Subs) → answer (refusal_of m s) s (moved m how (number_of k) s) ≡ answered how m s k
unfolding insert_answer remove_answer prepend_answer
made Insert m s k = refl
made Remove m s k = refl
made Prepend m s k = refl

-- A refusal that `?` hands on is answered as the check that gave it would be.
pub handed-on : (s : Substitutions) (r : Result Substitutions Refusal) (e : Refusal) → IsErrAnd r (λ x. x ≡ e) → answer_of s r ≡ refused_with (refused_by e) s
handed-on s r e h = let p = err_from_is_err_and r h in rw (p.1, p.2) refl

-- The moves, by the numbers that the code has at hand.
insert-at : (s : Substitutions) (n k w : ℕ) (p : List ℕ) → flagged k s.flags ≡ false → p ≡ filled n k s.places → w ≡ flag_of k
    → set p (s.flags + w) ≡ insert_of n k s
unfolding insert_of
insert-at s n k w p f u v = rw (f, u, v)

remove-at : (s : Substitutions) (k w : ℕ) (p : List ℕ) → flagged k s.flags ≡ true → p ≡ without k s.places → w ≡ flag_of k
    → set p (s.flags - w) ≡ remove_of k s
unfolding remove_of
remove-at s k w p f u v = rw (f, u, v)

prepend-at : (s : Substitutions) (k w : ℕ) (p : List ℕ) → flagged k s.flags ≡ false → p ≡ led k s.places → w ≡ flag_of k
    → set p (s.flags + w) ≡ prepend_of k s
unfolding prepend_of
prepend-at s k w p f u v = rw (f, u, v)

prepend-on : (s : Substitutions) (k : ℕ) (p : List ℕ) → flagged k s.flags ≡ true → p ≡ led k s.places → set p s.flags ≡ prepend_of k s
unfolding prepend_of
prepend-on s k p f u = rw (f, u)

module _ (s : Substitutions) (k j : ℕ) (e : k ≡ j) where
  pub insert-none : (n : ℕ) → flagged k s.flags ≡ true → s ≡ insert_of n j s
  unfolding insert_of
  insert-none n f = rw (sym e, f)

  pub insert-one : (n m w : ℕ) (p : List ℕ) → n ≡ m → flagged k s.flags ≡ false → p ≡ filled n k s.places → w ≡ flag_of k
      → set p (s.flags + w) ≡ insert_of m j s
  insert-one n m w p q f u v = rw (sym q, sym e) (insert-at s n k w p f u v)

  pub remove-none : flagged k s.flags ≡ false → s ≡ remove_of j s
  unfolding remove_of
  remove-none f = rw (sym e, f)

  pub remove-one : (w : ℕ) (p : List ℕ) → flagged k s.flags ≡ true → p ≡ without k s.places → w ≡ flag_of k
      → set p (s.flags - w) ≡ remove_of j s
  remove-one w p f u v = rw (sym e) (remove-at s k w p f u v)

  pub prepend-flagged : (p : List ℕ) → flagged k s.flags ≡ true → p ≡ led k s.places → set p s.flags ≡ prepend_of j s
  prepend-flagged p f u = rw (sym e) (prepend-on s k p f u)

  pub prepend-new : (w : ℕ) (p : List ℕ) → flagged k s.flags ≡ false → p ≡ led k s.places → w ≡ flag_of k
      → set p (s.flags + w) ≡ prepend_of j s
  prepend-new w p f u v = rw (sym e) (prepend-at s k w p f u v)
