-- The outcomes of `from_meta` in port mode and in sheet mode follow from the equation of the answer.
use Rattle.std.specs.Prelude.{ℕ, zero, suc, ◌<◌, ◌≤◌, ◌≡◌, refl, Bool, true, false, List, length, Option, Some, None}
use Rattle.std.specs.Option.{option_copied}
use denote.Bor.{Bor}
use Rattle.refusals.specs.declared.Refusal.{Refusal}
use Rattle.refusals.specs.Numbered.{number_of as refused_by}
use Rattle.refusals.specs.Refusals.{subs_text_too_long}
use Rattle.std.proofs.Common.{sym, ap, ◌∙◌, arith}
use Rattle.substitutions.specs.declared.Substitutions.{Substitutions}
use Rattle.substitutions.specs.declared.SetAnswer.{SetAnswer}
use Rattle.substitutions.specs.declared.Mode.{Mode}
use Rattle.substitutions.specs.declared.Mode.TheVariants.{Port, Sheet}
use Rattle.substitutions.specs.Held.{held, sound}
use Rattle.substitutions.specs.Moves.{answer, refusal_of, refused_with}
use Rattle.customize_subs.specs.Customizing.{start_of, through, meta_of, meta_refusal, meta_answer, port_meta, sheet_meta}
use Rattle.customize_subs.specs.Text.{split}
use Rattle.substitutions.proofs.AnswersLaws.{refused, turned-away, moved_to}
use Rattle.customize_subs.proofs.CustomizingLaws.{set-accepted, refusal-long, refusal-short, meta-absent, meta-present}
use Rattle.customize_subs.proofs.MetaLaws.{meta-held, meta-sound, sheet-sound}
use Rattle.customize_subs.proofs.SheetLaws.{sheet-set}
use Rattle.customize_subs.specs.Outcome.{PortOutcome, SheetOutcome, MetaOutcome, Makes, is_too_long}
use Rattle.std.proofs.lemmas.Bool.{false≢true}
use borrow.Author.Tests.{ltb-true, ltb-false}

-- What is answered where nothing is refused.
answered : (n : ℕ) (s moved : Substitutions) → (answer n s moved).refusal ≡ 0 → (n ≡ 0) × ((answer n s moved).set ≡ moved)
unfolding answer
answered zero s moved e = (refl, refl)
answered (suc n) s moved e = absurd (omega arith)

module _ (m : Mode) (s : Substitutions) (present : Bool) (text : List ℕ) (r : SetAnswer) (q : r ≡ meta_answer m s present text) (z : r.refusal ≡ 0) where
  unrefused : (meta_refusal m s present text ≡ 0) × ((meta_answer m s present text).set ≡ meta_of m s present text)
  unfolding meta_answer
  unrefused = answered (meta_refusal m s present text) s (meta_of m s present text) (ap (λ (r : SetAnswer). r.refusal) (sym q) ∙ z)

  made : r.set ≡ meta_of m s present text
  made = ap (λ (r : SetAnswer). r.set) q ∙ unrefused.1

pub port-outcome : (s : Substitutions) (present : Bool) (text : List ℕ) (r : SetAnswer) → r ≡ port_meta s present text → PortOutcome s present text r
port-outcome s present text r q = record {
  answer = q;
  stays_held = λ z. ap held (made Port s present text r q z) ∙ meta-held Port s present text (unrefused Port s present text r q z).0;
}

pub sheet-outcome : (s : Substitutions) (present : Bool) (text : List ℕ) (r : SetAnswer) → r ≡ sheet_meta s present text → SheetOutcome s present text r
sheet-outcome s present text r q = record {
  answer = q;
  order = λ z p.
      made Sheet s present text r q z
      ∙ rw p (sheet-set s text (sheet-sound s (set-accepted Sheet s text present (unrefused Sheet s present text r q z).0)));
  stays_sound = λ z. ap sound (made Sheet s present text r q z) ∙ meta-sound s present text (unrefused Sheet s present text r q z).0;
}

outcome : (m : Mode) (s : Substitutions) (present : Bool) (text : List ℕ) (r : SetAnswer) → r ≡ meta_answer m s present text → MetaOutcome m s present text r
outcome Port = port-outcome
outcome Sheet = sheet-outcome

-- The outcome of a call, by whether there is a text and by what is refused.
module _ (m : Mode) (s : Substitutions) (given : Option (Bor (List ℕ))) where
  module _ (none : given ≡ None) where
    absent : (r : SetAnswer) → ((text : List ℕ) → r ≡ meta_answer m s false text) → Makes m s (option_copied given) r
    absent r q = rw none (λ text. outcome m s false text r (q text))

    pub absent-refused : (e : Refusal) → refused_by e ≡ refusal_of m s → Makes m s (option_copied given) (refused_with (refused_by e) s)
    unfolding meta_answer meta_refusal
    absent-refused e z = absent (refused_with (refused_by e) s) (λ text. turned-away e (refusal_of m s) s (meta_of m s false text) z)

    pub absent-same : 0 ≡ refusal_of m s → Makes m s (option_copied given) (record { refusal = 0; set = s })
    unfolding meta_answer meta_refusal
    absent-same z = absent (record { refusal = 0; set = s }) (λ text. moved_to (refusal_of m s) s s (meta_of m s false text) (sym z) (meta-absent m s text false refl))

  module _ (text : Bor (List ℕ)) (some : given ≡ Some text) where
    present : (r : SetAnswer) → r ≡ meta_answer m s true text.now → Makes m s (option_copied given) r
    present r q = rw some (outcome m s true text.now r q)

    pub too-long : 65535 < length text.now → Makes m s (option_copied given) (refused_with subs_text_too_long s)
    unfolding meta_answer
    too-long h =
        present (refused_with subs_text_too_long s)
        (refused subs_text_too_long (meta_refusal m s true text.now) s (meta_of m s true text.now) (refusal-long m s text.now true refl h) (λ z. omega arith))

    module _ (h : length text.now ≤ 65535) where
      pub present-refused : (e : Refusal) → refused_by e ≡ refusal_of m s → Makes m s (option_copied given) (refused_with (refused_by e) s)
      unfolding meta_answer
      present-refused e z =
          present (refused_with (refused_by e) s)
          (turned-away e (meta_refusal m s true text.now) s (meta_of m s true text.now) (z ∙ refusal-short m s text.now true h))

      pub present-made : (b r : Substitutions) → 0 ≡ refusal_of m s → b ≡ start_of s text.now → r ≡ through m b (split text.now)
          → Makes m s (option_copied given) (record { refusal = 0; set = r })
      unfolding meta_answer
      present-made b r z e q =
          present (record { refusal = 0; set = r })
          (moved_to (meta_refusal m s true text.now) s r (meta_of m s true text.now) (sym (refusal-short m s text.now true h) ∙ sym z)
          (meta-present m s text.now true b r refl e q))

-- By whether there is a text that is too long.
pub long : (m : Mode) (s : Substitutions) (given : Option (Bor (List ℕ))) → is_too_long (option_copied given) ≡ true → Makes m s (option_copied given) (refused_with subs_text_too_long s)
long m s None h = absurd (false≢true h)
long m s (Some text) h = too-long m s (Some text) text refl (ltb-true _ _ h)

pub refused-short : (m : Mode) (s : Substitutions) (given : Option (Bor (List ℕ))) → is_too_long (option_copied given) ≡ false → (e : Refusal) → refused_by e ≡ refusal_of m s
    → Makes m s (option_copied given) (refused_with (refused_by e) s)
refused-short m s None h e z = absent-refused m s None refl e z
refused-short m s (Some text) h e z = present-refused m s (Some text) text refl (ltb-false _ _ h) e z

pub short : (given : Option (Bor (List ℕ))) (text : Bor (List ℕ)) → given ≡ Some text → is_too_long (option_copied given) ≡ false → length text.now ≤ 65535
short given text e h = ltb-false _ _ (rw e at h)
