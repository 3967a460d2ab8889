-- Every line is divided as specs/Divide.antt says.
use Rattle.std.specs.Prelude.{ℕ, zero, suc, ◌+◌, ◌≤◌, ◌<◌, ◌≡◌, refl, List, [], ◌∷◌, length, get_or}
use Rattle.std.proofs.Common.{arith, sym, ap, subst, ◌∙◌, inl, inr, ne_eqb}
use Rattle.std.proofs.Math.Decide.{dec_lt}
use Rattle.std.proofs.Math.ListN.{get_or-eq_default}
use Rattle.token.specs.Kind.{comma, close_bracket, kind_at}
use Rattle.delimiters.specs.Count.{counted, counted_commas, Quote, double, single}
use Rattle.delimiters.specs.Delimit.{start, after, dividing, rejoined, Stretch, parted, attributes}
use Rattle.delimiters.specs.Pairs.{Pair, OneBetween, Inside, Uncrossed}
use Rattle.delimiters.specs.Divide.{times, covers, Ascending, how_many, Follow, Divides, Closes, Divided}
use Rattle.delimiters.proofs.CountLaws.{counts, bracket-past, count-some}
use Rattle.delimiters.proofs.StepLaws.{other_quote}
use Rattle.delimiters.proofs.CommaLaws.{ascending-to, ascending-length, ascending-at, ascends, comma-at, conserved, part-once, parted-length}
use Rattle.delimiters.proofs.PairLaws.{stays, gone}

-- ---- the dividing commas: they ascend and are counted; none where nothing is counted

pub dividing-ascend : (kinds : List ℕ) → Ascending 0 (dividing kinds) (counted kinds)
unfolding dividing
dividing-ascend kinds = ascends kinds (counted kinds)

-- so for any place that is past the count, as the closing bracket's is
pub dividing-ascend-to : (kinds : List ℕ) (end : ℕ) → counted kinds ≤ end → Ascending 0 (dividing kinds) end
dividing-ascend-to kinds end le = ascending-to 0 (dividing kinds) (counted kinds) end le (dividing-ascend kinds)

pub dividing-few : (kinds : List ℕ) → length (dividing kinds) ≤ counted kinds
dividing-few kinds = omega (arith, ascending-length 0 (dividing kinds) (counted kinds) (dividing-ascend kinds))

pub dividing-at : (kinds : List ℕ) (j : ℕ) → j < length (dividing kinds) → get_or (dividing kinds) j 0 < counted kinds
dividing-at kinds j lt = (ascending-at 0 (dividing kinds) (counted kinds) j (dividing-ascend kinds) lt).1

pub dividing-comma : (kinds : List ℕ) (j : ℕ) → j < length (dividing kinds) → kind_at kinds (get_or (dividing kinds) j 0) ≡ comma
unfolding dividing
dividing-comma kinds j lt = comma-at kinds (counted kinds) j lt

pub dividing-none : (kinds : List ℕ) → counted kinds ≡ 0 → dividing kinds ≡ []
unfolding dividing after start
dividing-none kinds e = ap (λ (n : ℕ). (after kinds n).commas) e

-- ---- with the dividing commas, the commas taken back are the commas counted

pub taken_back : (kinds : List ℕ) → rejoined kinds + length (dividing kinds) ≡ counted_commas kinds
unfolding rejoined dividing counted_commas
taken_back kinds = conserved kinds (counted kinds) (omega (arith, (counts kinds).within))

-- so they are the one number that makes them up
pub taken-back-is : (kinds : List ℕ) (n : ℕ) → n + length (dividing kinds) ≡ counted_commas kinds → n ≡ rejoined kinds
taken-back-is kinds n e = omega (arith, e, taken_back kinds)

-- none where nothing is counted
pub rejoined-none : (kinds : List ℕ) → counted kinds ≡ 0 → rejoined kinds ≡ 0
unfolding rejoined after start
rejoined-none kinds e = ap (λ (n : ℕ). (after kinds n).rejoined) e

-- ---- the attributes

pub attributes-none : (kinds : List ℕ) (end : ℕ) → counted kinds ≡ 0 → attributes kinds end ≡ []
unfolding attributes
attributes-none kinds end e = rw e

pub attributes-some : (kinds : List ℕ) (end : ℕ) → 0 < counted kinds → attributes kinds end ≡ parted 0 (dividing kinds) end
unfolding attributes
attributes-some kinds end some = rw (ne_eqb (counted kinds) 0 (λ e. omega arith))

-- ---- each token is in exactly one attribute or is exactly one dividing comma

pub each_once : (kinds : List ℕ) (end p : ℕ) → 0 < counted kinds → counted kinds ≤ end → p < end → covers p (attributes kinds end) + times p (dividing kinds) ≡ 1
each_once kinds end p some le lt =
    rw (attributes-some kinds end some) (part-once end p 0 (dividing kinds) (dividing-ascend-to kinds end le) (omega arith) lt)

-- ---- a dividing comma is a comma, and is counted

pub only_commas : (kinds : List ℕ) (p : ℕ) → Divides kinds p → (p < counted kinds) × (kind_at kinds p ≡ comma)
only_commas kinds p w =
    let both : (get_or (dividing kinds) w.index 0 < counted kinds) × (kind_at kinds (get_or (dividing kinds) w.index 0) ≡ comma) =
    (dividing-at kinds w.index w.listed, dividing-comma kinds w.index w.listed) in
    subst (λ (x : ℕ). (x < counted kinds) × (kind_at kinds x ≡ comma)) w.is both

-- ---- a counted comma inside no complete pair divides

pub outside-divides : (kinds : List ℕ) (p : ℕ) → p < counted kinds → kind_at kinds p ≡ comma → ((q : Quote) → Inside kinds q p → ⊥) → Divides kinds p
unfolding dividing
outside-divides kinds p lt e out =
    let w = stays kinds p e out lt in
    record { index = length (after kinds p).commas; listed = w.0; is = w.1 }

-- ---- where no single-quote pair crosses a double-quote pair, one inside a complete pair does not

uncrossed-by : (kinds : List ℕ) → Uncrossed kinds → (q : Quote) (a b : ℕ) → Pair kinds q a b → (c d : ℕ) → Pair kinds (other_quote q) c d → OneBetween a b c d → ⊥
uncrossed-by kinds h double a b pr c d pr' o = h c d a b pr' pr (inr o)
uncrossed-by kinds h single a b pr c d pr' o = h a b c d pr pr' (inl o)

pub inside-joins : (kinds : List ℕ) → Uncrossed kinds → (q : Quote) (p : ℕ) → Inside kinds q p → Divides kinds p → ⊥
unfolding dividing
inside-joins kinds h q p w v =
    gone kinds q w.first w.second w.pair (uncrossed-by kinds h q w.first w.second w.pair) p w.between (counted kinds) w.pair.closes.in_count v.index v.listed v.is

-- ---- the whole

-- a closing bracket that has a token before it closes a line of which something is counted
closes-some : (kinds : List ℕ) (end : ℕ) → Closes kinds end → 0 < end → 0 < counted kinds
closes-some kinds end w lt = count-some kinds (long (dec_lt end (length kinds))) (λ e. omega (arith, w.first e))
  where
    long : Dec (end < length kinds) → 2 ≤ length kinds
    long (yes l) = omega arith
    long (no l) = let z : 0 ≡ close_bracket = sym (get_or-eq_default kinds 0 (omega arith)) ∙ w.bracket in absurd (omega arith)

-- ---- the attributes in the order of the line

follow-parted : (f : ℕ) (cs : List ℕ) (end : ℕ) → Follow f cs end (parted f cs end)
unfolding parted
follow-parted f [] end = (refl, refl)
follow-parted f (c ∷ cs) end = (refl, refl, follow-parted (c + 1) cs end)

-- as many as there should be, one after the other: no others are these
pub follow-is : (f : ℕ) (cs : List ℕ) (end : ℕ) (ss : List Stretch) → length ss ≡ suc (length cs) → Follow f cs end ss → ss ≡ parted f cs end
unfolding parted
follow-is f cs end [] n w = absurd (omega arith)
follow-is f [] end (s ∷ []) n w = rw (w.0, w.1) refl
follow-is f [] end (s ∷ t ∷ ss) n w = absurd (omega arith)
follow-is f (c ∷ cs) end (s ∷ ss) n w = rw (w.0, w.1, follow-is (c + 1) cs end ss (omega arith) w.2) refl

module _ (kinds : List ℕ) (end : ℕ) where
  pub attributes-count : length (attributes kinds end) ≡ how_many (counted kinds) (length (dividing kinds))
  attributes-count = go (counted kinds) refl
    where
      go : (n : ℕ) → counted kinds ≡ n → length (attributes kinds end) ≡ how_many n (length (dividing kinds))
      go zero e = ap length (attributes-none kinds end e)
      go (suc n) e = ap length (attributes-some kinds end (omega arith)) ∙ parted-length 0 (dividing kinds) end

  pub attributes-follow : Follow 0 (dividing kinds) end (attributes kinds end)
  attributes-follow = go (counted kinds) refl
    where
      go : (n : ℕ) → counted kinds ≡ n → Follow 0 (dividing kinds) end (attributes kinds end)
      go zero e = subst (Follow 0 (dividing kinds) end) (sym (attributes-none kinds end e)) tt
      go (suc n) e = subst (Follow 0 (dividing kinds) end) (sym (attributes-some kinds end (omega arith))) (follow-parted 0 (dividing kinds) end)

  none_left : (ss : List Stretch) → length ss ≡ 0 → ss ≡ []
  none_left [] n = refl
  none_left (s ∷ ss) n = absurd (omega arith)

  pub attributes-are : (ss : List Stretch) → length ss ≡ how_many (counted kinds) (length (dividing kinds)) → Follow 0 (dividing kinds) end ss → ss ≡ attributes kinds end
  attributes-are ss = go (counted kinds) refl
    where
      go : (n : ℕ) → counted kinds ≡ n → length ss ≡ how_many n (length (dividing kinds)) → Follow 0 (dividing kinds) end ss → ss ≡ attributes kinds end
      go zero e h w = none_left ss h ∙ sym (attributes-none kinds end e)
      go (suc n) e h w = follow-is 0 (dividing kinds) end ss h w ∙ sym (attributes-some kinds end (omega arith))

-- ---- all of it

pub divided : (kinds : List ℕ) (end : ℕ) → Closes kinds end → Divided kinds end
divided kinds end w =
    let within = bracket-past kinds end w.bracket in
    record {
      within = within;
      how-many = attributes-count kinds end;
      follow = attributes-follow kinds end;
      each_once = λ p lt. each_once kinds end p (closes-some kinds end w (omega arith)) within lt;
      in_order = dividing-ascend kinds;
      only_commas = only_commas kinds;
      taken_back = taken_back kinds;
      outside = outside-divides kinds;
      inside = inside-joins kinds;
    }
