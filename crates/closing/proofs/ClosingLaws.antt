-- Laws of the closing bracket after a dividing comma: where the last attribute begins, and that the bracket is one of the line.
use Rattle.std.specs.Prelude.{Option, None, Some, ℕ, suc, ◌+◌, ◌-◌, ◌≤◌, ◌<◌, Bool, true, false, ◌≡◌, refl, List, [], ◌∷◌, length, get_or, slice_get}
use Rattle.std.proofs.Common.{arith, subst, ◌∙◌, get_or-take, length-take-le}
use Rattle.std.proofs.lemmas.Option.{slice_get-get_or}
use Rattle.std.proofs.Math.Path.{sym, ap}
use Rattle.std.proofs.Math.ListN.{take}
use Rattle.token.specs.Kind.{close_bracket, kind_at}
use Rattle.delimiters.specs.Count.{counted}
use Rattle.delimiters.specs.Delimit.{dividing}
use Rattle.delimiters.specs.Divide.{Ascending}
use Rattle.delimiters.proofs.CountLaws.{counts}
use Rattle.delimiters.proofs.DivideLaws.{dividing-ascend}
use Rattle.token.specs.declared.TokenPlace.{TokenPlace}
use Rattle.closing.specs.Closing.{at, last_bracket, next_bracket, last_begins, closing}
use Rattle.closing.specs.Closes.{Found, FoundLast, ClosesList}
use Rattle.closing.proofs.Laws.{next-found, next-is, last-here, last_found}

-- ---- where the last attribute begins

pub begins-last : (from : ℕ) (cs : List ℕ) → 0 < length cs → last_begins from cs ≡ get_or cs (length cs - 1) 0 + 1
unfolding last_begins
begins-last from [] h = absurd (omega arith)
begins-last from (c ∷ []) h = refl
begins-last from (c ∷ d ∷ cs) h =
    let e : suc (suc (length cs)) - 1 ≡ suc (suc (length cs) - 1) = omega arith in
    begins-last (c + 1) (d ∷ cs) (omega arith) ∙ sym (ap (λ (k : ℕ). get_or (c ∷ d ∷ cs) k 0 + 1) e)

module _ (kinds commas : List ℕ) (n : ℕ) (enough : n ≤ length commas) (same : take n commas ≡ dividing kinds) where
  pub begins-none : n ≡ 0 → 0 ≡ last_begins 0 (dividing kinds)
  unfolding last_begins
  begins-none e = sym (ap (last_begins 0) (sym same ∙ ap (λ (k : ℕ). take k commas) e))

  pub begins-some : (c : ℕ) → 0 < n → c ≡ get_or commas (n - 1) 0 → c + 1 ≡ last_begins 0 (dividing kinds)
  begins-some c some e =
      let long : length (take n commas) ≡ n = length-take-le n commas enough in
      let last : get_or (take n commas) (length (take n commas) - 1) 0 ≡ c = ap (λ (k : ℕ). get_or (take n commas) (k - 1) 0) long ∙ get_or-take n commas (n - 1) 0 (omega arith) ∙ sym e in
      sym (ap (last_begins 0) (sym same) ∙ begins-last 0 (take n commas) (omega (arith, long)) ∙ ap (λ (k : ℕ). k + 1) last)

-- what the code reads of the commas: the last one, if there is one
abbrev pub begins_after : Option ℕ → ℕ
begins_after None = 0
begins_after (Some c) = c + 1

pub begins-after : (commas : List ℕ) (last : Option ℕ) → last ≡ slice_get commas (length commas - 1) → begins_after last ≡ last_begins 0 commas
unfolding last_begins
begins-after [] last e = ap begins_after e
begins-after (c ∷ cs) last e =
    ap begins_after (e ∙ slice_get-get_or (c ∷ cs) (length (c ∷ cs) - 1) 0 (omega arith)) ∙ sym (begins-last 0 (c ∷ cs) (omega arith))

-- ---- the closing bracket

pub begins-within : (from : ℕ) (cs : List ℕ) (n : ℕ) → Ascending from cs n → last_begins from cs ≤ n
unfolding last_begins
begins-within from [] n h = h
begins-within from (c ∷ cs) n h = begins-within (c + 1) cs n h.1

-- where the last attribute begins there is a token
pub begins-among : (kinds : List ℕ) → 0 < length kinds → last_begins 0 (dividing kinds) < length kinds
begins-among kinds some = omega (arith, begins-within 0 (dividing kinds) (counted kinds) (dividing-ascend kinds), (counts kinds).within)

-- a bracket that closes is a CloseBracket of the line
pub record IsBracket (kinds : List ℕ) (end : ℕ) : Type 0 where
  pub among : end < length kinds
  pub bracket : kind_at kinds end ≡ close_bracket

module _ (kinds : List ℕ) where
  abbrev pub Closed : (full_line : Bool) → Option TokenPlace → Type 0
  Closed full (Some end) = ClosesList full kinds end.0
  Closed full None = Unit {0}

  last-closed : (c : Option TokenPlace) → FoundLast kinds c → Closed true c
  last-closed (Some end) w = w
  last-closed None w = tt

  next-closed : (c : Option TokenPlace) → Found kinds (last_begins 0 (dividing kinds)) c → Closed false c
  next-closed (Some end) w = w
  next-closed None w = tt

  -- the bracket that the definition gives is the one that the words say
  pub closing-closes : 0 < length kinds → (full : Bool) → Closed full (closing full kinds)
  closing-closes some true = last-closed (last_bracket kinds) (last_found kinds)
  closing-closes some false =
      next-closed (next_bracket kinds (last_begins 0 (dividing kinds))) (next-found kinds (last_begins 0 (dividing kinds)) (begins-among kinds some))

  -- and no other is
  pub closes-closing : (full : Bool) (p : ℕ) → ClosesList full kinds p → closing full kinds ≡ at p
  closes-closing true p w = sym (last-here kinds (subst (λ (x : ℕ). kind_at kinds x ≡ close_bracket) w.last w.bracket)) ∙ ap at (sym w.last)
  closes-closing false p w = next-is kinds (last_begins 0 (dividing kinds)) p w

  pub closes-bracket : 0 < length kinds → (full : Bool) (p : ℕ) → ClosesList full kinds p → IsBracket kinds p
  closes-bracket some true p w = record { among = omega (arith, w.last); bracket = w.bracket }
  closes-bracket some false p w = record { among = w.high; bracket = w.bracket }
