-- Laws of a link's look: one for each way through a turn, and the loop.
use Prim.Native.Nat.{ℕ, zero, suc, ◌+◌, ◌*◌, ◌-◌, ◌≤◌, ◌<◌}
use native.Mathlib.Omega.{arith}
use Rattle.std.proofs.Math.Numerals.{add-one}
use Rattle.std.specs.Prelude.{Bool, cond, not, ◌&&◌, ◌||◌, ◌≡◌, List, eqb, get_or}
use Rattle.std.proofs.Math.Bool.{true, false}
use Rattle.std.proofs.Math.Path.{refl}
use Rattle.std.proofs.Common.{rules, sym, ap, ◌∙◌, ◌/◌, [], take, length-take, get_or-take}
use Rattle.std.specs.Simd.{first_chunks}
use Rattle.std.proofs.Math.ListN.{length}
use borrow.Author.Tests.{ne_eqb}
use Rattle.token.proofs.Checks.{chunk-at}
use Rattle.token.specs.Kind.{close_bracket, double_quote, eof, equal_signs, open_bracket}
use Rattle.closing.specs.declared.LinkMacro.{LinkMacro}
use Rattle.closing.specs.declared.LinkMacro.TheVariants.{AsList, AsText}
use Rattle.closing.specs.declared.look.Seen.{Seen}
use Rattle.std.specs.declared.ops.ControlFlow.TheVariants.{Break, Continue}
use Rattle.closing.specs.Link.{holds_of, sight, goes_on, Turn, turn, text, decided, look_from, link_macro}

module _ (s : Seen) (p k : ℕ) (one : Bool) where
  abbrev escaped : Bool
  escaped = s.escaped

  pub turn-nested : k ≡ close_bracket → s.nested ≡ true → goes_on s.quoted false k ≡ turn s p k one
  unfolding turn
  turn-nested e n = by escaped refl
    where
      by : (b : Bool) → escaped ≡ b → goes_on s.quoted false k ≡ turn s p k one
      by true f = rw (e, n, f)
      by false f = rw (e, n, f)

  pub turn-closed : k ≡ close_bracket → s.nested ≡ false → escaped ≡ false → Break (text p) ≡ turn s p k one
  unfolding turn
  turn-closed e n f = rw (e, n, f)

  pub turn-open : k ≡ open_bracket → escaped ≡ false → goes_on s.quoted true k ≡ turn s p k one
  unfolding turn
  turn-open e f = rw (e, f)

  pub turn-quote : k ≡ double_quote → escaped ≡ false → goes_on (not s.quoted) s.nested k ≡ turn s p k one
  unfolding turn
  turn-quote e f = rw (e, f)

  pub turn-escaped-close : k ≡ close_bracket → s.nested ≡ false → escaped ≡ true → goes_on s.quoted s.nested k ≡ turn s p k one
  unfolding turn
  turn-escaped-close e n f = rw (e, n, f)

  pub turn-escaped-open : k ≡ open_bracket → escaped ≡ true → goes_on s.quoted s.nested k ≡ turn s p k one
  unfolding turn
  turn-escaped-open e f = rw (e, f)

  pub turn-escaped-quote : k ≡ double_quote → escaped ≡ true → goes_on s.quoted s.nested k ≡ turn s p k one
  unfolding turn
  turn-escaped-quote e f = rw (e, f)

  pub turn-equals : k ≡ equal_signs → s.quoted ≡ false → one ≡ true → Break AsList ≡ turn s p k one
  unfolding turn
  turn-equals e q o = by escaped refl
    where
      by : (b : Bool) → escaped ≡ b → Break AsList ≡ turn s p k one
      by true f = rw (e, q, o, f)
      by false f = rw (e, q, o, f)

  pub turn-quoted : k ≡ equal_signs → s.quoted ≡ true → goes_on s.quoted s.nested k ≡ turn s p k one
  unfolding turn
  turn-quoted e q = by escaped one refl refl
    where
      by : (b o : Bool) → escaped ≡ b → one ≡ o → goes_on s.quoted s.nested k ≡ turn s p k one
      by true true f g = rw (e, q, f, g)
      by true false f g = rw (e, q, f, g)
      by false true f g = rw (e, q, f, g)
      by false false f g = rw (e, q, f, g)

  pub turn-long : k ≡ equal_signs → one ≡ false → goes_on s.quoted s.nested k ≡ turn s p k one
  unfolding turn
  turn-long e o = by escaped refl
    where
      by : (b : Bool) → escaped ≡ b → goes_on s.quoted s.nested k ≡ turn s p k one
      by true f = rw (e, o, f)
      by false f = rw (e, o, f)

  pub turn-other : (k ≡ close_bracket → ⊥) → (k ≡ open_bracket → ⊥) → (k ≡ double_quote → ⊥) → (k ≡ equal_signs → ⊥) → goes_on s.quoted s.nested k ≡ turn s p k one
  unfolding turn
  turn-other a b c d = by escaped refl
    where
      by : (b : Bool) → escaped ≡ b → goes_on s.quoted s.nested k ≡ turn s p k one
      by true f = rw (ne_eqb k close_bracket a, ne_eqb k open_bracket b, ne_eqb k double_quote c, ne_eqb k equal_signs d, f)
      by false f = rw (ne_eqb k close_bracket a, ne_eqb k open_bracket b, ne_eqb k double_quote c, ne_eqb k equal_signs d, f)

-- ---- the loop: the look from place i on, at all tokens but the last

module _ (kinds pairs : List ℕ) (s : Seen) (i : ℕ) where
  abbrev pub on_from : LinkMacro
  on_from = look_from kinds pairs s i (length kinds - 1 - i)

module _ (kinds pairs : List ℕ) (s : Seen) (i : ℕ) where
  pub look-end : length kinds ≤ i + 1 → text i ≡ on_from kinds pairs s i
  unfolding look_from
  look-end h =
      let e : length kinds - 1 - i ≡ 0 = omega arith in
      rw e

  -- the token at i decides so
  module _ (lt : i + 1 < length kinds) (one : Bool) (o : one ≡ eqb (get_or pairs (2 * i + 1) 0) 1) where
    look-turn : on_from kinds pairs s i ≡ decided (turn s i (get_or kinds i 0) one) (λ t. on_from kinds pairs t (i + 1))
    unfolding look_from
    look-turn =
        let e : length kinds - 1 - i ≡ suc (length kinds - 1 - suc i) = omega arith in
        rw (e, o, add-one i)

    pub look-held : (held : LinkMacro) → Break held ≡ turn s i (get_or kinds i 0) one → held ≡ on_from kinds pairs s i
    look-held held e = sym (look-turn ∙ rw (← e))

    pub look-list : Break AsList ≡ turn s i (get_or kinds i 0) one → AsList ≡ on_from kinds pairs s i
    look-list = look-held AsList

    pub look-text : Break (text i) ≡ turn s i (get_or kinds i 0) one → text i ≡ on_from kinds pairs s i
    look-text = look-held (text i)

    pub look-on : (t : Seen) → Continue t ≡ turn s i (get_or kinds i 0) one → on_from kinds pairs t (i + 1) ≡ on_from kinds pairs s i
    look-on t e = sym (look-turn ∙ rw (← e))

-- the length of a token, where the pairs are taken two by two
chunk-length : (n i : ℕ) (ps : List ℕ) → i < n → 2 * i + 1 < length ps → get_or (get_or (first_chunks 2 n ps) i []) 1 0 ≡ get_or ps (2 * i + 1) 0
chunk-length n i ps h g = ap (λ (xs : List ℕ). get_or xs 1 0) (chunk-at n i ps h g)

-- what a turn reads of the first n kinds, and of the pairs taken two by two
pub turn-reads : (kinds pairs : List ℕ) (lexemes : List (List ℕ)) (n : ℕ) (s : Seen) (i : ℕ) → length pairs ≡ 2 * length kinds → lexemes ≡ first_chunks 2 (length pairs / 2) pairs → i < length (take n kinds) → turn s i (get_or (take n kinds) i 0) (eqb (get_or (get_or lexemes i []) 1 0) 1) ≡ turn s i (get_or kinds i 0) (eqb (get_or pairs (2 * i + 1) 0) 1)
turn-reads kinds pairs lexemes n s i two e lt =
    let long = length-take n kinds in
    let k = get_or-take n kinds i 0 (omega (arith, long)) in
    let l = ap (λ (cs : List (List ℕ)). get_or (get_or cs i []) 1 0) e ∙ chunk-length (length pairs / 2) i pairs (omega (arith, long, two)) (omega (arith, long, two)) in
    rw (k, l)

pub look-start : (kinds pairs : List ℕ) → on_from kinds pairs (sight false false eof) 0 ≡ link_macro kinds pairs
unfolding link_macro
look-start kinds pairs =
    let e : length kinds - 1 - 0 ≡ length kinds - 1 = omega arith in
    rw e

-- ---- a text ends before a token of the line

-- what a token at place p decides: a list, or text that ends before it
abbrev Breaks : (p : ℕ) → Turn → Type 0
Breaks p (Break AsList) = Unit {0}
Breaks p (Break (AsText end)) = end.0 ≡ p
Breaks p (Continue s) = Unit {0}

turn-breaks : (s : Seen) (p k : ℕ) (one : Bool) → Breaks p (turn s p k one)
unfolding turn
turn-breaks s p k one = by (s.escaped && eqb k close_bracket && s.nested) (s.escaped && (eqb k close_bracket || eqb k open_bracket || eqb k double_quote)) (eqb k double_quote) (eqb k open_bracket) (eqb k close_bracket && s.nested) (eqb k close_bracket) (eqb k equal_signs && one && not s.quoted)
  where
    by : (a b c d e f g : Bool) → Breaks p (cond a (goes_on s.quoted false k) (cond b (goes_on s.quoted s.nested k) (cond c (goes_on (not s.quoted) s.nested k) (cond d (goes_on s.quoted true k) (cond e (goes_on s.quoted false k) (cond f (Break (text p)) (cond g (Break AsList) (goes_on s.quoted s.nested k))))))))
    by true b c d e f g = tt
    by false true c d e f g = tt
    by false false true d e f g = tt
    by false false false true e f g = tt
    by false false false false true f g = tt
    by false false false false false true g = refl
    by false false false false false false true = tt
    by false false false false false false false = tt

abbrev pub Within : (n : ℕ) → LinkMacro → Type 0
Within n AsList = Unit {0}
Within n (AsText end) = end.0 ≤ n

module _ (kinds pairs : List ℕ) where
  decided-within : (t : Turn) (p n : ℕ) (more : Seen → LinkMacro) → Breaks p t → p ≤ n → ((s : Seen) → Within n (more s)) → Within n (decided t more)
  decided-within (Break AsList) p n more b h f = tt
  decided-within (Break (AsText end)) p n more b h f = omega arith
  decided-within (Continue s) p n more b h f = f s

  look-within : (s : Seen) (p n m : ℕ) → p + n ≡ m → Within m (look_from kinds pairs s p n)
  unfolding look_from
  look-within s p zero m e = omega arith
  look-within s p (suc n) m e = decided-within (turn s p (get_or kinds p 0) (eqb (get_or pairs (2 * p + 1) 0) 1)) p m (λ t. look_from kinds pairs t (suc p) n) (turn-breaks s p (get_or kinds p 0) (eqb (get_or pairs (2 * p + 1) 0) 1)) (omega arith) (λ t. look-within t (suc p) n m (omega arith))

  pub link-within : Within (length kinds - 1) (link_macro kinds pairs)
  unfolding link_macro
  link-within = look-within (sight false false eof) 0 (length kinds - 1) (length kinds - 1) (omega arith)

-- ---- what is said tells the case

pub same-link : (c d : LinkMacro) → holds_of c ≡ holds_of d → c ≡ d
same-link AsList AsList e = refl
same-link AsList (AsText q) e = absurd (search rules)
same-link (AsText p) AsList e = absurd (search rules)
same-link (AsText p) (AsText q) e = ap text (ap (λ h. h.end) e)
