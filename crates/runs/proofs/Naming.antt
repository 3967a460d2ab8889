-- The loops that compare names.
use Rattle.std.proofs.Math.Nat.{suc-ne-zero}
use Prim.Native.Nat.{ℕ, ◌+◌, ◌≤◌, ◌<◌}
use native.Mathlib.Omega.{arith}
use mathlib.Core.Bool.{Bool, true, false, ◌&&◌, ◌||◌}
use mathlib.Core.Logic.{inl, inr}
use Rattle.runs.proofs.Ranges.{passed}
use mathlib.Core.Path.{◌≡◌, refl, sym, ap, subst, ◌∙◌}
use mathlib.Core.List.{List, [], ◌∷◌, ◌++◌}
use lib.Dec.{eqb}
use lib.ListN.{length, get_or, drop}
use Rattle.token.specs.Kind.{attr_ref, whitespace}
use Rattle.token.specs.Line.{Line, Token, line_of, token_at}
use Rattle.runs.specs.Run.{kept, is_whitespace, without}
use Rattle.std.proofs.lemmas.Bool.{and_parts}
use Rattle.std.specs.List.{list_all, zip}
use Rattle.std.specs.Prelude.{Option, None, Some}
use Rattle.std.specs.Option.{option_copied}
use denote.Bor.{Bor}
use Rattle.runs.specs.Names.{bytes, same_bytes, prefix, Stripped}
use Rattle.runs.proofs.KeptLaws.{is-kind, not-kind, kept-none, kept-first, kept-skip}
use Rattle.runs.proofs.NamesLaws.{same_bytes-append, same_bytes-none}

-- ---- `starts_with`

-- byte beside byte, of a name that is no shorter
pub prefix-zip : (xs ys : List ℕ) → length xs ≤ length ys → list_all (λ (p : ℕ × ℕ). eqb p.0 p.1) (zip xs ys) ≡ prefix xs ys
unfolding prefix
prefix-zip [] ys h = refl
prefix-zip (x ∷ xs) [] h = absurd (omega arith)
prefix-zip (x ∷ xs) (y ∷ ys) h = rw (prefix-zip xs ys (omega arith)) refl

pub prefix-length : (xs ys : List ℕ) → prefix xs ys ≡ true → length xs ≤ length ys
unfolding prefix
prefix-length [] ys e = omega arith
prefix-length (x ∷ xs) [] e = absurd (suc-ne-zero 0 cc)
prefix-length (x ∷ xs) (y ∷ ys) e =
    let h : length xs ≤ length ys = prefix-length xs ys (and_parts (eqb x y) (prefix xs ys) e).1 in
    omega arith

-- a longer name is no beginning
pub prefix-short : (xs ys : List ℕ) → length ys < length xs → false ≡ prefix xs ys
prefix-short xs ys h = go (prefix xs ys) refl
  where
    go : (b : Bool) → prefix xs ys ≡ b → false ≡ b
    go true e = absurd (omega (arith, h, prefix-length xs ys e))
    go false e = refl

-- ---- `strip_prefix`

module _ (start name : List ℕ) (r : Option (Bor (List ℕ))) (w : Stripped start name (option_copied r)) where
  pub stripped-none : r ≡ None → prefix start name ≡ false
  stripped-none e =
      let v : Stripped start name (option_copied None) = subst (λ (x : Option (Bor (List ℕ))). Stripped start name (option_copied x)) e w in
      v

  pub stripped-some : (left : Bor (List ℕ)) → r ≡ Some left → (prefix start name ≡ true) × (left.now ≡ drop (length start) name)
  stripped-some left e =
      let v : Stripped start name (option_copied (Some left)) = subst (λ (x : Option (Bor (List ℕ))). Stripped start name (option_copied x)) e w in
      v

-- ---- `name_is`

without-first : (t : Token) (ts : List Token) → is_whitespace t ≡ false → without is_whitespace (t ∷ ts) ≡ t ∷ without is_whitespace ts
unfolding without
without-first t ts e = rw e

without-space : (t : Token) (ts : List Token) → is_whitespace t ≡ true → without is_whitespace (t ∷ ts) ≡ without is_whitespace ts
unfolding without
without-space t ts e = rw e

bytes-first : (t : Token) (ts : List Token) → bytes (t ∷ ts) ≡ t.lexeme ++ bytes ts
unfolding bytes
bytes-first t ts = refl

pub record Naming (kinds text pairs : List ℕ) (from to : ℕ) (name : List ℕ) (i : ℕ) (rest : List ℕ) : Type 0 where
  pub low : from ≤ i
  pub high : i ≤ to
  pub same : same_bytes (bytes (without is_whitespace (kept (line_of kinds text pairs) i to))) rest ≡ same_bytes (bytes (without is_whitespace (kept (line_of kinds text pairs) from to))) name

module _ (kinds text pairs : List ℕ) (from to : ℕ) (name : List ℕ) where
  pub naming-start : from ≤ to → Naming kinds text pairs from to name from name
  naming-start h = record { low = omega arith; high = h; same = refl }

  module _ (i : ℕ) (rest : List ℕ) (h : i < to) (w : Naming kinds text pairs from to name i rest) where
    l : Line
    l = line_of kinds text pairs

    pub naming-skip : get_or kinds i 0 ≡ attr_ref → Naming kinds text pairs from to name (i + 1) rest
    naming-skip e =
        record { low = omega (arith, w.low); high = omega arith; same = ap (λ (ts : List Token). same_bytes (bytes (without is_whitespace ts)) rest) (sym (kept-skip (line_of kinds text pairs) i to h e)) ∙ w.same }

    module _ (e : get_or kinds i 0 ≡ attr_ref → ⊥) where
      pub naming-space : get_or kinds i 0 ≡ whitespace → Naming kinds text pairs from to name (i + 1) rest
      naming-space f =
          let g : without is_whitespace (kept (line_of kinds text pairs) i to) ≡ without is_whitespace (kept (line_of kinds text pairs) (i + 1) to) = ap (without is_whitespace) (kept-first (line_of kinds text pairs) i to h e) ∙ without-space (token_at (line_of kinds text pairs) i) (kept (line_of kinds text pairs) (i + 1) to) (is-kind (line_of kinds text pairs) i whitespace f) in
          record { low = omega (arith, w.low); high = omega arith; same = ap (λ (ts : List Token). same_bytes (bytes ts) rest) (sym g) ∙ w.same }

      module _ (f : get_or kinds i 0 ≡ whitespace → ⊥) where
        opens : same_bytes (bytes (without is_whitespace (kept (line_of kinds text pairs) i to))) rest ≡ (prefix (token_at (line_of kinds text pairs) i).lexeme rest && same_bytes (bytes (without is_whitespace (kept (line_of kinds text pairs) (i + 1) to))) (drop (length (token_at (line_of kinds text pairs) i).lexeme) rest))
        opens =
            ap (λ (ts : List Token). same_bytes (bytes ts) rest) (ap (without is_whitespace) (kept-first (line_of kinds text pairs) i to h e) ∙ without-first (token_at (line_of kinds text pairs) i) (kept (line_of kinds text pairs) (i + 1) to) (not-kind (line_of kinds text pairs) i whitespace f))
            ∙ ap (λ (bs : List ℕ). same_bytes bs rest) (bytes-first (token_at (line_of kinds text pairs) i) (without is_whitespace (kept (line_of kinds text pairs) (i + 1) to)))
            ∙ same_bytes-append (token_at (line_of kinds text pairs) i).lexeme (bytes (without is_whitespace (kept (line_of kinds text pairs) (i + 1) to))) rest

        pub naming-differs : prefix (token_at (line_of kinds text pairs) i).lexeme rest ≡ false → false ≡ same_bytes (bytes (without is_whitespace (kept (line_of kinds text pairs) from to))) name
        naming-differs g = sym (sym w.same ∙ opens ∙ rw g)

        pub naming-on : (left : List ℕ) → left ≡ drop (length (token_at (line_of kinds text pairs) i).lexeme) rest → prefix (token_at (line_of kinds text pairs) i).lexeme rest ≡ true → Naming kinds text pairs from to name (i + 1) left
        naming-on left k g =
            record {
              low = omega (arith, w.low);
              high = omega arith;
              same = ap (λ (zs : List ℕ). same_bytes (bytes (without is_whitespace (kept (line_of kinds text pairs) (i + 1) to))) zs) k ∙ sym (opens ∙ rw g) ∙ w.same;
            }

    pub naming-passed : (eqb (get_or kinds i 0) attr_ref || eqb (get_or kinds i 0) whitespace) ≡ true → Naming kinds text pairs from to name (i + 1) rest
    naming-passed e = elim (passed (get_or kinds i 0) e) [ inl f ↦ naming-skip f | inr f ↦ naming-space f.0 f.1 ]

  pub naming-end : (i : ℕ) (rest : List ℕ) → to ≤ i → Naming kinds text pairs from to name i rest → eqb (length rest) 0 ≡ same_bytes (bytes (without is_whitespace (kept (line_of kinds text pairs) from to))) name
  unfolding without bytes
  naming-end i rest h w =
      sym (same_bytes-none rest) ∙ sym (ap (λ (ts : List Token). same_bytes (bytes (without is_whitespace ts)) rest) (kept-none (line_of kinds text pairs) i to h)) ∙ w.same
