-- A line of one token is no block attribute list.
use Rattle.std.specs.Prelude.{ℕ, ◌<◌, Bool, true, false, not, ◌&&◌, ◌≡◌, refl, List, [], ◌∷◌, eqb, length}
use Rattle.std.proofs.Common.{arith, ne_eqb, eqb-true}
use Rattle.token.specs.Kind.{backslash, close_bracket, open_bracket}
use Rattle.attr_list.specs.Block.{is_block_attr_list}

pub single-not : (kinds : List ℕ) → length kinds < 2 → false ≡ is_block_attr_list kinds
unfolding is_block_attr_list
single-not [] h = refl
single-not (k ∷ []) h = go (eqb k open_bracket) refl
  where
    go : (b : Bool) → eqb k open_bracket ≡ b → false ≡ (b && eqb k close_bracket && not (eqb k backslash) && not (eqb 0 open_bracket))
    go true e =
        let z : eqb k close_bracket ≡ false = ne_eqb k close_bracket (λ f. omega (arith, f, eqb-true k open_bracket e)) in
        rw z
    go false e = refl
single-not (k ∷ l ∷ ks) h = absurd (omega (arith, h))
