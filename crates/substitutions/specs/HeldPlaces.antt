-- Held and sound said place by place, in words that know nothing of how they are decided. `HeldPlacesLaws` shows that `held`
-- and `sound` are true of exactly these sets.
use Rattle.std.specs.Prelude.{ℕ, ◌≤◌, ◌<◌, ◌≡◌, true, length, get_or}
use Rattle.substitutions.specs.declared.Substitutions.{Substitutions}
use Rattle.substitutions.specs.Kinds.{flagged}

-- What stands in place i, counted from 0.
abbrev pub place : Substitutions → ℕ → ℕ
place s i = get_or s.places i 0

-- A kind that has a flag without a place.
pub record Spare (s : Substitutions) (k : ℕ) : Type 0 where
  pub from : 1 ≤ k
  pub to : k ≤ 7
  pub flag : flagged k s.flags ≡ true
  pub nowhere : (i : ℕ) → i < 7 → place s i ≡ k → ⊥

pub record HeldSet (s : Substitutions) : Type 0 where
  -- a set has seven places
  pub seven : length s.places ≡ 7
  -- places of 0 to 7 only
  pub small : (i : ℕ) → i < 7 → place s i ≤ 7
  -- packed from the front
  pub packed : (i j : ℕ) → i < j → j < 7 → place s i ≡ 0 → place s j ≡ 0
  -- no kind twice
  pub once : (i j : ℕ) → i < j → j < 7 → place s i ≡ place s j → place s i ≡ 0
  -- a flag for every kind placed
  pub covered : (i : ℕ) → i < 7 → (place s i ≡ 0 → ⊥) → flagged (place s i) s.flags ≡ true
  -- bit 7 clear
  pub clear : s.flags < 128
  -- at most one flag without a place
  pub one_spare : (j k : ℕ) → Spare s j → Spare s k → j ≡ k

pub record SoundSet (s : Substitutions) : Type 0 where
  pub held : HeldSet s
  -- no flag without a place
  pub no_spare : (k : ℕ) → Spare s k → ⊥
