-- The keys that a step of the sessions ended.
use Rattle.std.specs.Prelude.{ℕ, ◌≡◌, ◌⊎◌, List, Option, Some}
use Rattle.eme_types.specs.declared.kid.KeyBytes.{KeyBytes}
use Rattle.cdm_world.specs.In.{In}
use Rattle.cdm_world.specs.Distinct.{Distinct}

-- the pairs of a session and a key id that had a usable key before a step and have afterwards none or another one, each once
pub record AreLost (old new : ℕ → List ℕ → Option KeyBytes) (list : List (ℕ × List ℕ)) : Type 0 where
  pub each : (l : ℕ × List ℕ) → In list l → (key : KeyBytes) × ((old l.0 l.1 ≡ Some key) × (new l.0 l.1 ≡ Some key → ⊥))
  pub all : (s : ℕ) (kid : List ℕ) (key : KeyBytes) → old s kid ≡ Some key → (new s kid ≡ Some key) ⊎ In list (s, kid)
  pub once : Distinct list
