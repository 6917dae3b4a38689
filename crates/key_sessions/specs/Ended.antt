-- The keys that end where the table of one session, or its use, changes.
use Rattle.std.specs.Prelude.{ℕ, ◌≡◌, ◌⊎◌, Bool, false, not, if◌then◌else◌, List, [], ◌∷◌, Option, Some, None}
use Rattle.eme_types.specs.declared.kid.KeyBytes.{KeyBytes}
use Rattle.key_statuses.specs.declared.table.KnownKey.{KnownKey}
use Rattle.cdm_world.specs.In.{In}
use Rattle.cdm_world.specs.Distinct.{Distinct}
use Rattle.key_statuses.specs.Table.{key_in}
use Rattle.key_statuses.specs.Statuses.{same_key}
use Rattle.key_sessions.specs.declared.lost.Lost.{Lost}

-- the key under an id, where the table can be used
abbrev pub key_if : Bool → List KnownKey → List ℕ → Option KeyBytes
key_if usable table kid = if usable then key_in table kid else None

-- there was a key, and it is not the same key now
abbrev pub is_gone : Option KeyBytes → Option KeyBytes → Bool
is_gone None new = false
is_gone (Some key) new = not (same_key (Some key) new)

-- of the ids of `rest`, those whose usable key in `old` is gone in `new`
abbrev pub ended_keys : ℕ → List KnownKey → List KnownKey → Bool → List KnownKey → Bool → List Lost
ended_keys n [] old a new b = []
ended_keys n (x ∷ xs) old a new b = if is_gone (key_if a old x.kid) (key_if b new x.kid) then (let l : Lost = record { session = n; kid = x.kid } in l) ∷ ended_keys n xs old a new b else ended_keys n xs old a new b

-- just the pairs of this session and of an id that had a usable key before and have afterwards none or another one, each once
pub record AreEnded (n : ℕ) (old new : List ℕ → Option KeyBytes) (list : List (ℕ × List ℕ)) : Type 0 where
  pub ours : (l : ℕ × List ℕ) → In list l → l.0 ≡ n
  pub each : (l : ℕ × List ℕ) → In list l → (key : KeyBytes) × ((old l.1 ≡ Some key) × (new l.1 ≡ Some key → ⊥))
  pub all : (kid : List ℕ) (key : KeyBytes) → old kid ≡ Some key → (new kid ≡ Some key) ⊎ In list (n, kid)
  pub once : Distinct list
