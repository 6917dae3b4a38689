-- A session's keys: the ids that it knows, in order of first grant, each with its key or released.
use Rattle.std.specs.Prelude.{ℕ, if◌then◌else◌, List, [], ◌∷◌, map, Option, Some, None}
use Rattle.std.specs.Str.{bytes_eq}
use Rattle.eme_types.specs.declared.kid.KeyBytes.{KeyBytes}
use Rattle.key_statuses.specs.declared.table.KnownKey.{KnownKey}
use Rattle.cdm_world.specs.Distinct.{Distinct}

-- the key under an id; none where the id is unknown or was released
abbrev pub key_in : List KnownKey → List ℕ → Option KeyBytes
key_in [] kid = None
key_in (known ∷ more) kid = if bytes_eq known.kid kid then known.key else key_in more kid

-- an id that is known with its key
abbrev pub known_with : List ℕ → KeyBytes → KnownKey
known_with kid key = record { kid = kid; key = Some key }

-- the key of an id is set; an id that is not known comes last
abbrev pub grant_in : List KnownKey → List ℕ → KeyBytes → List KnownKey
grant_in [] kid key = known_with kid key ∷ []
grant_in (known ∷ more) kid key = if bytes_eq known.kid kid then record known { key = Some key } ∷ more else known ∷ grant_in more kid key

-- the pairs of a key set are granted in order
abbrev pub grant_all : List KnownKey → List (List ℕ × KeyBytes) → List KnownKey
grant_all table [] = table
grant_all table (pair ∷ pairs) = grant_all (grant_in table pair.0 pair.1) pairs

-- the id stays known, without its key
abbrev pub released : KnownKey → KnownKey
released known = record known { key = None }

-- the ids of a table, in order
abbrev pub ids : List KnownKey → List (List ℕ)
ids table = map (λ known. known.kid) table

-- no id stands twice
abbrev pub KnowsEachOnce : List KnownKey → Type 0
KnowsEachOnce table = Distinct (ids table)
