-- What loops know on their way.
use Rattle.std.specs.Prelude.{ℕ, ◌≡◌, ◌<◌, ◌≤◌, ◌++◌, length, slice_set, slice_index_or, true, false, nat_lt, List, [], ◌∷◌, Option, Some, None}
use Rattle.std.specs.List.{insert}
use Rattle.std.specs.Str.{bytes_eq}
use Rattle.eme_types.specs.declared.kid.KeyBytes.{KeyBytes}
use Rattle.eme_types.specs.declared.kid.Status.{Status}
use Rattle.key_statuses.specs.declared.table.KnownKey.{KnownKey}
use Rattle.key_statuses.specs.Table.{grant_in, known_with}
use Rattle.key_statuses.specs.Statuses.{comes_before, insert_status}
use Rattle.key_statuses.specs.Index.{with_number}

-- no known id is this one
abbrev pub Unknown : List KnownKey → List ℕ → Type 0
Unknown [] kid = Unit {0}
Unknown (known ∷ more) kid = (bytes_eq known.kid kid ≡ false) × Unknown more kid

-- the granted table, by the place of the id where it is known
abbrev pub FirstOf : List KnownKey → List ℕ → Option ℕ → Type 0
FirstOf table kid None = (key : KeyBytes) → grant_in table kid key ≡ table ++ known_with kid key ∷ []
FirstOf table kid (Some i) = (i < length table) × ((key : KeyBytes) (d : KnownKey) → grant_in table kid key ≡ slice_set table i (let was = slice_index_or table i d in record was { key = Some key }))

-- where the status of an id goes
abbrev pub InsertsAt : List (List ℕ × Status) → List ℕ → ℕ → Type 0
InsertsAt list kid i = (i ≤ length list) × ((status : Status) → insert list i (kid, status) ≡ insert_status (kid, status) list)

-- no status stands behind the id
abbrev pub NoneAfter : List (List ℕ × Status) → List ℕ → Type 0
NoneAfter [] kid = Unit {0}
NoneAfter (t ∷ more) kid = (comes_before kid t.0 ≡ false) × NoneAfter more kid

-- where a number goes among ascending numbers, if it is not there
abbrev pub PlacesAt : List ℕ → ℕ → Option ℕ → Type 0
PlacesAt numbers n None = with_number n numbers ≡ numbers
PlacesAt numbers n (Some i) = (i ≤ length numbers) × (insert numbers i n ≡ with_number n numbers)

-- each of the numbers is less
abbrev pub AreLess : List ℕ → ℕ → Type 0
AreLess [] n = Unit {0}
AreLess (m ∷ more) n = (nat_lt m n ≡ true) × AreLess more n
