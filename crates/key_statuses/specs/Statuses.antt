-- The statuses of a key table at a moment (Encrypted Media Extensions, MediaKeyStatus and 'Update Key Statuses').
use Rattle.std.specs.Prelude.{ℕ, Bool, true, false, ◌&&◌, not, if◌then◌else◌, List, [], ◌∷◌, map, Option, Some, None, nat_lt, nat_le}
use Rattle.std.specs.List.Sorted.{IsStrictlySortedBy}
use Rattle.std.specs.Ordering.{nat_cmp}
use Rattle.std.specs.Str.{bytes_eq}
use Rattle.std.specs.Cmp.Lexicographic.{slice_cmp}
use Rattle.std.specs.declared.cmp.Ordering.{Ordering}
use Rattle.std.specs.declared.cmp.Ordering.TheVariants.{Less, Equal, Greater}
use Rattle.eme_types.specs.declared.kid.KeyBytes.{KeyBytes}
use Rattle.eme_types.specs.declared.kid.Status.{Status}
use Rattle.eme_types.specs.declared.kid.Status.TheVariants.{Usable, Expired, Released, UsableInFuture}
use Rattle.key_statuses.specs.declared.table.KnownKey.{KnownKey}

-- there is no start, or it is not after the moment
abbrev pub has_begun : Option ℕ → ℕ → Bool
has_begun None moment = true
has_begun (Some start) moment = nat_le start moment

-- there is no expiration, or it is after the moment
abbrev pub lasts : Option ℕ → ℕ → Bool
lasts None moment = true
lasts (Some end) moment = nat_lt moment end

-- the start is none or not after the moment, and the expiration is none or after it
abbrev pub is_usable_at : Option ℕ → Option ℕ → ℕ → Bool
is_usable_at start expiration moment = has_begun start moment && lasts expiration moment

-- the status of a key that is held: expired where there is an expiration not after the moment; else usable in future where the start is after the moment; else usable
abbrev pub held_status : Option ℕ → Option ℕ → ℕ → Status
held_status start expiration moment = if lasts expiration moment then (if has_begun start moment then Usable else UsableInFuture) else Expired

-- the status is `Usable`
abbrev pub is_usable : Status → Bool
is_usable Usable = true
is_usable Expired = false
is_usable Released = false
is_usable UsableInFuture = false

-- the status is `UsableInFuture`
abbrev pub is_usable_later : Status → Bool
is_usable_later Usable = false
is_usable_later Expired = false
is_usable_later Released = false
is_usable_later UsableInFuture = true

-- the status of a known id, where its session's held keys have that status
abbrev pub status_of : Option KeyBytes → Status → Status
status_of None held = Released
status_of (Some key) held = held

-- the first of the two stands before the second
abbrev pub is_less : Ordering → Bool
is_less Less = true
is_less Equal = false
is_less Greater = false

-- octet by octet; a prefix comes before its extension
abbrev pub comes_before : List ℕ → List ℕ → Bool
comes_before a b = is_less (slice_cmp nat_cmp a b)

-- the status stands in the order of ids, before the first greater id
abbrev pub insert_status : List ℕ × Status → List (List ℕ × Status) → List (List ℕ × Status)
insert_status s [] = s ∷ []
insert_status s (t ∷ more) = if comes_before s.0 t.0 then s ∷ (t ∷ more) else t ∷ insert_status s more

-- the statuses, with those of these known keys
abbrev pub statuses_from : List (List ℕ × Status) → List KnownKey → Status → List (List ℕ × Status)
statuses_from list [] held = list
statuses_from list (known ∷ more) held = statuses_from (insert_status (known.kid, status_of known.key held) list) more held

-- the status of each known id, sorted by id
abbrev pub statuses : List KnownKey → Status → List (List ℕ × Status)
statuses table held = statuses_from [] table held

-- a known id with its status
abbrev pub reported_as : Status → KnownKey → List ℕ × Status
reported_as held known = (known.kid, status_of known.key held)

-- the id of a status
abbrev pub kid_of : List ℕ × Status → List ℕ
kid_of s = s.0

-- strictly ascending by id, octet by octet, so that each id stands once; a prefix comes before its extension
abbrev pub AreSorted : List (List ℕ × Status) → Type 0
AreSorted list = IsStrictlySortedBy (slice_cmp nat_cmp) (map kid_of list)

-- both are none, or the same key
abbrev pub same_key : Option KeyBytes → Option KeyBytes → Bool
same_key None None = true
same_key None (Some b) = false
same_key (Some a) None = false
same_key (Some a) (Some b) = bytes_eq a.bytes b.bytes

-- the same ids with the same keys, in the same order
abbrev pub same_table : List KnownKey → List KnownKey → Bool
same_table [] [] = true
same_table [] (y ∷ ys) = false
same_table (x ∷ xs) [] = false
same_table (x ∷ xs) (y ∷ ys) = (bytes_eq x.kid y.kid && same_key x.key y.key) && same_table xs ys

-- the statuses are the same
abbrev pub same_status : Status → Status → Bool
same_status Usable Usable = true
same_status Usable Expired = false
same_status Usable Released = false
same_status Usable UsableInFuture = false
same_status Expired Usable = false
same_status Expired Expired = true
same_status Expired Released = false
same_status Expired UsableInFuture = false
same_status Released Usable = false
same_status Released Expired = false
same_status Released Released = true
same_status Released UsableInFuture = false
same_status UsableInFuture Usable = false
same_status UsableInFuture Expired = false
same_status UsableInFuture Released = false
same_status UsableInFuture UsableInFuture = true

-- the lists have the same ids and statuses in the same order
abbrev pub same_statuses : List (List ℕ × Status) → List (List ℕ × Status) → Bool
same_statuses [] [] = true
same_statuses [] (y ∷ ys) = false
same_statuses (x ∷ xs) [] = false
same_statuses (x ∷ xs) (y ∷ ys) = (bytes_eq x.0 y.0 && same_status x.1 y.1) && same_statuses xs ys

-- the statuses of the table, or the table itself, differ from before; the first status of each pair is that of a held key
abbrev pub is_changed : List KnownKey → Status → List KnownKey → Status → Bool
is_changed old before new after = not (same_table old new && same_statuses (statuses old before) (statuses new after))
