-- What the tests of tables and statuses tell.
use Rattle.std.specs.Prelude.{ℕ, ◌≡◌, ◌↔◌, IsTrue, IsFalse, List}
use Rattle.eme_types.specs.declared.kid.Status.{Status}
use Rattle.key_statuses.specs.declared.table.KnownKey.{KnownKey}
use Rattle.key_statuses.specs.Statuses.{same_table, same_statuses, statuses, is_changed}

-- true exactly for equal tables
abbrev pub TellsTables : Type 0
TellsTables = (a b : List KnownKey) → IsTrue (same_table a b) ↔ (a ≡ b)

-- true exactly for equal lists of statuses
abbrev pub TellsStatuses : Type 0
TellsStatuses = (a b : List (List ℕ × Status)) → IsTrue (same_statuses a b) ↔ (a ≡ b)

-- false exactly where the table and its statuses are as before
abbrev pub TellsChanges : Type 0
TellsChanges = (old : List KnownKey) (before : Status) (new : List KnownKey) (after : Status) → IsFalse (is_changed old before new after) ↔ ((old ≡ new) × (statuses old before ≡ statuses new after))
