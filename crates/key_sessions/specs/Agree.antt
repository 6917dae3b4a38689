-- When the sessions agree on their keys.
use Rattle.std.specs.Prelude.{ℕ, ◌≡◌, List, Some}
use Rattle.eme_types.specs.declared.kid.KeyBytes.{KeyBytes}
use Rattle.key_sessions.specs.Machine.{Machine}
use Rattle.key_sessions.specs.Keys.{held_key}

-- no two sessions hold usable keys of one id that differ
abbrev pub Agree : Machine → Type 0
Agree m = (s t : ℕ) (kid : List ℕ) (a b : KeyBytes) → held_key m s kid ≡ Some a → held_key m t kid ≡ Some b → a ≡ b
