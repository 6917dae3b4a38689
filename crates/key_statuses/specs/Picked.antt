-- A pick as it is answered.
use Rattle.std.specs.Prelude.{ℕ, Option, Some, None}
use Rattle.eme_types.specs.declared.kid.KeyBytes.{KeyBytes}
use Rattle.key_statuses.specs.declared.pick.Pick.{Pick}

-- a pick as the session and the key
abbrev pub picked : Option (ℕ × KeyBytes) → Option Pick
picked None = None
picked (Some p) = Some (record { session = p.0; key = p.1 })
