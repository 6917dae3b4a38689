-- Key ids are 1 to 512 bytes (Encrypted Media Extensions, 'Key IDs').
use Rattle.std.specs.Prelude.{ℕ, ◌≤◌, List, length}
use Rattle.eme_types.specs.declared.limits.TheConstants.{MAX_KID_BYTES}

abbrev pub IsKeyId : List ℕ → Type 0
IsKeyId bytes = (1 ≤ length bytes) × (length bytes ≤ MAX_KID_BYTES)
