-- The lane of a line, and which lines act.
use Rattle.std.specs.Prelude.{ℕ, ◌-◌, ◌==◌, ◌&&◌, nat_le, nat_lt, Bool, false, not, if◌then◌else◌, List, [], ◌∷◌, Option, Some, None}
use Rattle.eme_types.specs.declared.limits.TheConstants.{MAX_LANES}

-- a word for a lane: one digit from 0 to 7
abbrev pub lane_of : List ℕ → Option ℕ
lane_of [] = None
lane_of (digit ∷ []) = if nat_le 48 digit && nat_lt (digit - 48) MAX_LANES then Some (digit - 48) else None
lane_of (digit ∷ b ∷ more) = None

-- an empty line, and one that begins with #, does nothing
abbrev pub acts : List ℕ → Bool
acts [] = false
acts (b ∷ line) = not (b == 35)
