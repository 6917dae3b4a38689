-- What a text begins with.
use Rattle.std.specs.Prelude.{ℕ, ◌==◌, Bool, if◌then◌else◌, List, length, take, drop, Option, Some, None, is_some}
use Rattle.std.specs.Str.{bytes_eq}

-- the text has no byte
abbrev pub is_nothing : List ℕ → Bool
is_nothing text = length text == 0

-- what stands behind a front
abbrev pub behind : List ℕ → List ℕ → Option (List ℕ)
behind front text = if bytes_eq (take (length front) text) front then Some (drop (length front) text) else None

-- the text begins with a front
abbrev pub begins : List ℕ → List ℕ → Bool
begins front text = is_some (behind front text)
