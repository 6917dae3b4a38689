-- What loops over the sessions know on their way.
use Rattle.std.specs.Prelude.{ℕ, ◌≡◌, Bool, true, false, List, [], ◌∷◌, Option, Some, None}
use Rattle.std.specs.List.{list_all}
use Rattle.std.specs.Str.{bytes_eq}
use Rattle.eme_types.specs.declared.kid.KeyBytes.{KeyBytes}
use Rattle.key_sessions.specs.declared.session.Session.{Session}
use Rattle.key_sessions.specs.Machine.{SessionState}
use Rattle.key_sessions.specs.Keys.{held_in, or_else}

-- none of the sessions has the label
abbrev pub Unlabelled : List Session → List ℕ → Type 0
Unlabelled [] label = Unit {0}
Unlabelled (s ∷ ss) label = (bytes_eq s.label label ≡ false) × Unlabelled ss label

-- the first of the sessions with these numbers that holds a usable key under the id, and the key
abbrev pub first_usable : ℕ → List SessionState → List ℕ → List ℕ → Option (ℕ × KeyBytes)
first_usable moment ss [] kid = None
first_usable moment ss (n ∷ more) kid = or_else (held_in moment ss n kid) n (first_usable moment ss more kid)

-- there is no key, or it is this one
abbrev pub is_no_other : KeyBytes → Option KeyBytes → Bool
is_no_other key None = true
is_no_other key (Some other) = bytes_eq key.bytes other.bytes

-- the sessions with these numbers hold no usable key under the id but the picked one
abbrev pub hold_no_other : ℕ → List SessionState → List ℕ → List ℕ → Option (ℕ × KeyBytes) → Bool
hold_no_other moment ss numbers kid None = true
hold_no_other moment ss numbers kid (Some pick) = list_all (λ n. is_no_other pick.1 (held_in moment ss n kid)) numbers

-- no two of the sessions with these numbers hold usable keys under the id that differ
abbrev pub hold_one_key : ℕ → List SessionState → List ℕ → List ℕ → Bool
hold_one_key moment ss numbers kid = hold_no_other moment ss numbers kid (first_usable moment ss numbers kid)
