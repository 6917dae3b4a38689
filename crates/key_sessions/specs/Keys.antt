-- Which keys can be used now.
use Rattle.std.specs.Prelude.{ℕ, ◌+◌, ◌&&◌, not, Bool, if◌then◌else◌, List, [], ◌∷◌, Option, Some, None, is_some}
use Rattle.std.specs.List.{list_any}
use Rattle.eme_types.specs.declared.kid.KeyBytes.{KeyBytes}
use Rattle.key_statuses.specs.Table.{key_in}
use Rattle.key_statuses.specs.Statuses.{is_usable, is_usable_later}
use Rattle.key_sessions.specs.Machine.{SessionState, Machine, session_at, status_at}

-- the key that a session holds under an id, where it is not closed, its start is none or not after the moment, and its expiration is none or after it
abbrev pub usable_key : ℕ → SessionState → List ℕ → Option KeyBytes
usable_key moment s kid = if s.closed then None else (if is_usable (status_at moment s) then key_in s.keys kid else None)

-- the key that the session holds usable at a moment, if it is there
abbrev pub key_of : ℕ → Option SessionState → List ℕ → Option KeyBytes
key_of moment None kid = None
key_of moment (Some s) kid = usable_key moment s kid

-- the key that the session with the number holds usable at a moment
abbrev pub held_in : ℕ → List SessionState → ℕ → List ℕ → Option KeyBytes
held_in moment sessions n kid = key_of moment (session_at sessions n) kid

-- the key that it holds usable now
abbrev pub held_key : Machine → ℕ → List ℕ → Option KeyBytes
held_key m n kid = held_in m.moment m.sessions n kid

-- the key with the session's number, or what the sessions behind it hold
abbrev pub or_else : Option KeyBytes → ℕ → Option (ℕ × KeyBytes) → Option (ℕ × KeyBytes)
or_else None n rest = rest
or_else (Some key) n rest = Some (n, key)

-- the first of these sessions, numbered from n, that holds a usable key under the id, and the key
abbrev pub pick_from : ℕ → ℕ → List SessionState → List ℕ → Option (ℕ × KeyBytes)
pick_from moment n [] kid = None
pick_from moment n (s ∷ more) kid = or_else (usable_key moment s kid) n (pick_from moment (n + 1) more kid)

-- the pick for a key id: the first session that holds it usable now, and its key
abbrev pub pick : Machine → List ℕ → Option (ℕ × KeyBytes)
pick m kid = pick_from m.moment 1 m.sessions kid

-- the session is not closed, and holds under the id a key whose status at the moment is `usable-in-future`
abbrev pub holds_later : ℕ → List ℕ → SessionState → Bool
holds_later moment kid s = not s.closed && (is_usable_later (status_at moment s) && is_some (key_in s.keys kid))

-- some session that is not closed holds under the id a key that is usable later
abbrev pub is_later : Machine → List ℕ → Bool
is_later m kid = list_any (holds_later m.moment kid) m.sessions
