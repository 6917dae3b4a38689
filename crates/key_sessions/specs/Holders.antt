-- Which sessions hold a key under an id, usable now or not.
use Rattle.std.specs.Prelude.{ℕ, ◌≡◌, ◌+◌, Bool, if◌then◌else◌, List, [], ◌∷◌, is_some}
use Rattle.key_statuses.specs.Table.{key_in}
use Rattle.key_statuses.specs.Index.{holders_of}
use Rattle.key_sessions.specs.Machine.{SessionState, Machine}

-- the session's table holds a key under the id
abbrev pub holds_key : List ℕ → SessionState → Bool
holds_key kid s = is_some (key_in s.keys kid)

-- the numbers of those of these sessions, numbered from n, that hold a key under the id
abbrev pub holders_from : ℕ → List SessionState → List ℕ → List ℕ
holders_from n [] kid = []
holders_from n (s ∷ more) kid = if holds_key kid s then n ∷ holders_from (n + 1) more kid else holders_from (n + 1) more kid

-- the sessions that hold a key under the id, in ascending order
abbrev pub holders : Machine → List ℕ → List ℕ
holders m kid = holders_from 1 m.sessions kid

-- the index has under each id the sessions that hold a key under it
abbrev pub IsIndexOf : List (List ℕ × List ℕ) → List SessionState → Type 0
IsIndexOf index sessions = (kid : List ℕ) → holders_of index kid ≡ holders_from 1 sessions kid
