-- What a step changes of a session.
use Rattle.std.specs.Prelude.{ℕ, ◌+◌, ◌<◌, ◌≡◌, map, List, length, slice_index_or, Option, Some, None}
use Rattle.key_sessions.specs.declared.change.Change.{Change}
use Rattle.key_sessions.specs.declared.change.Change.TheVariants.{Started, Callable, Closing, Keys, Released, Evicted, Reported, Closed}
use Rattle.key_sessions.specs.declared.session.Session.{Session}
use Rattle.key_sessions.specs.Machine.{SessionState, change_session}
use Rattle.key_sessions.specs.Calls.{find_from, start_request, start_closing}
use Rattle.key_sessions.specs.Steps.{closed_for}
use Rattle.key_sessions.specs.Jobs.{without_keys}
use Rattle.key_sessions.specs.Evict.{evict_session}
use Rattle.key_sessions.specs.Tasks.{made_callable}
use Rattle.key_sessions.specs.SessionOf.{session_of}

-- a session after a change
abbrev pub changed : Change → SessionState → SessionState
changed Started s = start_request s
changed (Callable id) s = made_callable id s
changed Closing s = start_closing s
changed (Keys table start expiration) s = record s { keys = table.keys; start = start; expiration = expiration }
changed Released s = without_keys s
changed Evicted s = evict_session s
changed (Reported list) s = record s { reported = list }
changed (Closed list reason) s = closed_for reason (record s { reported = list })

-- the sessions after a change of the one with the number, if any is wanted
abbrev pub changed_in : List SessionState → ℕ → Option Change → List SessionState
changed_in sessions n None = sessions
changed_in sessions n (Some change) = change_session sessions n (changed change)

-- the place of the first session with the label
abbrev pub LabelFound : List Session → List ℕ → Option ℕ → Type 0
LabelFound ss label None = find_from 1 (map session_of ss) label ≡ None
LabelFound ss label (Some i) = (i < length ss) × ((d : Session) → find_from 1 (map session_of ss) label ≡ Some (i + 1, session_of (slice_index_or ss i d)))
