-- A session as the algorithms see it.
use Rattle.key_sessions.specs.declared.session.Session.{Session}
use Rattle.key_sessions.specs.Machine.{SessionState}

-- a session as the algorithms see it
abbrev pub session_of : Session → SessionState
session_of s = record { label = s.label; id = s.id; uninitialized = s.uninitialized; callable = s.callable; closing = s.closing; closed = s.closed; evicted = s.evicted; reason = s.reason; keys = s.keys.keys; start = s.start; expiration = s.expiration; reported = s.reported }
