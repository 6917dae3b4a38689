-- The state of the session algorithms (Encrypted Media Extensions section 6, MediaKeySession).
use Rattle.std.specs.Prelude.{zero, suc, ℕ, Bool, true, false, List, [], ◌∷◌, Option, None, slice_get}
use Rattle.eme_types.specs.declared.call.Settled.{Settled}
use Rattle.eme_types.specs.declared.call.Event.{Event}
use Rattle.eme_types.specs.declared.call.Reason.{Reason}
use Rattle.eme_types.specs.declared.kid.Status.{Status}
use Rattle.key_statuses.specs.declared.table.KnownKey.{KnownKey}
use Rattle.key_statuses.specs.Statuses.{held_status}
use Rattle.task_queue.specs.declared.work.Job.{Job}
use Rattle.task_queue.specs.declared.work.Task.{Task}

-- a session (Encrypted Media Extensions section 6): its label and id; how far it is in its life, whether the CDM evicted it, and why it is closed; its keys with their start and their expiration; and the statuses that were told
pub record SessionState : Type 0 where
  pub label : List ℕ
  pub id : Option ℕ
  pub uninitialized : Bool
  pub callable : Bool
  pub closing : Bool
  pub closed : Bool
  pub evicted : Bool
  pub reason : Option Reason
  pub keys : List KnownKey
  pub start : Option ℕ
  pub expiration : Option ℕ
  pub reported : List (List ℕ × Status)

-- sessions stand in order of creation and are numbered from 1, and so are promises; a promise is pending or settled
pub record Machine : Type 0 where
  pub sessions : List SessionState
  pub jobs : List Job
  pub tasks : List Task
  pub promises : List (Option Settled)
  pub moment : ℕ
  pub fired : List Event

-- no session, empty queues, moment 0
abbrev pub empty_machine : Machine
empty_machine = record { sessions = []; jobs = []; tasks = []; promises = []; moment = 0; fired = [] }

-- a session as it is created
abbrev pub new_session : List ℕ → SessionState
new_session label = record { label = label; id = None; uninitialized = true; callable = false; closing = false; closed = false; evicted = false; reason = None; keys = []; start = None; expiration = None; reported = [] }

-- the session with the number; there is no session 0
abbrev pub session_at : List SessionState → ℕ → Option SessionState
session_at sessions zero = None
session_at sessions (suc i) = slice_get sessions i

-- the status of the keys that a session holds, at a moment
abbrev pub status_at : ℕ → SessionState → Status
status_at moment s = held_status s.start s.expiration moment

-- the item at a place is changed; past the end nothing is
abbrev pub change_at : {A : Type 0} → List A → ℕ → (A → A) → List A
change_at [] i f = []
change_at (x ∷ xs) zero f = f x ∷ xs
change_at (x ∷ xs) (suc i) f = x ∷ change_at xs i f

-- the session with the number is changed
abbrev pub change_session : List SessionState → ℕ → (SessionState → SessionState) → List SessionState
change_session sessions zero f = sessions
change_session sessions (suc i) f = change_at sessions i f
