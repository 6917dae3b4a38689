-- What an eviction by the CDM does: the session ends without a call of the application.
use Rattle.std.specs.Prelude.{ℕ, Bool, true, false, not, if◌then◌else◌, List, Option, Some, None}
use Rattle.task_queue.specs.declared.work.Task.TheVariants.{Evicted}
use Rattle.key_sessions.specs.Machine.{SessionState, Machine}
use Rattle.key_sessions.specs.Steps.{Done, unmoved, queue_task, with_session}
use Rattle.key_sessions.specs.Calls.{find_label, is_ending, start_closing}
use Rattle.key_sessions.specs.Jobs.{cleared}

-- the session is evicted and closing, and has no key, no start and no expiration
abbrev pub evict_session : SessionState → SessionState
evict_session s = record (start_closing (cleared s)) { evicted = true }

-- a session that is neither closing nor closed
abbrev pub is_open : Option (ℕ × SessionState) → Bool
is_open None = false
is_open (Some (n, s)) = not (is_ending s)

-- the number of a session that is neither closing nor closed
abbrev pub open_number : Option (ℕ × SessionState) → Option ℕ
open_number None = None
open_number (Some (n, s)) = if is_ending s then None else Some n

-- whether an eviction of the label ends a session: it names one that is neither closing nor closed
abbrev pub evicts : List ℕ → Machine → Bool
evicts label m = is_open (find_label m label)

-- the session with the number is evicted, and its last report is queued
abbrev pub evict_numbered : ℕ → Machine → Machine
evict_numbered n m = queue_task (Evicted n) (with_session n evict_session m)

-- an open session is evicted
abbrev pub evict_on : Machine → Option (ℕ × SessionState) → Machine
evict_on m None = m
evict_on m (Some (n, s)) = if is_ending s then m else evict_numbered n m

-- what an eviction does; the application sees nothing of it yet
abbrev pub after_evict : List ℕ → Machine → Done
after_evict label m = unmoved (evict_on m (find_label m label))
