-- What steps are made of: each move leaves a state and adds what it does that the application can see.
use Rattle.std.specs.Prelude.{ℕ, true, List, [], ◌∷◌, ◌++◌, Option, Some, None}
use Rattle.eme_types.specs.declared.call.Settled.{Settled}
use Rattle.eme_types.specs.declared.call.Event.{Event}
use Rattle.eme_types.specs.declared.call.Event.TheVariants.{KeyStatuses}
use Rattle.eme_types.specs.declared.call.Reason.{Reason}
use Rattle.eme_types.specs.declared.call.Effect.{Effect}
use Rattle.eme_types.specs.declared.call.Effect.TheVariants.{Statuses, Closed, Promise, Fired}
use Rattle.task_queue.specs.Pending.{settle_in}
use Rattle.task_queue.specs.declared.work.Task.{Task}
use Rattle.task_queue.specs.declared.work.Task.TheVariants.{Fire, Resume}
use Rattle.key_statuses.specs.Statuses.{statuses}
use Rattle.key_sessions.specs.Machine.{SessionState, Machine, session_at, status_at, change_session}

-- what a step leaves and does: the state, and its effects in order
pub record Done : Type 0 where
  pub machine : Machine
  pub effects : List Effect

-- the state without an effect
abbrev pub unmoved : Machine → Done
unmoved m = record { machine = m; effects = [] }

-- the task is queued as the last
abbrev pub queue_task : Task → Machine → Machine
queue_task task m = record m { tasks = m.tasks ++ task ∷ [] }

-- the session with the number is changed
abbrev pub with_session : ℕ → (SessionState → SessionState) → Machine → Machine
with_session n f m = record m { sessions = change_session m.sessions n f }

-- the promise is settled, and the application is told
abbrev pub settle : ℕ → Settled → Done → Done
settle p how d = record { machine = record (d.machine) { promises = settle_in d.machine.promises p how }; effects = d.effects ++ Promise p how ∷ [] }

-- the event is fired
abbrev pub fire : Event → Done → Done
fire event d = record { machine = record (d.machine) { fired = d.machine.fired ++ event ∷ [] }; effects = d.effects ++ Fired event ∷ [] }

-- a session's statuses now
abbrev pub statuses_now : ℕ → SessionState → SessionState
statuses_now moment s = record s { reported = statuses s.keys (status_at moment s) }

-- the statuses of the session's table now, if it is there
abbrev pub report_of : ℕ → ℕ → Option SessionState → List Effect
report_of n moment None = []
report_of n moment (Some s) = Statuses n (statuses s.keys (status_at moment s)) ∷ []

-- the reported statuses of a session become those of its table now
abbrev pub report : ℕ → Done → Done
report n d = record { machine = with_session n (statuses_now d.machine.moment) d.machine; effects = d.effects ++ report_of n d.machine.moment (session_at d.machine.sessions n) }

-- the step queues the task besides
abbrev pub and_queue : Task → Done → Done
and_queue task d = record d { machine = queue_task task d.machine }

-- Encrypted Media Extensions, 'Update Key Statuses'
abbrev pub update_statuses : ℕ → Done → Done
update_statuses n d = and_queue Resume (and_queue (Fire (KeyStatuses n)) (report n d))

-- the session is closed for the reason
abbrev pub closed_for : Reason → SessionState → SessionState
closed_for reason s = record s { closed = true; reason = Some reason }

-- Encrypted Media Extensions, 'Session Closed': the session's `closed` promise is settled here, with the reason
abbrev pub close_session : ℕ → Reason → Done → Done
close_session n reason d = record { machine = with_session n (closed_for reason) d.machine; effects = d.effects ++ Closed n reason ∷ [] }
