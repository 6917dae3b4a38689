-- What the queued work of the sessions comes to, when nothing else comes between.
use Rattle.std.specs.Prelude.{zero, suc, ℕ, ◌+◌, ◌*◌, ◌≡◌, Bool, true, false, List, [], ◌∷◌, ◌++◌, length}
use Rattle.std.specs.List.{filter, sum_by}
use Rattle.eme_types.specs.declared.call.Event.{Event}
use Rattle.eme_types.specs.declared.call.Event.TheVariants.{Message, KeyStatuses, Encrypted, WaitingForKey}
use Rattle.eme_types.specs.declared.call.Effect.{Effect}
use Rattle.eme_types.specs.declared.call.Effect.TheVariants.{Statuses, Closed, Promise, Fired}
use Rattle.task_queue.specs.declared.work.Job.{Job}
use Rattle.task_queue.specs.declared.work.Task.{Task}
use Rattle.task_queue.specs.declared.work.Task.TheVariants.{Reject, RequestDone, UpdateDone, CloseDone, RemoveDone, Evicted, Report, Fire, Resume}
use Rattle.key_sessions.specs.Machine.{Machine}
use Rattle.key_sessions.specs.Steps.{Done}
use Rattle.key_sessions.specs.Jobs.{after_job}
use Rattle.key_sessions.specs.Tasks.{after_task}

-- no job and no task is queued
pub record IsIdle (m : Machine) : Type 0 where
  pub jobs : m.jobs ≡ []
  pub tasks : m.tasks ≡ []

-- what follows is done behind what was done
abbrev pub and_then : Done → (Machine → Done) → Done
and_then d next = record { machine = (next d.machine).machine; effects = d.effects ++ (next d.machine).effects }

-- the front job, or where there is none the front task
abbrev pub front_step : List Job → Machine → Done
front_step [] m = after_task m
front_step (job ∷ more) m = after_job m

-- the next step of the queued work: parallel steps come before tasks
abbrev pub next_step : Machine → Done
next_step m = front_step m.jobs m

-- the most steps that a task leads to: itself, and what it queues
abbrev pub task_weight : Task → ℕ
task_weight (Reject promise error) = 1
task_weight (RequestDone session kids promise) = 2
task_weight (UpdateDone session changed promise) = 3
task_weight (CloseDone session promise) = 3
task_weight (RemoveDone session promise) = 3
task_weight (Evicted session) = 3
task_weight (Report session) = 3
task_weight (Fire event) = 1
task_weight Resume = 1

-- the most steps that the queued work leads to: a job queues one task
abbrev pub weight : Machine → ℕ
weight m = 4 * length m.jobs + sum_by task_weight m.tasks

-- so many steps of the queued work
unfoldable pub serve : ℕ → Done → Done
serve zero d = d
serve (suc n) d = serve n (and_then d next_step)

-- the queued work is done, and what it queues, until nothing is left
abbrev pub served : Done → Done
served d = serve (weight d.machine) d

-- the event is another one than `waitingforkey`
abbrev pub is_told : Event → Bool
is_told (Message session id text) = true
is_told (KeyStatuses session) = true
is_told (Encrypted init) = true
is_told (WaitingForKey track) = false

-- the effect is another one than a `waitingforkey` event
abbrev pub is_heard : Effect → Bool
is_heard (Statuses session list) = true
is_heard (Closed session reason) = true
is_heard (Promise promise how) = true
is_heard (Fired event) = is_told event

-- the task is another one than to fire `waitingforkey`
abbrev pub is_kept : Task → Bool
is_kept (Reject promise error) = true
is_kept (RequestDone session kids promise) = true
is_kept (UpdateDone session changed promise) = true
is_kept (CloseDone session promise) = true
is_kept (RemoveDone session promise) = true
is_kept (Evicted session) = true
is_kept (Report session) = true
is_kept (Fire event) = is_told event
is_kept Resume = true

-- the sessions without the `waitingforkey` events that were fired or are to be
abbrev pub quiet : Machine → Machine
quiet m = record m { tasks = filter is_kept m.tasks; fired = filter is_told m.fired }
