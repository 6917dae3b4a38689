-- What the front task does, and what the time does (Encrypted Media Extensions sections 6.4 and 6.6).
use Rattle.std.specs.Prelude.{ℕ, ◌+◌, ◌&&◌, not, Bool, true, if◌then◌else◌, List, [], ◌∷◌, ◌++◌, Option, Some, None, is_some, count_by}
use Rattle.eme_types.specs.declared.call.Settled.TheVariants.{Resolved, Rejected}
use Rattle.eme_types.specs.declared.call.Event.TheVariants.{Message}
use Rattle.eme_types.specs.declared.call.Reason.TheVariants.{ClosedByApplication, ResourceEvicted}
use Rattle.clearkey_json.specs.Request.{request_text}
use Rattle.task_queue.specs.declared.work.Task.{Task}
use Rattle.task_queue.specs.declared.work.Task.TheVariants.{Reject, RequestDone, UpdateDone, CloseDone, RemoveDone, Evicted, Report, Fire, Resume}
use Rattle.key_statuses.specs.Statuses.{statuses, same_statuses}
use Rattle.key_sessions.specs.Machine.{SessionState, Machine, session_at, status_at}
use Rattle.key_sessions.specs.Steps.{Done, unmoved, queue_task, with_session, settle, fire, update_statuses, close_session}

-- one more than the sessions that have an id
abbrev pub next_id : Machine → ℕ
next_id m = count_by (λ s. is_some s.id) m.sessions + 1

-- the session gets its id and can be called
abbrev pub made_callable : ℕ → SessionState → SessionState
made_callable id s = record s { id = Some id; callable = true }

-- the session gets its id and can be called, and its request is to be fired
abbrev pub request_done : ℕ → List (List ℕ) → Machine → Machine
request_done n kids m = queue_task (Fire (Message n (next_id m) (request_text kids))) (with_session n (made_callable (next_id m)) m)

-- the session is closed, or there is none
abbrev pub is_closed : Option SessionState → Bool
is_closed None = true
is_closed (Some s) = s.closed

-- what a task does
abbrev pub run_task : Task → Machine → Done
run_task (Reject p error) m = settle p (Rejected error) (unmoved m)
run_task (RequestDone n kids p) m = settle p Resolved (unmoved (request_done n kids m))
run_task (UpdateDone n changed p) m = settle p Resolved (if changed then update_statuses n (unmoved m) else unmoved m)
run_task (CloseDone n p) m = settle p Resolved (close_session n ClosedByApplication (update_statuses n (unmoved m)))
run_task (RemoveDone n p) m = settle p Resolved (update_statuses n (unmoved m))
run_task (Evicted n) m = close_session n ResourceEvicted (update_statuses n (unmoved m))
run_task (Report n) m = if is_closed (session_at m.sessions n) then unmoved m else update_statuses n (unmoved m)
run_task (Fire event) m = fire event (unmoved m)
run_task Resume m = unmoved m

-- the front task is taken
abbrev pub take_task : List Task → Machine → Done
take_task [] m = unmoved m
take_task (task ∷ tasks) m = run_task task (record m { tasks = tasks })

-- what the front task does
abbrev pub after_task : Machine → Done
after_task m = take_task m.tasks m

-- the session is not closed, and its statuses differ between the two moments
abbrev pub is_reported : ℕ → ℕ → SessionState → Bool
is_reported old new s = not s.closed && not (same_statuses (statuses s.keys (status_at old s)) (statuses s.keys (status_at new s)))

-- the reports of these sessions, numbered from n, as the time goes from the old moment to the new
abbrev pub reports_from : ℕ → ℕ → ℕ → List SessionState → List Task
reports_from old new n [] = []
reports_from old new n (s ∷ more) = if is_reported old new s then Report n ∷ reports_from old new (n + 1) more else reports_from old new (n + 1) more

-- the moment is set, and a report is queued for each session whose statuses it changes
abbrev pub after_tick : ℕ → Machine → Done
after_tick moment m = unmoved (record m { moment = moment; tasks = m.tasks ++ reports_from m.moment moment 1 m.sessions })
