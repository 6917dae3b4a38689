-- What the front job does: the parallel part of a session algorithm (Encrypted Media Extensions section 6).
use Rattle.std.specs.Prelude.{ℕ, if◌then◌else◌, nat_lt, Bool, false, List, [], ◌∷◌, map, length, Option, Some, None, Result, Ok, Err}
use Rattle.eme_types.specs.declared.limits.TheConstants.{MAX_SESSION_KIDS}
use Rattle.eme_types.specs.declared.call.DomError.{DomError}
use Rattle.eme_types.specs.declared.call.DomError.TheVariants.{InvalidState, TypeFault, NotSupported, Quota}
use Rattle.clearkey_json.specs.declared.key_set.KeySet.{KeySet}
use Rattle.clearkey_json.specs.declared.key_set.KeySetFault.{KeySetFault}
use Rattle.clearkey_json.specs.KeySet.{key_set}
use Rattle.init_data.specs.declared.fault.InitFault.{InitFault}
use Rattle.init_data.specs.declared.fault.InitFault.TheVariants.{Invalid, NoKids, OutOfMemory}
use Rattle.init_data.specs.InitData.{kids_of}
use Rattle.task_queue.specs.declared.work.Job.{Job}
use Rattle.task_queue.specs.declared.work.Job.TheVariants.{Request, Update, Close, Remove}
use Rattle.task_queue.specs.declared.work.Task.TheVariants.{Reject, RequestDone, UpdateDone, CloseDone, RemoveDone}
use Rattle.key_statuses.specs.Table.{grant_all, released}
use Rattle.key_statuses.specs.Statuses.{is_changed}
use Rattle.key_sessions.specs.Machine.{SessionState, Machine, session_at, status_at, new_session}
use Rattle.key_sessions.specs.Steps.{Done, unmoved, queue_task, with_session}

-- initialization data outside its format; data that names no key id. What the data says never is that memory is wanted
abbrev pub request_error : InitFault → DomError
request_error Invalid = TypeFault
request_error NoKids = NotSupported
request_error OutOfMemory = TypeFault

-- generateRequest: the request that the data names is queued, or its refusal
abbrev pub request_job : ℕ → ℕ → Result (List (List ℕ)) InitFault → Machine → Machine
request_job n p (Ok kids) m = queue_task (RequestDone n kids p) m
request_job n p (Err fault) m = queue_task (Reject p (request_error fault)) m

-- the keys of the set are granted in order, and its start and its expiration, or none, replace the session's
abbrev pub with_set : KeySet → SessionState → SessionState
with_set set s = record s { keys = grant_all s.keys set.keys; start = set.from; expiration = set.expires }

-- a table or its statuses differ, at a moment
abbrev pub is_changed_by : ℕ → SessionState → SessionState → Bool
is_changed_by moment old new = is_changed old.keys (status_at moment old) new.keys (status_at moment new)

-- the session of a job is there
abbrev pub found : Option SessionState → SessionState
found None = new_session []
found (Some s) = s

-- a session may know 256 key ids
abbrev pub grant_set : ℕ → ℕ → KeySet → SessionState → Machine → Machine
grant_set n p set s m =
    if nat_lt MAX_SESSION_KIDS (length (grant_all s.keys set.keys)) then queue_task (Reject p Quota) m
    else queue_task (UpdateDone n (is_changed_by m.moment s (with_set set s)) p) (with_session n (with_set set) m)

-- update: the keys of the set are granted, or the text is refused
abbrev pub update_job : ℕ → ℕ → Result KeySet KeySetFault → Machine → Machine
update_job n p (Ok set) m = grant_set n p set (found (session_at m.sessions n)) m
update_job n p (Err fault) m = queue_task (Reject p TypeFault) m

-- the session has no key, no start and no expiration
abbrev pub cleared : SessionState → SessionState
cleared s = record s { keys = []; start = None; expiration = None }

-- the session's ids stay known and released, and it has no start and no expiration
abbrev pub without_keys : SessionState → SessionState
without_keys s = record s { keys = map released s.keys; start = None; expiration = None }

-- what a job of a session that was not evicted does
abbrev pub work_job : Job → Machine → Machine
work_job (Request n kind init p) m = request_job n p (kids_of kind init) m
work_job (Update n response p) m = update_job n p (key_set response) m
work_job (Close n p) m = queue_task (CloseDone n p) (with_session n cleared m)
work_job (Remove n p) m = queue_task (RemoveDone n p) (with_session n without_keys m)

-- the session that a job was queued for
abbrev pub job_session : Job → ℕ
job_session (Request n kind init p) = n
job_session (Update n response p) = n
job_session (Close n p) = n
job_session (Remove n p) = n

-- the promise that a job answers
abbrev pub job_promise : Job → ℕ
job_promise (Request n kind init p) = p
job_promise (Update n response p) = p
job_promise (Close n p) = p
job_promise (Remove n p) = p

-- the session is there and was evicted
abbrev pub is_evicted : Option SessionState → Bool
is_evicted None = false
is_evicted (Some s) = s.evicted

-- what a job does: that of an evicted session queues the rejection of its promise, whatever its kind
abbrev pub run_job : Job → Machine → Machine
run_job job m = if is_evicted (session_at m.sessions (job_session job)) then queue_task (Reject (job_promise job) InvalidState) m else work_job job m

-- the front job is taken
abbrev pub take_job : List Job → Machine → Machine
take_job [] m = m
take_job (job ∷ jobs) m = run_job job (record m { jobs = jobs })

-- the application sees nothing of it yet
abbrev pub after_job : Machine → Done
after_job m = unmoved (take_job m.jobs m)
