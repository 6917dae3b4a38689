-- The moment is that of the last tick.
use Rattle.std.proofs.Common.{◌≡◌, ℕ, Bool, true, false, if◌then◌else◌, List, [], ◌∷◌, Option, Some, None, Result, Ok, Err, refl, ap, ◌∙◌}
use Rattle.std.specs.List.{fold}
use Rattle.std.specs.Str.{bytes_eq}
use Rattle.std.specs.Prelude.{nat_lt, length, codes}
use Rattle.eme_types.specs.declared.media.InitKind.{InitKind}
use Rattle.eme_types.specs.declared.call.DomError.{DomError}
use Rattle.eme_types.specs.declared.call.AppCall.{AppCall}
use Rattle.eme_types.specs.declared.call.AppCall.TheVariants.{Access, Create, Request, Update, Close, Remove, Certificate}
use Rattle.eme_types.specs.declared.entry.Entry.{Entry}
use Rattle.eme_types.specs.declared.entry.Entry.TheVariants.{Call, Job, Task, Tick, Feed, Evict, Claim, Deliver, GiveUp, Publish, PassClear, WaitForKey, Settle}
use Rattle.clearkey_json.specs.declared.key_set.KeySet.{KeySet}
use Rattle.clearkey_json.specs.declared.key_set.KeySetFault.{KeySetFault}
use Rattle.clearkey_json.specs.KeySet.{key_set}
use Rattle.init_data.specs.declared.fault.InitFault.{InitFault}
use Rattle.init_data.specs.InitData.{kids_of}
use Rattle.task_queue.specs.declared.work.Job.{Job as QueuedJob}
use Rattle.task_queue.specs.declared.work.Job.TheVariants.{Request as RequestJob, Update as UpdateJob, Close as CloseJob, Remove as RemoveJob}
use Rattle.task_queue.specs.declared.work.Task.{Task as Queued}
use Rattle.task_queue.specs.declared.work.Task.TheVariants.{Reject, RequestDone, UpdateDone, CloseDone, RemoveDone, Evicted, Report, Fire, Resume}
use Rattle.key_sessions.specs.Machine.{Machine, SessionState, session_at}
use Rattle.key_sessions.specs.Steps.{Done, with_session}
use Rattle.key_sessions.specs.Calls.{after_call, create_call, find_label, request_on, request_started, request_kind, start_request, update_on, update_or, or_empty, close_on, remove_on, remove_or, state_fault, is_ending}
use Rattle.key_sessions.specs.Jobs.{take_job, run_job, work_job, job_session, is_evicted, request_job, update_job}
use Rattle.key_sessions.specs.Evict.{evict_on}
use Rattle.key_sessions.specs.Tasks.{take_task, run_task, is_closed}
use Rattle.key_sessions.specs.World.{World, empty_world}
use Rattle.cdm_state.specs.After.{after_entry}
use Rattle.cdm_state.specs.Moment.{tick_to}
use Rattle.cdm_state.specs.Law.{MomentIsOfLastTick}
use Rattle.cdm_state.specs.History.{world}

abbrev pub moment_in : Done → ℕ
moment_in d = d.machine.moment

either : (b : Bool) (x y : Done) (n : ℕ) → moment_in x ≡ n → moment_in y ≡ n → moment_in (if b then x else y) ≡ n
either true x y n a b = a
either false x y n a b = b

either_machine : (b : Bool) (x y : Machine) (n : ℕ) → x.moment ≡ n → y.moment ≡ n → (if b then x else y).moment ≡ n
either_machine true x y n a b = a
either_machine false x y n a b = b

create_keeps : (label kind : List ℕ) (m : Machine) → moment_in (create_call label kind m) ≡ m.moment
create_keeps label kind m = either (bytes_eq kind (codes "temporary")) _ _ m.moment (either (nat_lt (length m.sessions) 64) _ _ m.moment refl refl) refl

started_keeps : (n : ℕ) (init : List ℕ) (kind : Result InitKind DomError) (m : Machine) → moment_in (request_started n init kind m) ≡ m.moment
started_keeps n init (Ok kind) m = refl
started_keeps n init (Err error) m = refl

request_keeps : (kind init : List ℕ) (m : Machine) (o : Option (ℕ × SessionState)) → moment_in (request_on kind init m o) ≡ m.moment
request_keeps kind init m None = refl
request_keeps kind init m (Some (n, s)) = either (is_ending s) _ _ m.moment refl (either s.uninitialized _ _ m.moment (started_keeps n init (request_kind kind init) (with_session n start_request m)) refl)

update_or_keeps : (n : ℕ) (response : List ℕ) (fault : Option DomError) (m : Machine) → moment_in (update_or n response fault m) ≡ m.moment
update_or_keeps n response None m = refl
update_or_keeps n response (Some error) m = refl

update_keeps : (response : List ℕ) (m : Machine) (o : Option (ℕ × SessionState)) → moment_in (update_on response m o) ≡ m.moment
update_keeps response m None = refl
update_keeps response m (Some (n, s)) = update_or_keeps n response (or_empty (state_fault s) response) m

close_keeps : (m : Machine) (o : Option (ℕ × SessionState)) → moment_in (close_on m o) ≡ m.moment
close_keeps m None = refl
close_keeps m (Some (n, s)) = either (is_ending s) _ _ m.moment refl (either s.callable _ _ m.moment refl refl)

remove_or_keeps : (n : ℕ) (fault : Option DomError) (m : Machine) → moment_in (remove_or n fault m) ≡ m.moment
remove_or_keeps n None m = refl
remove_or_keeps n (Some error) m = refl

remove_keeps : (m : Machine) (o : Option (ℕ × SessionState)) → moment_in (remove_on m o) ≡ m.moment
remove_keeps m None = refl
remove_keeps m (Some (n, s)) = remove_or_keeps n (state_fault s) m

pub call_keeps : (call : AppCall) (m : Machine) → moment_in (after_call call m) ≡ m.moment
call_keeps (Access name list) m = refl
call_keeps (Create label kind) m = create_keeps label kind m
call_keeps (Request label kind init) m = request_keeps kind init m (find_label m label)
call_keeps (Update label response) m = update_keeps response m (find_label m label)
call_keeps (Close label) m = close_keeps m (find_label m label)
call_keeps (Remove label) m = remove_keeps m (find_label m label)
call_keeps (Certificate cert) m = refl

request_job_keeps : (n p : ℕ) (r : Result (List (List ℕ)) InitFault) (m : Machine) → (request_job n p r m).moment ≡ m.moment
request_job_keeps n p (Ok kids) m = refl
request_job_keeps n p (Err fault) m = refl

update_job_keeps : (n p : ℕ) (r : Result KeySet KeySetFault) (m : Machine) → (update_job n p r m).moment ≡ m.moment
update_job_keeps n p (Ok set) m = either_machine _ _ _ m.moment refl refl
update_job_keeps n p (Err fault) m = refl

work_keeps : (job : QueuedJob) (m : Machine) → (work_job job m).moment ≡ m.moment
work_keeps (RequestJob n kind init p) m = request_job_keeps n p (kids_of kind init) m
work_keeps (UpdateJob n response p) m = update_job_keeps n p (key_set response) m
work_keeps (CloseJob n p) m = refl
work_keeps (RemoveJob n p) m = refl

run_job_keeps : (job : QueuedJob) (m : Machine) → (run_job job m).moment ≡ m.moment
run_job_keeps job m = either_machine (is_evicted (session_at m.sessions (job_session job))) _ _ m.moment refl (work_keeps job m)

pub job_keeps : (jobs : List QueuedJob) (m : Machine) → (take_job jobs m).moment ≡ m.moment
job_keeps [] m = refl
job_keeps (job ∷ jobs) m = run_job_keeps job _

update_done_keeps : (n p : ℕ) (changed : Bool) (m : Machine) → moment_in (run_task (UpdateDone n changed p) m) ≡ m.moment
update_done_keeps n p true m = refl
update_done_keeps n p false m = refl

run_task_keeps : (task : Queued) (m : Machine) → moment_in (run_task task m) ≡ m.moment
run_task_keeps (Reject p error) m = refl
run_task_keeps (RequestDone n kids p) m = refl
run_task_keeps (UpdateDone n changed p) m = update_done_keeps n p changed m
run_task_keeps (CloseDone n p) m = refl
run_task_keeps (RemoveDone n p) m = refl
run_task_keeps (Evicted n) m = refl
run_task_keeps (Report n) m = either (is_closed (session_at m.sessions n)) _ _ m.moment refl refl
run_task_keeps (Fire event) m = refl
run_task_keeps Resume m = refl

pub evict_keeps : (m : Machine) (o : Option (ℕ × SessionState)) → (evict_on m o).moment ≡ m.moment
evict_keeps m None = refl
evict_keeps m (Some (n, s)) = either_machine (is_ending s) _ _ m.moment refl refl

pub task_keeps : (tasks : List Queued) (m : Machine) → moment_in (take_task tasks m) ≡ m.moment
task_keeps [] m = refl
task_keeps (task ∷ tasks) m = run_task_keeps task _

entry_ticks : (w : World) (e : Entry) → (after_entry w e).machine.moment ≡ tick_to w.machine.moment e
entry_ticks w (Call lane line call) = call_keeps call w.machine
entry_ticks w Job = job_keeps w.machine.jobs w.machine
entry_ticks w Task = task_keeps w.machine.tasks w.machine
entry_ticks w (Tick line moment) = refl
entry_ticks w (Feed line None) = refl
entry_ticks w (Feed line (Some f)) = refl
entry_ticks w (Evict line label) = evict_keeps w.machine (find_label w.machine label)
entry_ticks w (Claim worker track index session kid) = refl
entry_ticks w (Deliver place verdict) = refl
entry_ticks w (GiveUp place) = refl
entry_ticks w (Publish track index place) = refl
entry_ticks w (PassClear track index) = refl
entry_ticks w (WaitForKey track) = refl
entry_ticks w (Settle line) = refl

moment_from : (w : World) (h : List Entry) → (fold after_entry w h).machine.moment ≡ fold tick_to w.machine.moment h
moment_from w [] = refl
moment_from w (e ∷ h) = moment_from (after_entry w e) h ∙ ap (λ n. fold tick_to n h) (entry_ticks w e)

-- the moment after a history is that of its last tick
pub moment_is : MomentIsOfLastTick
unfolding world
moment_is ids h = moment_from (empty_world ids) h
