-- No step of the sessions but a tick sets the moment.
use Rattle.std.proofs.Common.{◌≡◌, ℕ, Bool, true, false, if◌then◌else◌, List, [], ◌∷◌, Option, Some, None, Result, Ok, Err, refl, ap, ◌∙◌}
use Rattle.std.specs.Str.{bytes_eq}
use Rattle.std.specs.Prelude.{nat_lt, length, codes}
use Rattle.eme_types.specs.declared.media.InitKind.{InitKind}
use Rattle.eme_types.specs.declared.media.Fragment.{Fragment}
use Rattle.eme_types.specs.declared.call.DomError.{DomError}
use Rattle.eme_types.specs.declared.call.AppCall.{AppCall}
use Rattle.eme_types.specs.declared.call.AppCall.TheVariants.{Access, Create, Request, Update, Close, Remove, Certificate}
use Rattle.clearkey_json.specs.declared.key_set.KeySet.{KeySet}
use Rattle.clearkey_json.specs.declared.key_set.KeySetFault.{KeySetFault}
use Rattle.clearkey_json.specs.KeySet.{key_set}
use Rattle.init_data.specs.declared.fault.InitFault.{InitFault}
use Rattle.init_data.specs.InitData.{kids_of}
use Rattle.task_queue.specs.declared.work.Job.{Job as QueuedJob}
use Rattle.task_queue.specs.declared.work.Job.TheVariants.{Request as RequestJob, Update as UpdateJob, Close as CloseJob, Remove as RemoveJob}
use Rattle.task_queue.specs.declared.work.Task.{Task as Queued}
use Rattle.task_queue.specs.declared.work.Task.TheVariants.{Reject, RequestDone, UpdateDone, CloseDone, RemoveDone, Evicted, Report, Fire, Resume}
use Rattle.key_sessions.specs.Machine.{Machine, SessionState, session_at}
use Rattle.key_sessions.specs.Steps.{Done, with_session}
use Rattle.key_sessions.specs.Calls.{after_call, create_call, find_label, request_on, request_started, request_kind, start_request, update_on, update_or, or_empty, close_on, remove_on, remove_or, state_fault, is_ending}
use Rattle.key_sessions.specs.Jobs.{take_job, run_job, work_job, job_session, is_evicted, request_job, update_job}
use Rattle.key_sessions.specs.Evict.{evict_on}
use Rattle.key_sessions.specs.Tasks.{take_task, run_task, is_closed}
use Rattle.script_lang.specs.declared.script.Action.{Action}
use Rattle.script_lang.specs.declared.script.Action.TheVariants.{Ask, Feed, Clock, Evict, Settle}
use Rattle.script_lang.specs.Script.{moment_after}
use Rattle.serial_play.specs.Served.{front_step, next_step, served}
use Rattle.serial_play.specs.Serial.{begun}
use Rattle.serial_play.proofs.ServedAll.{served_keeps}
use Rattle.cdm_state.proofs.Moment.{moment_in, call_keeps, job_keeps, evict_keeps, task_keeps}

front_keeps : (jobs : List QueuedJob) (m : Machine) → moment_in (front_step jobs m) ≡ m.moment
front_keeps [] m = task_keeps m.tasks m
front_keeps (job ∷ jobs) m = job_keeps m.jobs m

-- what is queued sets no moment
pub served_moment : (d : Done) → moment_in (served d) ≡ moment_in d
served_moment d = served_keeps (λ (m : Machine). m.moment ≡ moment_in d) (λ m is. front_keeps m.jobs m ∙ is) d refl

-- what a line does, but for its job and its tasks, sets the moment where it is a clock
pub begun_moment : (action : Action) (given : Option Fragment) (m : Machine) → moment_in (begun action given m) ≡ moment_after m.moment action
begun_moment (Ask call) given m = call_keeps call m
begun_moment Feed None m = refl
begun_moment Feed (Some f) m = refl
begun_moment (Clock moment) given m = refl
begun_moment (Evict label) given m = evict_keeps m (find_label m label)
begun_moment Settle given m = refl
