-- What a planned step does: a session that is created, a change of one session, jobs or tasks that are queued, a promise that is settled, an event that is fired.
use Rattle.std.specs.Prelude.{ℕ, ◌≡◌, List, [], ◌∷◌, ◌++◌, Option, Some, None}
use Rattle.eme_types.specs.declared.call.Settled.{Settled}
use Rattle.eme_types.specs.declared.call.Settled.TheVariants.{Resolved, Rejected}
use Rattle.eme_types.specs.declared.call.Event.{Event}
use Rattle.eme_types.specs.declared.call.AppCall.{AppCall}
use Rattle.eme_types.specs.declared.call.Effect.{Effect}
use Rattle.eme_types.specs.declared.call.Effect.TheVariants.{Promise}
use Rattle.task_queue.specs.declared.work.Job.{Job}
use Rattle.task_queue.specs.declared.work.Task.{Task}
use Rattle.task_queue.specs.declared.work.Task.TheVariants.{Reject, RequestDone, UpdateDone, CloseDone, RemoveDone, Evicted, Report, Fire, Resume}
use Rattle.task_queue.specs.Pending.{IsPending, settle_in}
use Rattle.key_sessions.specs.declared.call_plan.Answer.{Answer}
use Rattle.key_sessions.specs.declared.call_plan.Answer.TheVariants.{Now, Later}
use Rattle.key_sessions.specs.declared.call_plan.CallPlan.{CallPlan}
use Rattle.key_sessions.specs.declared.session.Session.{Session}
use Rattle.key_sessions.specs.declared.job_plan.JobPlan.{JobPlan}
use Rattle.key_sessions.specs.declared.task_plan.TaskPlan.{TaskPlan}
use Rattle.key_sessions.specs.Machine.{SessionState, Machine}
use Rattle.key_sessions.specs.SessionOf.{session_of}
use Rattle.key_sessions.specs.Steps.{Done, unmoved}
use Rattle.key_sessions.specs.Calls.{next_promise, answer_now, after_call}
use Rattle.key_sessions.specs.Jobs.{run_job}
use Rattle.key_sessions.specs.Tasks.{run_task}
use Rattle.key_sessions.specs.Changes.{changed_in}

-- the sessions with the one that a call creates, if it does
abbrev pub created_in : List SessionState → Option Session → List SessionState
created_in ss None = ss
created_in ss (Some s) = ss ++ session_of s ∷ []

-- a new promise is settled at once, or waits for its job
abbrev pub answered : Answer → Machine → Done
answered (Now how) m = answer_now how m
answered (Later job) m = unmoved (record m { promises = m.promises ++ None ∷ []; jobs = m.jobs ++ job ∷ [] })

-- what a planned call does
abbrev pub call_done : CallPlan → Machine → Done
call_done plan m = answered plan.answer (record m { sessions = changed_in (created_in m.sessions plan.created) plan.session plan.change })

-- the plan is the call's, where these are the sessions and the next promise
abbrev pub IsCallPlan : AppCall → List SessionState → ℕ → CallPlan → Type 0
IsCallPlan call ss p plan = (m : Machine) → m.sessions ≡ ss → next_promise m ≡ p → call_done plan m ≡ after_call call m

-- what the application is told at once
abbrev pub told : ℕ → Answer → List Effect
told p (Now how) = Promise p how ∷ []
told p (Later job) = []

-- the promise that was made is settled, or its job is queued
abbrev pub promises_by : List (Option Settled) → ℕ → Answer → List (Option Settled)
promises_by ps p (Now how) = settle_in ps p how
promises_by ps p (Later job) = ps

-- the jobs with that of an answer that is given later
abbrev pub jobs_by : List Job → Answer → List Job
jobs_by jobs (Now how) = jobs
jobs_by jobs (Later job) = jobs ++ job ∷ []

-- what a planned job does
abbrev pub job_done : JobPlan → Machine → Machine
job_done plan m = record m { sessions = changed_in m.sessions plan.session plan.change; tasks = m.tasks ++ plan.task ∷ [] }

-- the plan is the job's, where these are the sessions and the moment
abbrev pub IsJobPlan : Job → List SessionState → ℕ → JobPlan → Type 0
IsJobPlan job ss moment plan = (m : Machine) → m.sessions ≡ ss → m.moment ≡ moment → job_done plan m ≡ run_job job m

-- the promise that a task settles
abbrev pub settled_of : Task → Option (ℕ × Settled)
settled_of (Reject p error) = Some (p, Rejected error)
settled_of (RequestDone n kids p) = Some (p, Resolved)
settled_of (UpdateDone n changed p) = Some (p, Resolved)
settled_of (CloseDone n p) = Some (p, Resolved)
settled_of (RemoveDone n p) = Some (p, Resolved)
settled_of (Evicted n) = None
settled_of (Report n) = None
settled_of (Fire event) = None
settled_of Resume = None

-- a promise that is settled is pending
abbrev pub MaySettle : List (Option Settled) → Option (ℕ × Settled) → Type 0
MaySettle promises None = Unit {0}
MaySettle promises (Some (p, how)) = IsPending promises p

-- the promises, with the one settled that a task settles
abbrev pub settled_by : List (Option Settled) → Option (ℕ × Settled) → List (Option Settled)
settled_by promises None = promises
settled_by promises (Some (p, how)) = settle_in promises p how

-- the fired events, with the one that a task fires
abbrev pub fired_by : List Event → Option Event → List Event
fired_by fired None = fired
fired_by fired (Some event) = fired ++ event ∷ []

-- the tasks are queued one after another
abbrev pub queued_by : List Task → List Task → List Task
queued_by tasks [] = tasks
queued_by tasks (task ∷ more) = queued_by (tasks ++ task ∷ []) more

-- what a planned task does
abbrev pub task_done : TaskPlan → Machine → Done
task_done plan m = record {
  machine = record m {
    sessions = changed_in m.sessions plan.session plan.change;
    tasks = queued_by m.tasks plan.queued.items;
    promises = settled_by m.promises plan.settled;
    fired = fired_by m.fired plan.fired;
  };
  effects = plan.effects;
}

-- the plan is the task's, where these are the sessions and the moment
abbrev pub IsTaskPlan : Task → List SessionState → ℕ → TaskPlan → Type 0
IsTaskPlan task ss moment plan = (m : Machine) → m.sessions ≡ ss → m.moment ≡ moment → task_done plan m ≡ run_task task m
