-- A job and a task weigh more than what they queue.
use Rattle.std.proofs.Common.{◌≡◌, ◌≢◌, ℕ, ◌+◌, ◌*◌, ◌≤◌, Bool, true, false, List, [], ◌∷◌, Result, Ok, Err, length, refl, ap, ◌∙◌, arith}
use Rattle.std.specs.Prelude.{if◌then◌else◌, nat_lt}
use Rattle.std.specs.List.{sum_by}
use Rattle.std.proofs.lemmas.List.Sums.{sum_by_push, sum_by-cons}
use Rattle.clearkey_json.specs.declared.key_set.KeySet.{KeySet}
use Rattle.clearkey_json.specs.declared.key_set.KeySetFault.{KeySetFault}
use Rattle.clearkey_json.specs.KeySet.{key_set}
use Rattle.init_data.specs.declared.fault.InitFault.{InitFault}
use Rattle.init_data.specs.InitData.{kids_of}
use Rattle.eme_types.specs.declared.call.DomError.TheVariants.{InvalidState, TypeFault, Quota}
use Rattle.eme_types.specs.declared.call.Event.TheVariants.{KeyStatuses, Message}
use Rattle.eme_types.specs.declared.limits.TheConstants.{MAX_SESSION_KIDS}
use Rattle.task_queue.specs.declared.work.Job.{Job}
use Rattle.task_queue.specs.declared.work.Job.TheVariants.{Request, Update, Close, Remove}
use Rattle.task_queue.specs.declared.work.Task.{Task}
use Rattle.task_queue.specs.declared.work.Task.TheVariants.{Reject, RequestDone, UpdateDone, CloseDone, RemoveDone, Evicted, Report, Fire, Resume}
use Rattle.key_statuses.specs.Table.{grant_all}
use Rattle.key_sessions.specs.Machine.{SessionState, Machine, session_at}
use Rattle.key_sessions.specs.Steps.{queue_task, with_session, unmoved, report, update_statuses}
use Rattle.key_sessions.specs.Jobs.{request_error, request_job, update_job, with_set, is_changed_by, found, cleared, without_keys, work_job, job_session, job_promise, is_evicted, run_job, take_job}
use Rattle.key_sessions.specs.Tasks.{next_id, is_closed, made_callable, run_task, take_task}
use Rattle.key_sessions.specs.World.{is_resume, resumes}
use Rattle.clearkey_json.specs.Request.{request_text}
use Rattle.player_core.specs.Left.{task_weight, job_weight, queue_weight}

pushed : (many : ℕ) (m : Machine) (task : Task) → queue_weight many (queue_task task m) ≡ queue_weight many m + task_weight many task
pushed many m task = let more = sum_by_push (task_weight many) m.tasks task in omega (arith, more)

request_falls : (many n p : ℕ) (r : Result (List (List ℕ)) InitFault) (m : Machine) → queue_weight many (request_job n p r m) + 1 ≤ 3 + queue_weight many m
request_falls many n p (Ok kids) m = let is = pushed many m (RequestDone n kids p) in omega (arith, is)
request_falls many n p (Err fault) m = let is = pushed many m (Reject p (request_error fault)) in omega (arith, is)

grant_case : (b changed : Bool) (many n p : ℕ) (f : SessionState → SessionState) (m : Machine) → queue_weight many (if b then queue_task (Reject p Quota) m else queue_task (UpdateDone n changed p) (with_session n f m)) + 1 ≤ 2 * many + 4 + queue_weight many m
grant_case true changed many n p f m = let is = pushed many m (Reject p Quota) in omega (arith, is)
grant_case false changed many n p f m = let is = pushed many (with_session n f m) (UpdateDone n changed p) in omega (arith, is)

update_falls : (many n p : ℕ) (r : Result KeySet KeySetFault) (m : Machine) → queue_weight many (update_job n p r m) + 1 ≤ 2 * many + 4 + queue_weight many m
update_falls many n p (Ok set) m =
    let s : SessionState = found (session_at m.sessions n) in
    grant_case (nat_lt MAX_SESSION_KIDS (length (grant_all s.keys set.keys))) (is_changed_by m.moment s (with_set set s)) many n p (with_set set) m
update_falls many n p (Err fault) m = let is = pushed many m (Reject p TypeFault) in omega (arith, is)

work_falls : (many : ℕ) (job : Job) (m : Machine) → queue_weight many (work_job job m) + 1 ≤ job_weight many job + queue_weight many m
work_falls many (Request n kind init p) m = request_falls many n p (kids_of kind init) m
work_falls many (Update n response p) m = update_falls many n p (key_set response) m
work_falls many (Close n p) m = let is = pushed many (with_session n cleared m) (CloseDone n p) in omega (arith, is)
work_falls many (Remove n p) m = let is = pushed many (with_session n without_keys m) (RemoveDone n p) in omega (arith, is)

-- a job weighs more than a rejection
least_job : (many : ℕ) (job : Job) → 2 ≤ job_weight many job
least_job many (Request n kind init p) = omega arith
least_job many (Update n response p) = omega arith
least_job many (Close n p) = omega arith
least_job many (Remove n p) = omega arith

-- the job of an evicted session is refused
guard_falls : (evicted : Bool) (many : ℕ) (job : Job) (m : Machine) → queue_weight many (if evicted then queue_task (Reject (job_promise job) InvalidState) m else work_job job m) + 1 ≤ job_weight many job + queue_weight many m
guard_falls true many job m = let is = pushed many m (Reject (job_promise job) InvalidState) in let least = least_job many job in omega (arith, is, least)
guard_falls false many job m = work_falls many job m

run_falls : (many : ℕ) (job : Job) (m : Machine) → queue_weight many (run_job job m) + 1 ≤ job_weight many job + queue_weight many m
run_falls many job m = guard_falls (is_evicted (session_at m.sessions (job_session job))) many job m

-- the front job is taken
pub job_falls : (many : ℕ) (jobs : List Job) (m : Machine) → m.jobs ≡ jobs → jobs ≢ [] → queue_weight many (take_job jobs m) + 1 ≤ queue_weight many m
job_falls many [] m is some = absurd (some refl)
job_falls many (job ∷ jobs) m is some =
    let rest : Machine = record m { jobs = jobs } in
    let falls = run_falls many job rest in
    let all : sum_by (job_weight many) m.jobs ≡ job_weight many job + sum_by (job_weight many) jobs = ap (sum_by (job_weight many)) is ∙ sum_by-cons (job_weight many) job jobs in
    omega (arith, falls, all)

-- what a look at waiting tracks may add
abbrev pub woken : ℕ → Bool → ℕ
woken many b = if b then 2 * many else 0

reported : (many n : ℕ) (m : Machine) → queue_weight many (update_statuses n (unmoved m)).machine ≡ queue_weight many m + (2 * many + 2)
reported many n m =
    let told : Machine = (report n (unmoved m)).machine in
    let one = pushed many told (Fire (KeyStatuses n)) in
    let two = pushed many (queue_task (Fire (KeyStatuses n)) told) Resume in
    omega (arith, one, two)

report_case : (b : Bool) (many n : ℕ) (m : Machine) → queue_weight many (if b then unmoved m else update_statuses n (unmoved m)).machine + 1 ≤ 2 * many + 3 + queue_weight many m
report_case true many n m = omega arith
report_case false many n m = let is = reported many n m in omega (arith, is)

done_falls : (many : ℕ) (task : Task) (m : Machine) → queue_weight many (run_task task m).machine + woken many (is_resume task) + 1 ≤ task_weight many task + queue_weight many m
done_falls many (Reject p error) m = omega arith
done_falls many (RequestDone n kids p) m = let is = pushed many (with_session n (made_callable (next_id m)) m) (Fire (Message n (next_id m) (request_text kids))) in omega (arith, is)
done_falls many (UpdateDone n changed p) m = update_done changed where
  update_done : (b : Bool) → queue_weight many (run_task (UpdateDone n b p) m).machine + 0 + 1 ≤ 2 * many + 3 + queue_weight many m
  update_done true = let is = reported many n m in omega (arith, is)
  update_done false = omega arith
done_falls many (CloseDone n p) m = let is = reported many n m in omega (arith, is)
done_falls many (RemoveDone n p) m = let is = reported many n m in omega (arith, is)
done_falls many (Evicted n) m = let is = reported many n m in omega (arith, is)
done_falls many (Report n) m = let falls = report_case (is_closed (session_at m.sessions n)) many n m in omega (arith, falls)
done_falls many (Fire event) m = omega arith
done_falls many Resume m = omega arith

-- the front task is taken
pub task_falls : (many : ℕ) (tasks : List Task) (m : Machine) → m.tasks ≡ tasks → tasks ≢ [] → queue_weight many (take_task tasks m).machine + woken many (resumes tasks) + 1 ≤ queue_weight many m
task_falls many [] m is some = absurd (some refl)
task_falls many (task ∷ tasks) m is some =
    let rest : Machine = record m { tasks = tasks } in
    let falls = done_falls many task rest in
    let all : sum_by (task_weight many) m.tasks ≡ task_weight many task + sum_by (task_weight many) tasks = ap (sum_by (task_weight many)) is ∙ sum_by-cons (task_weight many) task tasks in
    omega (arith, falls, all)

-- an event is queued
pub event_queued : (many : ℕ) (m : Machine) (task : Task) → task_weight many task ≡ 1 → queue_weight many (queue_task task m) ≡ queue_weight many m + 1
event_queued many m task one = let is = pushed many m task in omega (arith, is, one)
