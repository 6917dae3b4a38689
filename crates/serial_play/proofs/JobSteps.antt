-- What a job leaves: one task more, and a close finds its session without keys.
use Rattle.std.proofs.Common.{◌≡◌, ℕ, ◌+◌, ◌≤◌, Bool, true, false, List, [], ◌∷◌, length, Option, Some, None, Result, Ok, Err, refl, arith}
use Rattle.std.specs.Prelude.{if◌then◌else◌, nat_lt}
use Rattle.std.specs.List.{sum_by}
use Rattle.std.proofs.lemmas.List.Sums.{sum_by_push}
use Rattle.eme_types.specs.declared.limits.TheConstants.{MAX_SESSION_KIDS}
use Rattle.eme_types.specs.declared.call.DomError.TheVariants.{InvalidState, TypeFault, Quota}
use Rattle.clearkey_json.specs.declared.key_set.KeySet.{KeySet}
use Rattle.clearkey_json.specs.declared.key_set.KeySetFault.{KeySetFault}
use Rattle.clearkey_json.specs.KeySet.{key_set}
use Rattle.init_data.specs.declared.fault.InitFault.{InitFault}
use Rattle.init_data.specs.InitData.{kids_of}
use Rattle.task_queue.specs.declared.work.Job.{Job}
use Rattle.task_queue.specs.declared.work.Job.TheVariants.{Request as RequestJob, Update as UpdateJob, Close as CloseJob, Remove as RemoveJob}
use Rattle.task_queue.specs.declared.work.Task.{Task}
use Rattle.task_queue.specs.declared.work.Task.TheVariants.{Reject, RequestDone, UpdateDone, CloseDone, RemoveDone, Evicted}
use Rattle.key_statuses.specs.Table.{grant_all}
use Rattle.key_sessions.specs.Machine.{SessionState, Machine, session_at, change_session}
use Rattle.key_sessions.specs.Steps.{queue_task, with_session}
use Rattle.key_sessions.specs.Calls.{find_label, is_ending}
use Rattle.key_sessions.specs.Jobs.{request_job, request_error, grant_set, with_set, is_changed_by, found, update_job, work_job, job_session, job_promise, is_evicted, run_job, cleared, without_keys}
use Rattle.key_sessions.specs.Evict.{evict_session, evict_numbered, evict_on, after_evict}
use Rattle.serial_play.specs.Served.{task_weight}
use Rattle.serial_play.proofs.Keyless.{Keyless, ClosersKeyless, keyless_now, keyless_both, keyless_none}

-- the jobs stay, tasks of at most three steps are added, and where none was queued before, closers find their sessions without keys
pub record JobLeaves (m d : Machine) : Type 0 where
  pub jobs : d.jobs ≡ m.jobs
  pub light : sum_by task_weight d.tasks ≤ sum_by task_weight m.tasks + 3
  pub closers : m.tasks ≡ [] → ClosersKeyless d

one_task : (m : Machine) (ss : List SessionState) (task : Task) → task_weight task ≤ 3 → Keyless ss task → JobLeaves m (queue_task task (record m { sessions = ss }))
one_task m ss task light keyless = record {
  jobs = refl;
  light = omega (arith, light, sum_by_push task_weight m.tasks task);
  closers = λ none. keyless_both ss m.tasks (task ∷ []) (keyless_none (record m { sessions = ss }) none) (keyless, tt);
}

leaves_request : (m : Machine) (n p : ℕ) (r : Result (List (List ℕ)) InitFault) → JobLeaves m (request_job n p r m)
leaves_request m n p (Ok kids) = one_task m m.sessions (RequestDone n kids p) (omega arith) tt
leaves_request m n p (Err fault) = one_task m m.sessions (Reject p (request_error fault)) (omega arith) tt

leaves_grant : (m : Machine) (n p : ℕ) (set : KeySet) (s : SessionState) → JobLeaves m (grant_set n p set s m)
leaves_grant m n p set s = go (nat_lt MAX_SESSION_KIDS (length (grant_all s.keys set.keys))) where
  go : (b : Bool) → JobLeaves m (if b then queue_task (Reject p Quota) m else queue_task (UpdateDone n (is_changed_by m.moment s (with_set set s)) p) (with_session n (with_set set) m))
  go true = one_task m m.sessions (Reject p Quota) (omega arith) tt
  go false = one_task m (change_session m.sessions n (with_set set)) (UpdateDone n (is_changed_by m.moment s (with_set set s)) p) (omega arith) tt

leaves_update : (m : Machine) (n p : ℕ) (r : Result KeySet KeySetFault) → JobLeaves m (update_job n p r m)
leaves_update m n p (Ok set) = leaves_grant m n p set (found (session_at m.sessions n))
leaves_update m n p (Err fault) = one_task m m.sessions (Reject p TypeFault) (omega arith) tt

leaves_work : (m : Machine) (job : Job) → JobLeaves m (work_job job m)
leaves_work m (RequestJob n kind init p) = leaves_request m n p (kids_of kind init)
leaves_work m (UpdateJob n response p) = leaves_update m n p (key_set response)
leaves_work m (CloseJob n p) = one_task m (change_session m.sessions n cleared) (CloseDone n p) (omega arith) (keyless_now m.sessions n cleared (λ s. refl))
leaves_work m (RemoveJob n p) = one_task m (change_session m.sessions n without_keys) (RemoveDone n p) (omega arith) tt

leaves_either : (m : Machine) (job : Job) (b : Bool) → JobLeaves m (if b then queue_task (Reject (job_promise job) InvalidState) m else work_job job m)
leaves_either m job true = one_task m m.sessions (Reject (job_promise job) InvalidState) (omega arith) tt
leaves_either m job false = leaves_work m job

pub job_leaves : (m : Machine) (job : Job) → JobLeaves m (run_job job m)
job_leaves m job = leaves_either m job (is_evicted (session_at m.sessions (job_session job)))

-- an eviction
leaves_evicted : (m : Machine) (o : Option (ℕ × SessionState)) → m.tasks ≡ [] → ClosersKeyless (evict_on m o)
leaves_evicted m None none = keyless_none m none
leaves_evicted m (Some (n, s)) none = go (is_ending s) where
  go : (b : Bool) → ClosersKeyless (if b then m else evict_numbered n m)
  go true = keyless_none m none
  go false = (one_task m (change_session m.sessions n evict_session) (Evicted n) (omega arith) (keyless_now m.sessions n evict_session (λ s. refl))).closers none

pub keyless_evict : (m : Machine) (label : List ℕ) → m.tasks ≡ [] → ClosersKeyless (after_evict label m).machine
keyless_evict m label none = leaves_evicted m (find_label m label) none
