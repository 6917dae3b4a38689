-- What jobs, the time, evictions and feeds do does not depend on the `waitingforkey` events; and to queue such an event changes nothing else.
use Rattle.std.proofs.Common.{◌≡◌, ℕ, ◌+◌, Bool, true, false, List, [], ◌∷◌, ◌++◌, map, length, Option, Some, None, Result, Ok, Err, refl, ap, ◌∙◌}
use Rattle.std.specs.Prelude.{if◌then◌else◌, nat_lt}
use Rattle.std.specs.List.{filter}
use Rattle.std.proofs.lemmas.List.{append-nil}
use Rattle.std.proofs.lemmas.List.Elements.{filter-append}
use Rattle.eme_types.specs.declared.limits.TheConstants.{MAX_SESSION_KIDS}
use Rattle.eme_types.specs.declared.call.DomError.TheVariants.{InvalidState, TypeFault, Quota}
use Rattle.eme_types.specs.declared.call.Event.TheVariants.{WaitingForKey}
use Rattle.eme_types.specs.declared.media.Fragment.{Fragment}
use Rattle.eme_types.specs.declared.media.InitData.{InitData}
use Rattle.clearkey_json.specs.declared.key_set.KeySet.{KeySet}
use Rattle.clearkey_json.specs.declared.key_set.KeySetFault.{KeySetFault}
use Rattle.clearkey_json.specs.KeySet.{key_set}
use Rattle.init_data.specs.declared.fault.InitFault.{InitFault}
use Rattle.init_data.specs.InitData.{kids_of}
use Rattle.task_queue.specs.declared.work.Job.{Job}
use Rattle.task_queue.specs.declared.work.Job.TheVariants.{Request as RequestJob, Update as UpdateJob, Close as CloseJob, Remove as RemoveJob}
use Rattle.task_queue.specs.declared.work.Task.{Task}
use Rattle.task_queue.specs.declared.work.Task.TheVariants.{Reject, RequestDone, UpdateDone, CloseDone, RemoveDone, Evicted, Report, Fire}
use Rattle.key_statuses.specs.Table.{grant_all}
use Rattle.key_sessions.specs.Machine.{SessionState, Machine, session_at}
use Rattle.key_sessions.specs.Steps.{queue_task, with_session}
use Rattle.key_sessions.specs.Calls.{find_label, is_ending}
use Rattle.key_sessions.specs.Jobs.{request_job, request_error, grant_set, with_set, is_changed_by, found, update_job, work_job, job_session, job_promise, is_evicted, run_job, take_job, after_job, cleared, without_keys}
use Rattle.key_sessions.specs.Evict.{evict_session, evict_on, after_evict}
use Rattle.key_sessions.specs.Tasks.{is_reported, reports_from, after_tick}
use Rattle.cdm_state.specs.After.{fire_encrypted}
use Rattle.serial_play.specs.Served.{is_kept, quiet}
use Rattle.serial_play.specs.Serial.{told_of}
use Rattle.serial_play.proofs.QuietCalls.{Quieted}

-- the machine with these tasks
abbrev pub with_tasks : Machine → List Task → Machine
with_tasks m ts = record m { tasks = ts }

one_kept : (task : Task) → is_kept task ≡ true → filter is_kept (task ∷ []) ≡ task ∷ []
one_kept task kept = rw kept refl

kept_behind : (ts us : List Task) → filter is_kept us ≡ us → filter is_kept (ts ++ us) ≡ filter is_kept ts ++ us
kept_behind ts us kept = filter-append is_kept ts us ∙ ap (λ (vs : List Task). filter is_kept ts ++ vs) kept

-- ---- what is queued

pub quiet_queue : (m : Machine) (task : Task) → is_kept task ≡ true → quiet (queue_task task m) ≡ queue_task task (quiet m)
quiet_queue m task kept = ap (with_tasks (quiet m)) (kept_behind m.tasks (task ∷ []) (one_kept task kept))

pub quiet_wait : (m : Machine) (track : ℕ) → quiet (queue_task (Fire (WaitingForKey track)) m) ≡ quiet m
quiet_wait m track = ap (with_tasks (quiet m)) (filter-append is_kept m.tasks (Fire (WaitingForKey track) ∷ []) ∙ append-nil (filter is_kept m.tasks))

-- ---- jobs

quiet_request_job : (m : Machine) (n p : ℕ) (r : Result (List (List ℕ)) InitFault) → quiet (request_job n p r m) ≡ request_job n p r (quiet m)
quiet_request_job m n p (Ok kids) = quiet_queue m (RequestDone n kids p) refl
quiet_request_job m n p (Err fault) = quiet_queue m (Reject p (request_error fault)) refl

quiet_choice : (b : Bool) (x y u v : Machine) → quiet x ≡ u → quiet y ≡ v → quiet (if b then x else y) ≡ (if b then u else v)
quiet_choice true x y u v p q = p
quiet_choice false x y u v p q = q

quiet_grant : (m : Machine) (n p : ℕ) (set : KeySet) (s : SessionState) → quiet (grant_set n p set s m) ≡ grant_set n p set s (quiet m)
quiet_grant m n p set s = quiet_choice (nat_lt MAX_SESSION_KIDS (length (grant_all s.keys set.keys))) _ _ _ _ (quiet_queue m (Reject p Quota) refl) (quiet_queue (with_session n (with_set set) m) (UpdateDone n (is_changed_by m.moment s (with_set set s)) p) refl)

quiet_update_job : (m : Machine) (n p : ℕ) (r : Result KeySet KeySetFault) → quiet (update_job n p r m) ≡ update_job n p r (quiet m)
quiet_update_job m n p (Ok set) = quiet_grant m n p set (found (session_at m.sessions n))
quiet_update_job m n p (Err fault) = quiet_queue m (Reject p TypeFault) refl

quiet_work : (m : Machine) (job : Job) → quiet (work_job job m) ≡ work_job job (quiet m)
quiet_work m (RequestJob n kind init p) = quiet_request_job m n p (kids_of kind init)
quiet_work m (UpdateJob n response p) = quiet_update_job m n p (key_set response)
quiet_work m (CloseJob n p) = quiet_queue (with_session n cleared m) (CloseDone n p) refl
quiet_work m (RemoveJob n p) = quiet_queue (with_session n without_keys m) (RemoveDone n p) refl

quiet_run : (m : Machine) (job : Job) → quiet (run_job job m) ≡ run_job job (quiet m)
quiet_run m job = quiet_choice (is_evicted (session_at m.sessions (job_session job))) _ _ _ _ (quiet_queue m (Reject (job_promise job) InvalidState) refl) (quiet_work m job)

quiet_taken : (m : Machine) (js : List Job) → quiet (take_job js m) ≡ take_job js (quiet m)
quiet_taken m [] = refl
quiet_taken m (job ∷ js) = quiet_run (record m { jobs = js }) job

pub quiet_job : (m : Machine) → Quieted (after_job m) (after_job (quiet m))
quiet_job m = record { machine = quiet_taken m m.jobs; effects = refl }

-- ---- the time

kept_reports : (old new n : ℕ) (ss : List SessionState) → filter is_kept (reports_from old new n ss) ≡ reports_from old new n ss
kept_reports old new n [] = refl
kept_reports old new n (s ∷ ss) = go (is_reported old new s) (reports_from old new (n + 1) ss) (kept_reports old new (n + 1) ss) where
  go : (b : Bool) (ts : List Task) → filter is_kept ts ≡ ts → filter is_kept (if b then Report n ∷ ts else ts) ≡ (if b then Report n ∷ ts else ts)
  go true ts rest = ap (λ (us : List Task). Report n ∷ us) rest
  go false ts rest = rest

pub quiet_tick : (m : Machine) (moment : ℕ) → Quieted (after_tick moment m) (after_tick moment (quiet m))
quiet_tick m moment = record {
  machine = ap (with_tasks (record (quiet m) { moment = moment })) (kept_behind m.tasks (reports_from m.moment moment 1 m.sessions) (kept_reports m.moment moment 1 m.sessions));
  effects = refl;
}

-- ---- evictions

quiet_evict_on : (m : Machine) (o : Option (ℕ × SessionState)) → quiet (evict_on m o) ≡ evict_on (quiet m) o
quiet_evict_on m None = refl
quiet_evict_on m (Some (n, s)) = quiet_choice (is_ending s) _ _ _ _ refl (quiet_queue (with_session n evict_session m) (Evicted n) refl)

pub quiet_evict : (m : Machine) (label : List ℕ) → Quieted (after_evict label m) (after_evict label (quiet m))
quiet_evict m label = record { machine = quiet_evict_on m (find_label m label); effects = refl }

-- ---- feeds

kept_inits : (inits : List InitData) → filter is_kept (map fire_encrypted inits) ≡ map fire_encrypted inits
kept_inits [] = refl
kept_inits (i ∷ inits) = ap (λ (ts : List Task). fire_encrypted i ∷ ts) (kept_inits inits)

pub quiet_told_of : (m : Machine) (given : Option Fragment) → quiet (told_of given m) ≡ told_of given (quiet m)
quiet_told_of m None = refl
quiet_told_of m (Some f) = ap (with_tasks (quiet m)) (kept_behind m.tasks (map fire_encrypted f.inits) (kept_inits f.inits))
