-- Steps keep that each queued job and task is of a session that is there.
use Rattle.std.proofs.Common.{◌≡◌, ℕ, ◌+◌, ◌<◌, ◌≤◌, ◌⊎◌, inl, inr, Bool, true, false, List, [], ◌∷◌, ◌++◌, length, Option, Some, None, Result, Ok, Err, refl, sym, subst, arith}
use Rattle.std.specs.Prelude.{if◌then◌else◌, nat_lt}
use Rattle.std.specs.Str.{bytes_eq}
use Rattle.eme_types.specs.declared.limits.TheConstants.{MAX_SESSION_KIDS}
use Rattle.eme_types.specs.declared.call.Event.{Event}
use Rattle.eme_types.specs.declared.call.Event.TheVariants.{KeyStatuses, Message}
use Rattle.eme_types.specs.declared.call.DomError.TheVariants.{InvalidState, TypeFault, Quota}
use Rattle.eme_types.specs.declared.call.Reason.TheVariants.{ClosedByApplication, ResourceEvicted}
use Rattle.eme_types.specs.declared.media.InitKind.{InitKind}
use Rattle.cdm_world.specs.In.{In}
use Rattle.cdm_world.proofs.Members.{In_more, In_either}
use Rattle.clearkey_json.specs.declared.key_set.KeySet.{KeySet}
use Rattle.clearkey_json.specs.declared.key_set.KeySetFault.{KeySetFault}
use Rattle.clearkey_json.specs.KeySet.{key_set}
use Rattle.clearkey_json.specs.Request.{request_text}
use Rattle.init_data.specs.declared.fault.InitFault.{InitFault}
use Rattle.init_data.specs.InitData.{kids_of, listed, named_kids, first_occurrences}
use Rattle.task_queue.specs.declared.work.Job.{Job}
use Rattle.task_queue.specs.declared.work.Job.TheVariants.{Request as RequestJob, Update as UpdateJob, Close as CloseJob, Remove as RemoveJob}
use Rattle.task_queue.specs.declared.work.Task.{Task}
use Rattle.task_queue.specs.declared.work.Task.TheVariants.{Reject, RequestDone, UpdateDone, CloseDone, RemoveDone, Evicted, Report, Fire, Resume}
use Rattle.key_statuses.specs.Table.{grant_all}
use Rattle.key_sessions.specs.Machine.{SessionState, Machine, session_at, change_session}
use Rattle.key_sessions.specs.Steps.{Done, unmoved, with_session, queue_task, update_statuses, statuses_now, closed_for}
use Rattle.key_sessions.specs.Calls.{find_from, find_label, is_ending}
use Rattle.key_sessions.specs.Jobs.{request_job, request_error, grant_set, with_set, is_changed_by, found, update_job, work_job, job_session, job_promise, is_evicted, take_job, after_job, cleared, without_keys}
use Rattle.key_sessions.specs.Evict.{evict_session, evict_numbered, evict_on, after_evict}
use Rattle.key_sessions.specs.Tasks.{run_task, take_task, after_task, is_closed, is_reported, next_id, reports_from, after_tick}
use Rattle.key_sessions.specs.Queued.{IsNumber, IsJobOf, IsTaskOf, AreThere}
use Rattle.key_sessions.proofs.SessionLists.{length-change_session}

pub more_jobs : (a b : ℕ) (job : Job) → a ≤ b → IsJobOf a job → IsJobOf b job
more_jobs a b job le of = (of.0, omega (arith, le, of.1))

more_tasks : (a b : ℕ) (task : Task) → a ≤ b → IsTaskOf a task → IsTaskOf b task
more_tasks a b (Reject p error) le of = tt
more_tasks a b (RequestDone n kids p) le of = of
more_tasks a b (UpdateDone n changed p) le of = (of.0, omega (arith, le, of.1))
more_tasks a b (CloseDone n p) le of = (of.0, omega (arith, le, of.1))
more_tasks a b (RemoveDone n p) le of = (of.0, omega (arith, le, of.1))
more_tasks a b (Evicted n) le of = (of.0, omega (arith, le, of.1))
more_tasks a b (Report n) le of = tt
more_tasks a b (Fire event) le of = tt
more_tasks a b Resume le of = tt

-- as many sessions or more; and each job and task was queued before, or is of one of them
pub there_more : (m d : Machine) → AreThere m → length m.sessions ≤ length d.sessions → ((job : Job) → In d.jobs job → In m.jobs job ⊎ IsJobOf (length d.sessions) job) → ((task : Task) → In d.tasks task → In m.tasks task ⊎ IsTaskOf (length d.sessions) task) → AreThere d
there_more m d there le jobs tasks = record {
  jobs = λ job at. elim (jobs job at) [ inl was ↦ more_jobs (length m.sessions) (length d.sessions) job le (there.jobs job was) | inr of ↦ of ];
  tasks = λ task at. elim (tasks task at) [ inl was ↦ more_tasks (length m.sessions) (length d.sessions) task le (there.tasks task was) | inr of ↦ of ];
}

-- one job or task more
pub last_job : (count : ℕ) (jobs : List Job) (job : Job) → IsJobOf count job → (other : Job) → In (jobs ++ job ∷ []) other → In jobs other ⊎ IsJobOf count other
last_job count jobs job of other at = elim (In_more jobs job other at) [ inl was ↦ inl was | inr e ↦ inr (subst (λ (x : Job). IsJobOf count x) e of) ]

pub last_task : (count : ℕ) (tasks : List Task) (task : Task) → IsTaskOf count task → (other : Task) → In (tasks ++ task ∷ []) other → In tasks other ⊎ IsTaskOf count other
last_task count tasks task of other at = elim (In_more tasks task other at) [ inl was ↦ inl was | inr e ↦ inr (subst (λ (x : Task). IsTaskOf count x) e of) ]

-- ---- calls

-- a session that is found is one of so many
abbrev pub IsKnown : ℕ → Option (ℕ × SessionState) → Type 0
IsKnown count None = Unit {0}
IsKnown count (Some (n, s)) = IsNumber count n

pub find_known : (count n : ℕ) (ss : List SessionState) (label : List ℕ) → 1 ≤ n → n + length ss ≤ count + 1 → IsKnown count (find_from n ss label)
find_known count n [] label from within = tt
find_known count n (s ∷ ss) label from within = go (find_known count (n + 1) ss label (omega arith) (omega (arith, within))) (bytes_eq s.label label) where
  go : IsKnown count (find_from (n + 1) ss label) → (b : Bool) → IsKnown count (if b then Some (n, s) else find_from (n + 1) ss label)
  go rest true = (from, omega (arith, within))
  go rest false = rest

-- the session with the label is one of those that are there
pub label_known : (m : Machine) (label : List ℕ) → IsKnown (length m.sessions) (find_label m label)
label_known m label = find_known (length m.sessions) 1 m.sessions label (omega arith) (omega arith)

-- ---- jobs

some_named : (listed kids : List (List ℕ)) → named_kids listed ≡ Ok kids → 0 < length kids
unfolding first_occurrences
some_named [] kids e = absurd cc
some_named (kid ∷ more) kids e = (let same : first_occurrences (kid ∷ more) ≡ kids = cc in subst (λ (x : List (List ℕ)). 0 < length x) same (omega arith))

-- what initialization data names is not nothing
some_kids : (kind : InitKind) (init : List ℕ) (kids : List (List ℕ)) → kids_of kind init ≡ Ok kids → 0 < length kids
unfolding kids_of
some_kids kind init kids e = go (listed kind init) refl where
  go : (r : Result (List (List ℕ)) InitFault) → listed kind init ≡ r → 0 < length kids
  go (Ok list) is = some_named list kids (rw is at e)
  go (Err fault) is = absurd (let no = rw is at e in cc)

-- a job queues one task, and changes one session at most
there_queued : (m : Machine) (ss : List SessionState) (task : Task) → length ss ≡ length m.sessions → IsTaskOf (length m.sessions) task → AreThere m → AreThere (queue_task task (record m { sessions = ss }))
there_queued m ss task same of there = there_more m (queue_task task (record m { sessions = ss })) there (omega (arith, same)) (λ job at. inl at) (last_task (length ss) m.tasks task (subst (λ k. IsTaskOf k task) (sym same) of))

there_request : (m : Machine) (n p : ℕ) (r : Result (List (List ℕ)) InitFault) → ((kids : List (List ℕ)) → r ≡ Ok kids → 0 < length kids) → AreThere m → AreThere (request_job n p r m)
there_request m n p (Ok kids) some there = there_queued m m.sessions (RequestDone n kids p) refl (some kids refl) there
there_request m n p (Err fault) some there = there_queued m m.sessions (Reject p (request_error fault)) refl tt there

there_grant : (m : Machine) (n p : ℕ) (set : KeySet) (s : SessionState) → IsNumber (length m.sessions) n → AreThere m → AreThere (grant_set n p set s m)
there_grant m n p set s of there = go (nat_lt MAX_SESSION_KIDS (length (grant_all s.keys set.keys))) where
  go : (b : Bool) → AreThere (if b then queue_task (Reject p Quota) m else queue_task (UpdateDone n (is_changed_by m.moment s (with_set set s)) p) (with_session n (with_set set) m))
  go true = there_queued m m.sessions (Reject p Quota) refl tt there
  go false = there_queued m (change_session m.sessions n (with_set set)) (UpdateDone n (is_changed_by m.moment s (with_set set s)) p) (length-change_session m.sessions n (with_set set)) of there

there_update : (m : Machine) (n p : ℕ) (r : Result KeySet KeySetFault) → IsNumber (length m.sessions) n → AreThere m → AreThere (update_job n p r m)
there_update m n p (Ok set) of there = there_grant m n p set (found (session_at m.sessions n)) of there
there_update m n p (Err fault) of there = there_queued m m.sessions (Reject p TypeFault) refl tt there

-- without its front job
less_job : (m : Machine) (job : Job) (js : List Job) → m.jobs ≡ job ∷ js → AreThere m → AreThere (record m { jobs = js })
less_job m job js e there = record { jobs = λ other at. there.jobs other (rw e (inr at)); tasks = there.tasks }

-- a job does its work
there_worked : (m : Machine) (job : Job) → IsJobOf (length m.sessions) job → AreThere m → AreThere (work_job job m)
there_worked m (RequestJob n kind init p) of there = there_request m n p (kids_of kind init) (λ kids is. some_kids kind init kids is) there
there_worked m (UpdateJob n response p) of there = there_update m n p (key_set response) of there
there_worked m (CloseJob n p) of there = there_queued m (change_session m.sessions n cleared) (CloseDone n p) (length-change_session m.sessions n cleared) of there
there_worked m (RemoveJob n p) of there = there_queued m (change_session m.sessions n without_keys) (RemoveDone n p) (length-change_session m.sessions n without_keys) of there

-- a job is refused, or does its work
there_either : (m : Machine) (job : Job) (b : Bool) → IsJobOf (length m.sessions) job → AreThere m → AreThere (if b then queue_task (Reject (job_promise job) InvalidState) m else work_job job m)
there_either m job true of there = there_queued m m.sessions (Reject (job_promise job) InvalidState) refl tt there
there_either m job false of there = there_worked m job of there

there_taken : (m : Machine) (js : List Job) → m.jobs ≡ js → AreThere m → AreThere (take_job js m)
there_taken m [] e there = there
there_taken m (job ∷ js) e there = there_either (record m { jobs = js }) job (is_evicted (session_at m.sessions (job_session job))) (there.jobs job (rw e (inl refl))) (less_job m job js e there)

pub there_job : (m : Machine) → AreThere m → AreThere (after_job m).machine
there_job m there = there_taken m m.jobs refl there

-- ---- evictions

there_evicted : (m : Machine) (o : Option (ℕ × SessionState)) → IsKnown (length m.sessions) o → AreThere m → AreThere (evict_on m o)
there_evicted m None known there = there
there_evicted m (Some (n, s)) known there = go (is_ending s) where
  go : (b : Bool) → AreThere (if b then m else evict_numbered n m)
  go true = there
  go false = there_queued m (change_session m.sessions n evict_session) (Evicted n) (length-change_session m.sessions n evict_session) known there

pub there_evict : (m : Machine) (label : List ℕ) → AreThere m → AreThere (after_evict label m).machine
there_evict m label there = there_evicted m (find_label m label) (label_known m label) there

-- ---- tasks

-- a task leaves the jobs, changes one session at most, and queues events and `Resume` alone
there_fired : (m d : Machine) (event : Event) → length d.sessions ≡ length m.sessions → d.jobs ≡ m.jobs → d.tasks ≡ m.tasks ++ Fire event ∷ [] → AreThere m → AreThere d
there_fired m d event same jobs tasks there = there_more m d there (omega (arith, same)) (λ job at. inl (rw jobs at at)) (λ task at. last_task (length d.sessions) m.tasks (Fire event) tt task (rw tasks at at))

there_reported : (m d : Machine) (n : ℕ) → length d.sessions ≡ length m.sessions → d.jobs ≡ m.jobs → d.tasks ≡ (m.tasks ++ Fire (KeyStatuses n) ∷ []) ++ Resume ∷ [] → AreThere m → AreThere d
there_reported m d n same jobs tasks there = there_more m d there (omega (arith, same)) (λ job at. inl (rw jobs at at)) (λ task at. elim (last_task (length d.sessions) (m.tasks ++ Fire (KeyStatuses n) ∷ []) Resume tt task (rw tasks at at)) [ inl was ↦ last_task (length d.sessions) m.tasks (Fire (KeyStatuses n)) tt task was | inr of ↦ inr of ])

there_same : (m d : Machine) → d.sessions ≡ m.sessions → d.jobs ≡ m.jobs → d.tasks ≡ m.tasks → AreThere m → AreThere d
there_same m d same jobs tasks there = record { jobs = rw (same, jobs) there.jobs; tasks = rw (same, tasks) there.tasks }

there_run : (m : Machine) (task : Task) → AreThere m → AreThere (run_task task m).machine
there_run m (Reject p error) there = there_same m _ refl refl refl there
there_run m (RequestDone n kids p) there = there_fired m _ (Message n (next_id m) (request_text kids)) (length-change_session m.sessions n _) refl refl there
there_run m (UpdateDone n true p) there = there_reported m _ n (length-change_session m.sessions n (statuses_now m.moment)) refl refl there
there_run m (UpdateDone n false p) there = there_same m _ refl refl refl there
there_run m (CloseDone n p) there = there_reported m _ n (rw (length-change_session (change_session m.sessions n (statuses_now m.moment)) n (closed_for ClosedByApplication)) (length-change_session m.sessions n (statuses_now m.moment))) refl refl there
there_run m (RemoveDone n p) there = there_reported m _ n (length-change_session m.sessions n (statuses_now m.moment)) refl refl there
there_run m (Evicted n) there = there_reported m _ n (rw (length-change_session (change_session m.sessions n (statuses_now m.moment)) n (closed_for ResourceEvicted)) (length-change_session m.sessions n (statuses_now m.moment))) refl refl there
there_run m (Report n) there = go (is_closed (session_at m.sessions n)) where
  go : (b : Bool) → AreThere (let d : Done = if b then unmoved m else update_statuses n (unmoved m) in d).machine
  go true = there
  go false = there_reported m _ n (length-change_session m.sessions n (statuses_now m.moment)) refl refl there
there_run m (Fire event) there = there_same m _ refl refl refl there
there_run m Resume there = there

there_front : (m : Machine) (ts : List Task) → m.tasks ≡ ts → AreThere m → AreThere (take_task ts m).machine
there_front m [] e there = there
there_front m (task ∷ ts) e there = there_run (record m { tasks = ts }) task (record { jobs = there.jobs; tasks = λ other at. there.tasks other (rw e (inr at)) })

pub there_task : (m : Machine) → AreThere m → AreThere (after_task m).machine
there_task m there = there_front m m.tasks refl there

-- ---- the time

-- what the time queues are reports
are_reports : (count old new n : ℕ) (ss : List SessionState) (task : Task) → In (reports_from old new n ss) task → IsTaskOf count task
are_reports count old new n [] task at = absurd at
are_reports count old new n (s ∷ ss) task at = go (λ more. are_reports count old new (n + 1) ss task more) (is_reported old new s) at where
  go : (In (reports_from old new (n + 1) ss) task → IsTaskOf count task) → (b : Bool) → In (if b then Report n ∷ reports_from old new (n + 1) ss else reports_from old new (n + 1) ss) task → IsTaskOf count task
  go rest true (inl e) = subst (λ (x : Task). IsTaskOf count x) e tt
  go rest true (inr more) = rest more
  go rest false more = rest more

pub there_tick : (m : Machine) (moment : ℕ) → AreThere m → AreThere (after_tick moment m).machine
there_tick m moment there = there_more m (after_tick moment m).machine there (omega arith) (λ job at. inl at) (λ task at. elim (In_either m.tasks (reports_from m.moment moment 1 m.sessions) task at) [ inl was ↦ inl was | inr report ↦ inr (are_reports (length m.sessions) m.moment moment 1 m.sessions task report) ])
