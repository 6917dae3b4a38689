-- Calls, jobs and tasks keep what is owed, and their effects settle just what no longer is.
use Rattle.std.proofs.Common.{◌≡◌, ℕ, ◌+◌, ◌<◌, ◌≤◌, Bool, true, false, List, [], ◌∷◌, ◌++◌, length, length-append, Option, Some, None, Result, Ok, Err, inl, refl, sym, ◌∙◌, arith, append_assoc}
use Rattle.std.proofs.lemmas.List.{append-nil}
use Rattle.clearkey_json.specs.Request.{request_text}
use Rattle.eme_types.specs.declared.call.Event.{Event}
use Rattle.eme_types.specs.declared.call.Event.TheVariants.{KeyStatuses, Message}
use Rattle.std.specs.Prelude.{if◌then◌else◌, nat_lt, codes}
use Rattle.std.specs.Str.{bytes_eq}
use Rattle.std.proofs.lemmas.Bool.Decides.{Decides-ltb}
use Rattle.eme_types.specs.declared.limits.TheConstants.{MAX_SESSIONS, MAX_SESSION_KIDS}
use Rattle.eme_types.specs.declared.call.Settled.{Settled}
use Rattle.eme_types.specs.declared.call.Settled.TheVariants.{Resolved, ResolvedFalse, Rejected}
use Rattle.eme_types.specs.declared.call.DomError.{DomError}
use Rattle.eme_types.specs.declared.call.DomError.TheVariants.{InvalidState, TypeFault, NotSupported, Quota, UnknownLabel}
use Rattle.eme_types.specs.declared.call.Reason.{Reason}
use Rattle.eme_types.specs.declared.call.Reason.TheVariants.{ClosedByApplication, ResourceEvicted}
use Rattle.eme_types.specs.declared.call.AppCall.{AppCall}
use Rattle.eme_types.specs.declared.call.AppCall.TheVariants.{Access, Create, Request, Update, Close, Remove, Certificate}
use Rattle.eme_types.specs.declared.call.Effect.{Effect}
use Rattle.eme_types.specs.declared.call.Effect.TheVariants.{Closed, Promise, Fired}
use Rattle.eme_types.specs.declared.media.InitKind.{InitKind}
use Rattle.clearkey_json.specs.declared.key_set.KeySet.{KeySet}
use Rattle.clearkey_json.specs.declared.key_set.KeySetFault.{KeySetFault}
use Rattle.clearkey_json.specs.KeySet.{key_set}
use Rattle.init_data.specs.declared.fault.InitFault.{InitFault}
use Rattle.init_data.specs.InitData.{kids_of}
use Rattle.key_system_access.specs.Configs.{configs_of}
use Rattle.task_queue.specs.declared.work.Job.{Job}
use Rattle.task_queue.specs.declared.work.Job.TheVariants.{Request as RequestJob, Update as UpdateJob, Close as CloseJob, Remove as RemoveJob}
use Rattle.task_queue.specs.declared.work.Task.{Task}
use Rattle.task_queue.specs.declared.work.Task.TheVariants.{Reject, RequestDone, UpdateDone, CloseDone, RemoveDone, Evicted, Report, Fire, Resume}
use Rattle.key_statuses.specs.Table.{grant_all}
use Rattle.eme_types.specs.declared.kid.KeyBytes.{KeyBytes}
use Rattle.key_sessions.specs.Machine.{SessionState, Machine, new_session, session_at, change_session}
use Rattle.key_sessions.specs.Keys.{usable_key, held_in, held_key}
use Rattle.key_sessions.specs.Owed.{one_if, job_owes, task_owes, jobs_owe, tasks_owe, pending, IsOwed, times_settled, Asked, Steady}
use Rattle.key_sessions.specs.Steps.{Done, unmoved, with_session, queue_task, update_statuses, report_of, statuses_now, closed_for}
use Rattle.task_queue.specs.Pending.{settle_in}
use Rattle.key_sessions.specs.Calls.{access_result, answer_now, reject_now, answer_later, create_call, add_session, find_label, is_ending, request_on, request_started, request_kind, start_request, update_on, update_or, or_empty, state_fault, close_on, start_closing, remove_on, remove_or, after_call}
use Rattle.key_sessions.specs.Jobs.{request_job, request_error, grant_set, with_set, is_changed_by, found, update_job, work_job, job_session, job_promise, is_evicted, take_job, after_job, cleared, without_keys}
use Rattle.key_sessions.specs.Evict.{evict_numbered, evict_on, after_evict}
use Rattle.key_sessions.specs.Tasks.{run_task, take_task, after_task, is_closed, request_done, next_id, reports_from, after_tick}
use Rattle.key_sessions.proofs.SessionLists.{length-change_session}
use Rattle.key_sessions.specs.Queued.{IsNumber, IsJobOf, AreThere}
use Rattle.key_sessions.specs.Holders.{holders_from}
use Rattle.key_sessions.proofs.Held.{held_alike, held_more}
use Rattle.key_sessions.proofs.HeldBy.{holders_alike, holders_added}
use Rattle.key_sessions.proofs.There.{more_jobs, last_job, there_more, IsKnown, label_known}
use Rattle.key_sessions.proofs.Owed.{one_same, times_one, times_more, jobs_more, tasks_more, pending_within, pending_done, pending_new, pending_settled, length-settle_in, reports_owe}

-- sessions that keep every key, are no fewer, and stay at most 64
record Keeps (ss ss' : List SessionState) : Type 0 where
  held : (moment n : ℕ) (kid : List ℕ) (key : KeyBytes) → held_in moment ss n kid ≡ Some key → held_in moment ss' n kid ≡ Some key
  few : length ss ≤ MAX_SESSIONS → length ss' ≤ MAX_SESSIONS
  more : length ss ≤ length ss'
  holders : (kid : List ℕ) → holders_from 1 ss' kid ≡ holders_from 1 ss kid

-- what a call does, and what it leaves
pub record Called (m : Machine) (d : Done) : Type 0 where
  pub asked : Asked m d
  pub held : (n : ℕ) (kid : List ℕ) (key : KeyBytes) → held_key m n kid ≡ Some key → held_key d.machine n kid ≡ Some key
  pub few : length m.sessions ≤ MAX_SESSIONS → length d.machine.sessions ≤ MAX_SESSIONS
  pub there : AreThere m → AreThere d.machine
  pub holders : (kid : List ℕ) → holders_from 1 d.machine.sessions kid ≡ holders_from 1 m.sessions kid

as_were : (ss : List SessionState) → Keeps ss ss
as_were ss = record { held = λ moment n kid key at. at; few = λ le. le; more = omega arith; holders = λ kid. refl }

changed_one : (ss : List SessionState) (n : ℕ) (f : SessionState → SessionState) → ((moment : ℕ) (s : SessionState) (kid : List ℕ) → usable_key moment (f s) kid ≡ usable_key moment s kid) → ((s : SessionState) → (f s).keys ≡ s.keys) → Keeps ss (change_session ss n f)
changed_one ss n f same alike = record { held = λ moment k kid key at. held_alike moment ss n k f kid (λ s. same moment s kid) ∙ at; few = λ le. rw (length-change_session ss n f) le; more = rw (length-change_session ss n f) (omega arith); holders = λ kid. holders_alike ss n f kid alike }

one_more : (ss : List SessionState) (s : SessionState) → length ss < MAX_SESSIONS → s.keys ≡ [] → Keeps ss (ss ++ s ∷ [])
one_more ss s lt none = record { held = λ moment k kid key at. held_more moment ss s k kid key at; few = λ le. omega (arith, lt, length-append ss (s ∷ [])); more = omega (arith, length-append ss (s ∷ [])); holders = λ kid. holders_added ss s kid none }

now : (m : Machine) (ss : List SessionState) (how : Settled) → Keeps m.sessions ss → Called m (answer_now how (record m { sessions = ss }))
now m ss how keeps = record {
  asked = record {
    owed = λ owed p. owed p ∙ sym (pending_done m.promises how p);
    balance = λ p. omega (arith, times_one p (length m.promises + 1) how, pending_done m.promises how p);
    more = length-append m.promises (Some how ∷ []);
  };
  held = λ n kid key at. keeps.held m.moment n kid key at;
  few = keeps.few;
  there = λ there. there_more m (answer_now how (record m { sessions = ss })).machine there keeps.more (λ job at. inl at) (λ task at. inl at);
  holders = keeps.holders;
}

later : (m : Machine) (ss : List SessionState) (job : ℕ → Job) → ((p q : ℕ) → job_owes p (job q) ≡ one_if q p) → ((q : ℕ) → IsJobOf (length m.sessions) (job q)) → Keeps m.sessions ss → Called m (answer_later job (record m { sessions = ss }))
later m ss job names of keeps = record {
  asked = record {
    owed = λ owed p. omega (arith, owed p, jobs_more p m.jobs (job (length m.promises + 1)), names p (length m.promises + 1), pending_new m.promises p);
    balance = λ p. omega (arith, pending_new m.promises p);
    more = length-append m.promises (None ∷ []);
  };
  held = λ n kid key at. keeps.held m.moment n kid key at;
  few = keeps.few;
  there = λ there. there_more m (answer_later job (record m { sessions = ss })).machine there keeps.more (last_job (length ss) m.jobs (job (length m.promises + 1)) (more_jobs (length m.sessions) (length ss) (job (length m.promises + 1)) keeps.more (of (length m.promises + 1)))) (λ task at. inl at);
  holders = keeps.holders;
}

plain : (m : Machine) (how : Settled) → Called m (answer_now how m)
plain m how = now m m.sessions how (as_were m.sessions)

choose : (m : Machine) (b : Bool) (x y : Done) → Called m x → Called m y → Called m (if b then x else y)
choose m true x y p q = p
choose m false x y p q = q

called_added : (m : Machine) (label : List ℕ) (b : Bool) → nat_lt (length m.sessions) MAX_SESSIONS ≡ b → Called m (if b then answer_now Resolved (add_session label m) else reject_now Quota m)
called_added m label true e = now m (add_session label m).sessions Resolved (one_more m.sessions (new_session label) ((Decides-ltb (length m.sessions) MAX_SESSIONS).0 e) refl)
called_added m label false e = plain m (Rejected Quota)

called_create : (m : Machine) (label kind : List ℕ) → Called m (create_call label kind m)
called_create m label kind = choose m (bytes_eq kind (codes "temporary")) _ _ (called_added m label (nat_lt (length m.sessions) MAX_SESSIONS) refl) (plain m (Rejected NotSupported))

called_started : (m : Machine) (ss : List SessionState) (n : ℕ) (init : List ℕ) (r : Result InitKind DomError) → IsNumber (length m.sessions) n → Keeps m.sessions ss → Called m (request_started n init r (record m { sessions = ss }))
called_started m ss n init (Err error) of keeps = now m ss (Rejected error) keeps
called_started m ss n init (Ok kind) of keeps = later m ss (λ p. RequestJob n kind init p) (λ p q. refl) (λ q. of) keeps

called_request : (m : Machine) (kind init : List ℕ) (o : Option (ℕ × SessionState)) → IsKnown (length m.sessions) o → Called m (request_on kind init m o)
called_request m kind init None known = plain m (Rejected UnknownLabel)
called_request m kind init (Some (n, s)) known = choose m (is_ending s) _ _ (plain m (Rejected InvalidState)) (choose m s.uninitialized _ _ (called_started m (change_session m.sessions n start_request) n init (request_kind kind init) known (changed_one m.sessions n start_request (λ moment s kid. refl) (λ s. refl))) (plain m (Rejected InvalidState)))

called_update_or : (m : Machine) (n : ℕ) (response : List ℕ) (o : Option DomError) → IsNumber (length m.sessions) n → Called m (update_or n response o m)
called_update_or m n response (Some error) of = plain m (Rejected error)
called_update_or m n response None of = later m m.sessions (λ p. UpdateJob n response p) (λ p q. refl) (λ q. of) (as_were m.sessions)

called_update : (m : Machine) (response : List ℕ) (o : Option (ℕ × SessionState)) → IsKnown (length m.sessions) o → Called m (update_on response m o)
called_update m response None known = plain m (Rejected UnknownLabel)
called_update m response (Some (n, s)) known = called_update_or m n response (or_empty (state_fault s) response) known

called_close : (m : Machine) (o : Option (ℕ × SessionState)) → IsKnown (length m.sessions) o → Called m (close_on m o)
called_close m None known = plain m (Rejected UnknownLabel)
called_close m (Some (n, s)) known = choose m (is_ending s) _ _ (plain m Resolved) (choose m s.callable _ _ (later m (change_session m.sessions n start_closing) (λ p. CloseJob n p) (λ p q. refl) (λ q. known) (changed_one m.sessions n start_closing (λ moment s kid. refl) (λ s. refl))) (plain m (Rejected InvalidState)))

called_remove_or : (m : Machine) (n : ℕ) (o : Option DomError) → IsNumber (length m.sessions) n → Called m (remove_or n o m)
called_remove_or m n (Some error) of = plain m (Rejected error)
called_remove_or m n None of = later m m.sessions (λ p. RemoveJob n p) (λ p q. refl) (λ q. of) (as_were m.sessions)

called_remove : (m : Machine) (o : Option (ℕ × SessionState)) → IsKnown (length m.sessions) o → Called m (remove_on m o)
called_remove m None known = plain m (Rejected UnknownLabel)
called_remove m (Some (n, s)) known = called_remove_or m n (state_fault s) known

pub called : (m : Machine) (call : AppCall) → Called m (after_call call m)
called m (Access name list) = plain m (access_result name (configs_of list))
called m (Create label kind) = called_create m label kind
called m (Request label kind init) = called_request m kind init (find_label m label) (label_known m label)
called m (Update label response) = called_update m response (find_label m label) (label_known m label)
called m (Close label) = called_close m (find_label m label) (label_known m label)
called m (Remove label) = called_remove m (find_label m label) (label_known m label)
called m (Certificate cert) = plain m ResolvedFalse

pub asked_call : (m : Machine) (call : AppCall) → Asked m (after_call call m)
asked_call m call = (called m call).asked

-- a job's promise moves to the task that it queues
moved : (m : Machine) (ss : List SessionState) (job : Job) (js : List Job) (task : Task) → m.jobs ≡ job ∷ js → ((q : ℕ) → task_owes q task ≡ job_owes q job) → IsOwed m → Steady m (unmoved (record m { sessions = ss; jobs = js; tasks = m.tasks ++ task ∷ [] }))
moved m ss job js task e same owed = record {
  owed = λ q. (let before : jobs_owe q (job ∷ js) + tasks_owe q m.tasks ≡ pending m.promises q = rw e at (owed q) in omega (arith, before, same q, tasks_more q m.tasks (task ∷ [])));
  balance = λ q. omega arith;
  more = refl;
}

moved_request : (m : Machine) (n p : ℕ) (kind : InitKind) (init : List ℕ) (js : List Job) (r : Result (List (List ℕ)) InitFault) → m.jobs ≡ RequestJob n kind init p ∷ js → IsOwed m → Steady m (unmoved (request_job n p r (record m { jobs = js })))
moved_request m n p kind init js (Ok kids) e owed = moved m m.sessions (RequestJob n kind init p) js (RequestDone n kids p) e (λ q. refl) owed
moved_request m n p kind init js (Err fault) e owed = moved m m.sessions (RequestJob n kind init p) js (Reject p (request_error fault)) e (λ q. refl) owed

moved_grant : (m : Machine) (n p : ℕ) (response : List ℕ) (set : KeySet) (s : SessionState) (js : List Job) → m.jobs ≡ UpdateJob n response p ∷ js → IsOwed m → Steady m (unmoved (grant_set n p set s (record m { jobs = js })))
moved_grant m n p response set s js e owed = go (nat_lt MAX_SESSION_KIDS (length (grant_all s.keys set.keys))) where
  go : (b : Bool) → Steady m (unmoved (if b then queue_task (Reject p Quota) (record m { jobs = js }) else queue_task (UpdateDone n (is_changed_by m.moment s (with_set set s)) p) (with_session n (with_set set) (record m { jobs = js }))))
  go true = moved m m.sessions (UpdateJob n response p) js (Reject p Quota) e (λ q. refl) owed
  go false = moved m (change_session m.sessions n (with_set set)) (UpdateJob n response p) js (UpdateDone n (is_changed_by m.moment s (with_set set s)) p) e (λ q. refl) owed

moved_update : (m : Machine) (n p : ℕ) (response : List ℕ) (js : List Job) (r : Result KeySet KeySetFault) → m.jobs ≡ UpdateJob n response p ∷ js → IsOwed m → Steady m (unmoved (update_job n p r (record m { jobs = js })))
moved_update m n p response js (Ok set) e owed = moved_grant m n p response set (found (session_at m.sessions n)) js e owed
moved_update m n p response js (Err fault) e owed = moved m m.sessions (UpdateJob n response p) js (Reject p TypeFault) e (λ q. refl) owed

pub steady_same : (m : Machine) → IsOwed m → Steady m (unmoved m)
steady_same m owed = record { owed = owed; balance = λ p. omega arith; more = refl }

-- a job does its work
moved_work : (m : Machine) (job : Job) (js : List Job) → m.jobs ≡ job ∷ js → IsOwed m → Steady m (unmoved (work_job job (record m { jobs = js })))
moved_work m (RequestJob n kind init p) js e owed = moved_request m n p kind init js (kids_of kind init) e owed
moved_work m (UpdateJob n response p) js e owed = moved_update m n p response js (key_set response) e owed
moved_work m (CloseJob n p) js e owed = moved m (change_session m.sessions n cleared) (CloseJob n p) js (CloseDone n p) e (λ q. refl) owed
moved_work m (RemoveJob n p) js e owed = moved m (change_session m.sessions n without_keys) (RemoveJob n p) js (RemoveDone n p) e (λ q. refl) owed

-- a job owes the promise that it answers
owes_its_own : (q : ℕ) (job : Job) → one_if (job_promise job) q ≡ job_owes q job
owes_its_own q (RequestJob n kind init p) = refl
owes_its_own q (UpdateJob n response p) = refl
owes_its_own q (CloseJob n p) = refl
owes_its_own q (RemoveJob n p) = refl

-- a job is refused, or does its work
moved_either : (m : Machine) (job : Job) (js : List Job) (b : Bool) → m.jobs ≡ job ∷ js → IsOwed m → Steady m (unmoved (if b then queue_task (Reject (job_promise job) InvalidState) (record m { jobs = js }) else work_job job (record m { jobs = js })))
moved_either m job js true e owed = moved m m.sessions job js (Reject (job_promise job) InvalidState) e (λ q. owes_its_own q job) owed
moved_either m job js false e owed = moved_work m job js e owed

steady_take : (m : Machine) (js : List Job) → m.jobs ≡ js → IsOwed m → Steady m (unmoved (take_job js m))
steady_take m [] e owed = steady_same m owed
steady_take m (job ∷ js) e owed = moved_either m job js (is_evicted (session_at m.sessions (job_session job))) e owed

pub steady_job : (m : Machine) → IsOwed m → Steady m (after_job m)
steady_job m owed = steady_take m m.jobs refl owed

-- an eviction owes nothing
steady_evicted : (m : Machine) (o : Option (ℕ × SessionState)) → IsOwed m → Steady m (unmoved (evict_on m o))
steady_evicted m None owed = steady_same m owed
steady_evicted m (Some (n, s)) owed = go (is_ending s) where
  go : (b : Bool) → Steady m (unmoved (if b then m else evict_numbered n m))
  go true = steady_same m owed
  go false = record {
    owed = λ q. omega (arith, owed q, tasks_more q m.tasks (Evicted n ∷ []));
    balance = λ q. omega arith;
    more = refl;
  }

pub steady_evict : (m : Machine) (label : List ℕ) → IsOwed m → Steady m (after_evict label m)
steady_evict m label owed = steady_evicted m (find_label m label) owed

-- effects and tasks that settle and owe nothing
abbrev Quiet : List Effect → Type 0
Quiet es = (q : ℕ) → times_settled q es ≡ 0

abbrev Free : List Task → Type 0
Free ts = (q : ℕ) → tasks_owe q ts ≡ 0

-- the front task settles its promise, and queues what owes nothing
finished : (m : Machine) (ss : List SessionState) (task : Task) (ts more : List Task) (p : ℕ) (how : Settled) (es fs : List Effect) → m.tasks ≡ task ∷ ts → ((q : ℕ) → task_owes q task ≡ one_if p q) → Free more → Quiet es → fs ≡ es ++ Promise p how ∷ [] → IsOwed m → (us : List Task) → us ≡ ts ++ more → Steady m (record { machine = record m { sessions = ss; tasks = us; promises = settle_in m.promises p how }; effects = fs })
finished m ss task ts more p how es fs e names free quiet is owed us queued =
    let before : (q : ℕ) → jobs_owe q m.jobs + tasks_owe q (task ∷ ts) ≡ pending m.promises q = λ q. rw e at (owed q) in
    let one : pending m.promises p ≡ 1 = omega (arith, before p, names p, one_same p, pending_within m.promises p) in
    record {
      owed = λ q. rw queued (omega (arith, before q, names q, free q, tasks_more q ts more, pending_settled m.promises p q how one));
      balance = λ q. rw is (omega (arith, times_more q es (Promise p how ∷ []), quiet q, times_one q p how, pending_settled m.promises p q how one));
      more = length-settle_in m.promises p how;
    }

-- the front task settles nothing
ran : (m : Machine) (ss : List SessionState) (fired : List Event) (task : Task) (ts more : List Task) (es : List Effect) → m.tasks ≡ task ∷ ts → ((q : ℕ) → task_owes q task ≡ 0) → Free more → Quiet es → IsOwed m → (us : List Task) → us ≡ ts ++ more → Steady m (record { machine = record m { sessions = ss; tasks = us; fired = fired }; effects = es })
ran m ss fired task ts more es e names free quiet owed us queued =
    let before : (q : ℕ) → jobs_owe q m.jobs + tasks_owe q (task ∷ ts) ≡ pending m.promises q = λ q. rw e at (owed q) in
    record {
      owed = λ q. rw queued (omega (arith, before q, names q, free q, tasks_more q ts more));
      balance = λ q. omega (arith, quiet q);
      more = refl;
    }

free_two : (n : ℕ) → Free (Fire (KeyStatuses n) ∷ (Resume ∷ []))
free_two n q = omega arith

free_none : Free []
free_none q = refl

quiet_report : (n moment : ℕ) (o : Option SessionState) → Quiet (report_of n moment o)
quiet_report n moment None q = refl
quiet_report n moment (Some s) q = refl

quiet_closed : (n moment : ℕ) (o : Option SessionState) (reason : Reason) → Quiet (report_of n moment o ++ Closed n reason ∷ [])
quiet_closed n moment o reason q = times_more q (report_of n moment o) (Closed n reason ∷ []) ∙ omega (arith, quiet_report n moment o q)

steady_task : (m : Machine) (ts us : List Task) → m.tasks ≡ us → IsOwed m → (task : Task) → us ≡ task ∷ ts → Steady m (run_task task (record m { tasks = ts }))
steady_task m ts us e owed (Reject p error) is = finished m m.sessions (Reject p error) ts [] p (Rejected error) [] (Promise p (Rejected error) ∷ []) (e ∙ is) (λ q. refl) free_none (λ q. refl) refl owed ts (sym (append-nil ts))
steady_task m ts us e owed (RequestDone n kids p) is = finished m (request_done n kids (record m { tasks = ts })).sessions (RequestDone n kids p) ts (Fire (Message n (next_id m) (request_text kids)) ∷ []) p Resolved [] (Promise p Resolved ∷ []) (e ∙ is) (λ q. refl) (λ q. omega arith) (λ q. refl) refl owed (ts ++ Fire (Message n (next_id m) (request_text kids)) ∷ []) refl
steady_task m ts us e owed (UpdateDone n true p) is = finished m (change_session m.sessions n (statuses_now m.moment)) (UpdateDone n true p) ts (Fire (KeyStatuses n) ∷ (Resume ∷ [])) p Resolved (report_of n m.moment (session_at m.sessions n)) (report_of n m.moment (session_at m.sessions n) ++ Promise p Resolved ∷ []) (e ∙ is) (λ q. refl) (free_two n) (quiet_report n m.moment (session_at m.sessions n)) refl owed ((ts ++ Fire (KeyStatuses n) ∷ []) ++ Resume ∷ []) (append_assoc ts (Fire (KeyStatuses n) ∷ []) (Resume ∷ []))
steady_task m ts us e owed (UpdateDone n false p) is = finished m m.sessions (UpdateDone n false p) ts [] p Resolved [] (Promise p Resolved ∷ []) (e ∙ is) (λ q. refl) free_none (λ q. refl) refl owed ts (sym (append-nil ts))
steady_task m ts us e owed (CloseDone n p) is = finished m (change_session (change_session m.sessions n (statuses_now m.moment)) n (closed_for ClosedByApplication)) (CloseDone n p) ts (Fire (KeyStatuses n) ∷ (Resume ∷ [])) p Resolved (report_of n m.moment (session_at m.sessions n) ++ Closed n ClosedByApplication ∷ []) ((report_of n m.moment (session_at m.sessions n) ++ Closed n ClosedByApplication ∷ []) ++ Promise p Resolved ∷ []) (e ∙ is) (λ q. refl) (free_two n) (quiet_closed n m.moment (session_at m.sessions n) ClosedByApplication) refl owed ((ts ++ Fire (KeyStatuses n) ∷ []) ++ Resume ∷ []) (append_assoc ts (Fire (KeyStatuses n) ∷ []) (Resume ∷ []))
steady_task m ts us e owed (RemoveDone n p) is = finished m (change_session m.sessions n (statuses_now m.moment)) (RemoveDone n p) ts (Fire (KeyStatuses n) ∷ (Resume ∷ [])) p Resolved (report_of n m.moment (session_at m.sessions n)) (report_of n m.moment (session_at m.sessions n) ++ Promise p Resolved ∷ []) (e ∙ is) (λ q. refl) (free_two n) (quiet_report n m.moment (session_at m.sessions n)) refl owed ((ts ++ Fire (KeyStatuses n) ∷ []) ++ Resume ∷ []) (append_assoc ts (Fire (KeyStatuses n) ∷ []) (Resume ∷ []))
steady_task m ts us e owed (Evicted n) is = ran m (change_session (change_session m.sessions n (statuses_now m.moment)) n (closed_for ResourceEvicted)) m.fired (Evicted n) ts (Fire (KeyStatuses n) ∷ (Resume ∷ [])) (report_of n m.moment (session_at m.sessions n) ++ Closed n ResourceEvicted ∷ []) (e ∙ is) (λ q. refl) (free_two n) (quiet_closed n m.moment (session_at m.sessions n) ResourceEvicted) owed ((ts ++ Fire (KeyStatuses n) ∷ []) ++ Resume ∷ []) (append_assoc ts (Fire (KeyStatuses n) ∷ []) (Resume ∷ []))
steady_task m ts us e owed (Report n) is = go (is_closed (session_at m.sessions n)) where
  go : (b : Bool) → Steady m (if b then unmoved (record m { tasks = ts }) else update_statuses n (unmoved (record m { tasks = ts })))
  go true = ran m m.sessions m.fired (Report n) ts [] [] (e ∙ is) (λ q. refl) free_none (λ q. refl) owed ts (sym (append-nil ts))
  go false = ran m (change_session m.sessions n (statuses_now m.moment)) m.fired (Report n) ts (Fire (KeyStatuses n) ∷ (Resume ∷ [])) (report_of n m.moment (session_at m.sessions n)) (e ∙ is) (λ q. refl) (free_two n) (quiet_report n m.moment (session_at m.sessions n)) owed ((ts ++ Fire (KeyStatuses n) ∷ []) ++ Resume ∷ []) (append_assoc ts (Fire (KeyStatuses n) ∷ []) (Resume ∷ []))
steady_task m ts us e owed (Fire event) is = ran m m.sessions (m.fired ++ event ∷ []) (Fire event) ts [] (Fired event ∷ []) (e ∙ is) (λ q. refl) free_none (λ q. refl) owed ts (sym (append-nil ts))
steady_task m ts us e owed Resume is = ran m m.sessions m.fired Resume ts [] [] (e ∙ is) (λ q. refl) free_none (λ q. refl) owed ts (sym (append-nil ts))

steady_taken : (m : Machine) (us : List Task) → m.tasks ≡ us → IsOwed m → Steady m (take_task us m)
steady_taken m [] e owed = steady_same m owed
steady_taken m (task ∷ ts) e owed = steady_task m ts (task ∷ ts) e owed task refl

pub steady_front : (m : Machine) → IsOwed m → Steady m (after_task m)
steady_front m owed = steady_taken m m.tasks refl owed

pub steady_tick : (m : Machine) (moment : ℕ) → IsOwed m → Steady m (after_tick moment m)
steady_tick m moment owed = record {
  owed = λ q. omega (arith, owed q, tasks_more q m.tasks (reports_from m.moment moment 1 m.sessions), reports_owe q m.moment moment 1 m.sessions);
  balance = λ q. omega arith;
  more = refl;
}
