-- Once the job of a line is done, what is queued gives and ends no key.
use Rattle.std.proofs.Common.{zero, suc, ◌≡◌, ℕ, ◌+◌, ◌⊎◌, inl, inr, Bool, true, false, List, [], ◌∷◌, ◌++◌, map, length, Option, Some, None, Result, Ok, Err, refl, ap, sym, ◌∙◌}
use Rattle.std.specs.Prelude.{if◌then◌else◌, slice_get, nat_lt, codes}
use Rattle.std.specs.Str.{bytes_eq}
use Rattle.eme_types.specs.declared.limits.TheConstants.{MAX_SESSIONS}
use Rattle.eme_types.specs.declared.kid.KeyBytes.{KeyBytes}
use Rattle.eme_types.specs.declared.call.Settled.{Settled}
use Rattle.eme_types.specs.declared.call.Settled.TheVariants.{Resolved, ResolvedFalse, Rejected}
use Rattle.eme_types.specs.declared.call.DomError.{DomError}
use Rattle.eme_types.specs.declared.call.DomError.TheVariants.{InvalidState, NotSupported, Quota, UnknownLabel}
use Rattle.eme_types.specs.declared.call.AppCall.{AppCall}
use Rattle.eme_types.specs.declared.call.AppCall.TheVariants.{Access, Create, Request, Update, Close, Remove, Certificate}
use Rattle.eme_types.specs.declared.media.Fragment.{Fragment}
use Rattle.eme_types.specs.declared.media.InitKind.{InitKind}
use Rattle.key_system_access.specs.Configs.{configs_of}
use Rattle.task_queue.specs.declared.work.Job.{Job}
use Rattle.task_queue.specs.declared.work.Job.TheVariants.{Request as RequestJob, Update as UpdateJob, Close as CloseJob, Remove as RemoveJob}
use Rattle.task_queue.specs.declared.work.Task.{Task}
use Rattle.task_queue.specs.declared.work.Task.TheVariants.{Fire}
use Rattle.eme_types.specs.declared.call.Event.TheVariants.{WaitingForKey}
use Rattle.key_sessions.specs.Machine.{SessionState, Machine, new_session, change_session}
use Rattle.key_sessions.specs.Keys.{usable_key, key_of, held_in, held_key, or_else, pick_from, pick}
use Rattle.key_sessions.specs.Steps.{Done, queue_task}
use Rattle.key_sessions.specs.Calls.{access_result, answer_now, answer_later, create_call, add_session, find_label, is_ending, request_on, request_started, request_kind, start_request, update_on, update_or, or_empty, state_fault, close_on, start_closing, remove_on, remove_or, after_call}
use Rattle.key_sessions.specs.Jobs.{take_job, after_job}
use Rattle.key_sessions.specs.Tasks.{reports_from, take_task, after_task, after_tick}
use Rattle.cdm_state.specs.After.{fire_encrypted}
use Rattle.key_sessions.proofs.Held.{held_alike}
use Rattle.serial_play.specs.Served.{IsIdle, front_step, next_step, served}
use Rattle.serial_play.specs.Serial.{told_of}
use Rattle.serial_play.proofs.Keyless.{AllKeyless, ClosersKeyless, keyless_both, keyless_none, keyless_reports, keyless_inits}
use Rattle.serial_play.proofs.JobSteps.{job_leaves}
use Rattle.serial_play.proofs.TaskSteps.{TaskLeaves, task_leaves}
use Rattle.serial_play.proofs.ServedAll.{served_keeps}

-- ---- closers find their sessions without keys

job_closers : (m : Machine) (js : List Job) → m.tasks ≡ [] → ClosersKeyless (take_job js m)
job_closers m [] none = keyless_none m none
job_closers m (job ∷ js) none = (job_leaves (record m { jobs = js }) job).closers none

pub keyless_job : (m : Machine) → m.tasks ≡ [] → ClosersKeyless (after_job m).machine
keyless_job m none = job_closers m m.jobs none

pub keyless_tick : (m : Machine) (moment : ℕ) → ClosersKeyless m → ClosersKeyless (after_tick moment m).machine
keyless_tick m moment all = keyless_both m.sessions m.tasks (reports_from m.moment moment 1 m.sessions) all (keyless_reports m.sessions m.moment moment 1 m.sessions)

pub keyless_told_of : (m : Machine) (given : Option Fragment) → ClosersKeyless m → ClosersKeyless (told_of given m)
keyless_told_of m None all = all
keyless_told_of m (Some f) all = keyless_both m.sessions m.tasks (map fire_encrypted f.inits) all (keyless_inits m.sessions f.inits)

pub keyless_wait : (m : Machine) (track : ℕ) → ClosersKeyless m → ClosersKeyless (queue_task (Fire (WaitingForKey track)) m)
keyless_wait m track all = keyless_both m.sessions m.tasks (Fire (WaitingForKey track) ∷ []) all (tt, tt)

-- ---- a task

-- no usable key is gained or lost, closers still find their sessions without keys, and the jobs stay
pub record KeepsKeys (m d : Machine) : Type 0 where
  pub jobs : d.jobs ≡ m.jobs
  pub held : (n : ℕ) (kid : List ℕ) → held_key d n kid ≡ held_key m n kid
  pub closers : ClosersKeyless d

front_keeps : (m : Machine) (ts : List Task) → m.tasks ≡ ts → AllKeyless m.sessions ts → KeepsKeys m (take_task ts m).machine
front_keeps m [] is all = record { jobs = refl; held = λ n kid. refl; closers = keyless_none m is }
front_keeps m (task ∷ ts) is all =
    let leaves : TaskLeaves (record m { tasks = ts }) task (take_task (task ∷ ts) m).machine = task_leaves (record m { tasks = ts }) task in
    record { jobs = leaves.jobs; held = leaves.held all.0; closers = leaves.closers all.0 all.1 }

pub task_keeps : (m : Machine) → ClosersKeyless m → KeepsKeys m (after_task m).machine
task_keeps m all = front_keeps m m.tasks refl all

-- ---- all that is queued

step_keeps : (m : Machine) (js : List Job) → m.jobs ≡ js → js ≡ [] → ClosersKeyless m → KeepsKeys m (front_step js m).machine
step_keeps m [] is none all = task_keeps m all
step_keeps m (job ∷ js) is none all = absurd cc

next_keeps : (m k : Machine) → m.jobs ≡ [] → KeepsKeys m k → KeepsKeys m (next_step k).machine
next_keeps m k none keeps =
    let next : KeepsKeys k (next_step k).machine = step_keeps k k.jobs refl (keeps.jobs ∙ none) keeps.closers in
    record { jobs = next.jobs ∙ keeps.jobs; held = λ n kid. next.held n kid ∙ keeps.held n kid; closers = next.closers }

pub served_keeps_keys : (d : Done) → d.machine.jobs ≡ [] → ClosersKeyless d.machine → KeepsKeys d.machine (served d).machine
served_keeps_keys d none all = served_keeps (KeepsKeys d.machine) (λ k keeps. next_keeps d.machine k none keeps) d (record { jobs = refl; held = λ n kid. refl; closers = all })

pub served_held : (d : Done) (n : ℕ) (kid : List ℕ) → d.machine.jobs ≡ [] → ClosersKeyless d.machine → held_key (served d).machine n kid ≡ held_key d.machine n kid
served_held d n kid none all = (served_keeps_keys d none all).held n kid

-- ---- a call

-- the tasks stay, a job is queued at most, and no usable key is gained or lost
pub record CallLeaves (m d : Machine) : Type 0 where
  pub tasks : d.tasks ≡ m.tasks
  pub jobs : (d.jobs ≡ m.jobs) ⊎ ((job : Job) × (d.jobs ≡ m.jobs ++ job ∷ []))
  pub held : (n : ℕ) (kid : List ℕ) → held_key d n kid ≡ held_key m n kid

-- the sessions hold the same usable keys
abbrev SameHeld : ℕ → List SessionState → List SessionState → Type 0
SameHeld moment ss ss' = (n : ℕ) (kid : List ℕ) → held_in moment ss' n kid ≡ held_in moment ss n kid

as_were : (m : Machine) → SameHeld m.moment m.sessions m.sessions
as_were m n kid = refl

leaves_now : (m : Machine) (ss : List SessionState) (how : Settled) → SameHeld m.moment m.sessions ss → CallLeaves m (answer_now how (record m { sessions = ss })).machine
leaves_now m ss how same = record { tasks = refl; jobs = inl refl; held = same }

leaves_later : (m : Machine) (ss : List SessionState) (job : ℕ → Job) → SameHeld m.moment m.sessions ss → CallLeaves m (answer_later job (record m { sessions = ss })).machine
leaves_later m ss job same = record { tasks = refl; jobs = inr (job (length m.promises + 1), refl); held = same }

leaves_choice : (m : Machine) (b : Bool) (x y : Done) → CallLeaves m x.machine → CallLeaves m y.machine → CallLeaves m (if b then x else y).machine
leaves_choice m true x y p q = p
leaves_choice m false x y p q = q

new_held : (moment : ℕ) (ss : List SessionState) (label : List ℕ) (i : ℕ) (kid : List ℕ) → key_of moment (slice_get (ss ++ new_session label ∷ []) i) kid ≡ key_of moment (slice_get ss i) kid
new_held moment [] label zero kid = refl
new_held moment [] label (suc i) kid = refl
new_held moment (s ∷ ss) label zero kid = refl
new_held moment (s ∷ ss) label (suc i) kid = new_held moment ss label i kid

started_held : (moment : ℕ) (ss : List SessionState) (n : ℕ) → SameHeld moment ss (change_session ss n start_request)
started_held moment ss n k kid = held_alike moment ss n k start_request kid (λ s. refl)

closing_held : (moment : ℕ) (ss : List SessionState) (n : ℕ) → SameHeld moment ss (change_session ss n start_closing)
closing_held moment ss n k kid = held_alike moment ss n k start_closing kid (λ s. refl)

-- a new session holds no key
added_held : (moment : ℕ) (ss : List SessionState) (label : List ℕ) → SameHeld moment ss (ss ++ new_session label ∷ [])
added_held moment ss label zero kid = refl
added_held moment ss label (suc i) kid = new_held moment ss label i kid

leaves_create : (m : Machine) (label kind : List ℕ) → CallLeaves m (create_call label kind m).machine
leaves_create m label kind =
    leaves_choice m (bytes_eq kind (codes "temporary")) _ _
    (leaves_choice m (nat_lt (length m.sessions) MAX_SESSIONS) _ _ (leaves_now m (add_session label m).sessions Resolved (added_held m.moment m.sessions label)) (leaves_now m m.sessions (Rejected Quota) (as_were m)))
    (leaves_now m m.sessions (Rejected NotSupported) (as_were m))

leaves_started : (m : Machine) (ss : List SessionState) (n : ℕ) (init : List ℕ) (r : Result InitKind DomError) → SameHeld m.moment m.sessions ss → CallLeaves m (request_started n init r (record m { sessions = ss })).machine
leaves_started m ss n init (Err error) same = leaves_now m ss (Rejected error) same
leaves_started m ss n init (Ok kind) same = leaves_later m ss (λ p. RequestJob n kind init p) same

leaves_request : (m : Machine) (kind init : List ℕ) (o : Option (ℕ × SessionState)) → CallLeaves m (request_on kind init m o).machine
leaves_request m kind init None = leaves_now m m.sessions (Rejected UnknownLabel) (as_were m)
leaves_request m kind init (Some (n, s)) =
    leaves_choice m (is_ending s) _ _ (leaves_now m m.sessions (Rejected InvalidState) (as_were m))
    (leaves_choice m s.uninitialized _ _ (leaves_started m (change_session m.sessions n start_request) n init (request_kind kind init) (started_held m.moment m.sessions n)) (leaves_now m m.sessions (Rejected InvalidState) (as_were m)))

leaves_update_or : (m : Machine) (n : ℕ) (response : List ℕ) (o : Option DomError) → CallLeaves m (update_or n response o m).machine
leaves_update_or m n response (Some error) = leaves_now m m.sessions (Rejected error) (as_were m)
leaves_update_or m n response None = leaves_later m m.sessions (λ p. UpdateJob n response p) (as_were m)

leaves_update : (m : Machine) (response : List ℕ) (o : Option (ℕ × SessionState)) → CallLeaves m (update_on response m o).machine
leaves_update m response None = leaves_now m m.sessions (Rejected UnknownLabel) (as_were m)
leaves_update m response (Some (n, s)) = leaves_update_or m n response (or_empty (state_fault s) response)

leaves_close : (m : Machine) (o : Option (ℕ × SessionState)) → CallLeaves m (close_on m o).machine
leaves_close m None = leaves_now m m.sessions (Rejected UnknownLabel) (as_were m)
leaves_close m (Some (n, s)) =
    leaves_choice m (is_ending s) _ _ (leaves_now m m.sessions Resolved (as_were m))
    (leaves_choice m s.callable _ _ (leaves_later m (change_session m.sessions n start_closing) (λ p. CloseJob n p) (closing_held m.moment m.sessions n)) (leaves_now m m.sessions (Rejected InvalidState) (as_were m)))

leaves_remove_or : (m : Machine) (n : ℕ) (o : Option DomError) → CallLeaves m (remove_or n o m).machine
leaves_remove_or m n (Some error) = leaves_now m m.sessions (Rejected error) (as_were m)
leaves_remove_or m n None = leaves_later m m.sessions (λ p. RemoveJob n p) (as_were m)

leaves_remove : (m : Machine) (o : Option (ℕ × SessionState)) → CallLeaves m (remove_on m o).machine
leaves_remove m None = leaves_now m m.sessions (Rejected UnknownLabel) (as_were m)
leaves_remove m (Some (n, s)) = leaves_remove_or m n (state_fault s)

pub call_leaves : (m : Machine) (call : AppCall) → CallLeaves m (after_call call m).machine
call_leaves m (Access name list) = leaves_now m m.sessions (access_result name (configs_of list)) (as_were m)
call_leaves m (Create label kind) = leaves_create m label kind
call_leaves m (Request label kind init) = leaves_request m kind init (find_label m label)
call_leaves m (Update label response) = leaves_update m response (find_label m label)
call_leaves m (Close label) = leaves_close m (find_label m label)
call_leaves m (Remove label) = leaves_remove m (find_label m label)
call_leaves m (Certificate cert) = leaves_now m m.sessions ResolvedFalse (as_were m)

-- what a call leaves where nothing was left to do: one job at most, and the usable keys
pub record CallShape (m d : Machine) : Type 0 where
  pub tasks : d.tasks ≡ []
  pub jobs : (d.jobs ≡ []) ⊎ ((job : Job) × (d.jobs ≡ job ∷ []))
  pub held : (n : ℕ) (kid : List ℕ) → held_key d n kid ≡ held_key m n kid

pub call_shape : (m : Machine) (call : AppCall) → IsIdle m → CallShape m (after_call call m).machine
call_shape m call idle = record {
  tasks = (call_leaves m call).tasks ∙ idle.tasks;
  jobs = elim (call_leaves m call).jobs [
    | inl none ↦ inl (none ∙ idle.jobs)
    | inr one ↦ inr (one.0, one.1 ∙ ap (λ (js : List Job). js ++ one.0 ∷ []) idle.jobs)
  ];
  held = (call_leaves m call).held;
}

-- ---- the picks

none_picked : (b n : ℕ) (ss : List SessionState) (kid : List ℕ) → ((i : ℕ) → None ≡ key_of b (slice_get ss i) kid) → None ≡ pick_from b n ss kid
none_picked b n [] kid same = refl
none_picked b n (s ∷ ss) kid same = none_picked b (n + 1) ss kid (λ i. same (suc i)) ∙ ap (λ (o : Option KeyBytes). or_else o n (pick_from b (n + 1) ss kid)) (same zero)

picked_alike : (a b n : ℕ) (xs ys : List SessionState) (kid : List ℕ) → ((i : ℕ) → key_of a (slice_get xs i) kid ≡ key_of b (slice_get ys i) kid) → pick_from a n xs kid ≡ pick_from b n ys kid
picked_alike a b n [] ys kid same = none_picked b n ys kid same
picked_alike a b n (x ∷ xs) [] kid same = sym (none_picked a n (x ∷ xs) kid (λ i. sym (same i)))
picked_alike a b n (x ∷ xs) (y ∷ ys) kid same =
    ap (λ (o : Option KeyBytes). or_else o n (pick_from a (n + 1) xs kid)) (same zero) ∙ ap (λ (r : Option (ℕ × KeyBytes)). or_else (usable_key b y kid) n r) (picked_alike a b (n + 1) xs ys kid (λ i. same (suc i)))

-- machines whose sessions hold the same usable keys have the same picks
pub pick_alike : (m d : Machine) → ((n : ℕ) (kid : List ℕ) → held_key m n kid ≡ held_key d n kid) → (kid : List ℕ) → pick m kid ≡ pick d kid
pick_alike m d same kid = picked_alike m.moment d.moment 1 m.sessions d.sessions kid (λ i. same (suc i) kid)

pub call_picks : (m : Machine) (call : AppCall) (kid : List ℕ) → pick (after_call call m).machine kid ≡ pick m kid
call_picks m call kid = pick_alike (after_call call m).machine m (call_leaves m call).held kid
