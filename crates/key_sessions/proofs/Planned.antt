-- Planned steps are the steps.
use Rattle.std.proofs.Common.{◌≡◌, ◌∙◌, ℕ, ◌+◌, ◌≤◌, Bool, false, List, [], ◌∷◌, ◌++◌, length, Some, None, Ok, refl, ap, sym, subst, arith, append_assoc}
use Rattle.std.specs.Prelude.{nat_lt, Option}
use Rattle.std.proofs.lemmas.Bool.{le-ltb}
use Rattle.std.proofs.lemmas.List.{append-nil}
use Rattle.eme_types.specs.declared.limits.TheConstants.{MAX_SESSION_KIDS}
use Rattle.eme_types.specs.declared.call.Settled.{Settled}
use Rattle.eme_types.specs.declared.call.Event.{Event}
use Rattle.eme_types.specs.declared.call.AppCall.{AppCall}
use Rattle.eme_types.specs.declared.call.Effect.{Effect}
use Rattle.task_queue.specs.declared.work.Job.{Job}
use Rattle.task_queue.specs.Pending.{IsPending}
use Rattle.cdm_world.specs.Lost.{AreLost}
use Rattle.key_sessions.specs.declared.call_plan.Answer.{Answer}
use Rattle.key_sessions.specs.declared.call_plan.Answer.TheVariants.{Now, Later}
use Rattle.key_sessions.specs.declared.call_plan.CallPlan.{CallPlan}
use Rattle.key_sessions.specs.declared.change.Change.{Change}
use Rattle.key_sessions.specs.declared.job_plan.JobPlan.{JobPlan}
use Rattle.clearkey_json.specs.declared.key_set.KeySet.{KeySet}
use Rattle.task_queue.specs.declared.work.Task.{Task}
use Rattle.task_queue.specs.declared.work.Task.TheVariants.{Reject, RequestDone, UpdateDone, CloseDone, RemoveDone, Evicted, Report, Fire, Resume}
use Rattle.key_sessions.specs.declared.task_plan.TaskPlan.{TaskPlan}
use Rattle.key_sessions.specs.declared.change.Change.TheVariants.{Keys}
use Rattle.key_statuses.specs.TableState.{TableState}
use Rattle.key_statuses.specs.Table.{grant_all}
use Rattle.key_statuses.specs.Statuses.{is_changed, held_status}
use Rattle.key_sessions.specs.Machine.{SessionState, Machine, session_at, status_at, change_session}
use Rattle.key_sessions.specs.Keys.{held_in, held_key}
use Rattle.key_sessions.specs.Steps.{Done, unmoved}
use Rattle.key_sessions.specs.Calls.{find_label, after_call}
use Rattle.key_sessions.specs.Jobs.{update_job, with_set, after_job}
use Rattle.key_sessions.specs.Evict.{evict_session, open_number, after_evict}
use Rattle.key_sessions.specs.Tasks.{after_task, reports_from}
use Rattle.key_sessions.specs.Owed.{task_owes, jobs_owe, tasks_owe, pending, IsOwed, one_if}
use Rattle.key_sessions.specs.Queued.{AreThere}
use Rattle.key_sessions.specs.SessionsState.{SessionsState, HasStepped}
use Rattle.key_sessions.specs.Kept.{KeptAs}
use Rattle.key_sessions.specs.Holders.{holders_from, IsIndexOf}
use Rattle.key_sessions.specs.Losses.{LosesBy}
use Rattle.key_sessions.specs.Plans.{IsCallPlan, created_in, answered, told, promises_by, jobs_by, IsJobPlan, queued_by, settled_by, fired_by, settled_of, MaySettle, IsTaskPlan}
use Rattle.key_sessions.specs.Changes.{changed, changed_in}
use Rattle.key_sessions.proofs.SessionLists.{change_alike, settle_last, length-change_session}
use Rattle.key_sessions.proofs.LostKeys.{lost_none}
use Rattle.key_sessions.proofs.HeldBy.{holders_task}
use Rattle.key_sessions.proofs.Owed.{one_same, pending_some}
use Rattle.key_sessions.proofs.Evictions.{evict_open}
use Rattle.key_sessions.proofs.There.{there_job, there_evict, there_task, there_tick}
use Rattle.key_sessions.proofs.OwedSteps.{called, steady_job, steady_evict, steady_front, steady_tick}

pub grant_as : (m : Machine) (s : SessionState) (n p moment : ℕ) (set : KeySet) (t : TableState) (ch : Bool) → session_at m.sessions n ≡ Some s → m.moment ≡ moment → t.keys ≡ grant_all s.keys set.keys → length t.keys ≤ MAX_SESSION_KIDS → ch ≡ is_changed s.keys (status_at moment s) t.keys (held_status set.from set.expires moment) → (let r : Machine = record m { sessions = change_session m.sessions n (changed (Keys t set.from set.expires)); tasks = m.tasks ++ UpdateDone n ch p ∷ [] } in r) ≡ update_job n p (Ok set) m
grant_as m s n p moment set t ch at mo is few chs =
    let same : change_session m.sessions n (changed (Keys t set.from set.expires)) ≡ change_session m.sessions n (with_set set) = change_alike m.sessions n s (changed (Keys t set.from set.expires)) (with_set set) at (rw is refl) in
    let short : nat_lt MAX_SESSION_KIDS (length (grant_all s.keys set.keys)) ≡ false = le-ltb MAX_SESSION_KIDS (length (grant_all s.keys set.keys)) (let l : length t.keys ≡ length (grant_all s.keys set.keys) = ap length is in omega (arith, l, few)) in
    rw (same, at, short, chs, is, mo) refl

queued_append : (ts us : List Task) → queued_by ts us ≡ ts ++ us
queued_append ts [] = sym (append-nil ts)
queued_append ts (u ∷ us) = queued_append (ts ++ u ∷ []) us ∙ append_assoc ts (u ∷ []) us

-- the state and the effects after the front task
pub task_state : (m : Machine) (task : Task) (ts : List Task) (plan : TaskPlan) (ss : List SessionState) (us : List Task) (ps : List (Option Settled)) (fs : List Event) → m.tasks ≡ task ∷ ts → IsTaskPlan task m.sessions m.moment plan → ss ≡ changed_in m.sessions plan.session plan.change → us ≡ ts ++ plan.queued.items → ps ≡ settled_by m.promises plan.settled → fs ≡ fired_by m.fired plan.fired → (let d : Done = record { machine = record m { sessions = ss; tasks = us; promises = ps; fired = fs }; effects = plan.effects } in d) ≡ after_task m
task_state m task ts plan ss us ps fs e is sis uis pis fis =
    let q : us ≡ queued_by ts plan.queued.items = uis ∙ sym (queued_append ts plan.queued.items) in
    rw (e, sis, q, pis, fis) (is (record m { tasks = ts }) refl refl)

-- the promise that the front task settles is pending
pub may_settle : (m : Machine) (task : Task) (ts : List Task) (settled : Option (ℕ × Settled)) → m.tasks ≡ task ∷ ts → settled ≡ settled_of task → IsOwed m → MaySettle m.promises settled
may_settle m task ts settled e is owed = rw is (go task e) where
  one : (p : ℕ) (t : Task) → m.tasks ≡ t ∷ ts → task_owes p t ≡ one_if p p → IsPending m.promises p
  one p t e names =
      let before : jobs_owe p m.jobs + tasks_owe p (t ∷ ts) ≡ pending m.promises p = rw e at (owed p) in
      pending_some m.promises p (jobs_owe p m.jobs + tasks_owe p (t ∷ ts)) before (omega (arith, names, one_same p))

  go : (t : Task) → m.tasks ≡ t ∷ ts → MaySettle m.promises (settled_of t)
  go (Reject p error) e = one p (Reject p error) e refl
  go (RequestDone n kids p) e = one p (RequestDone n kids p) e refl
  go (UpdateDone n changed p) e = one p (UpdateDone n changed p) e refl
  go (CloseDone n p) e = one p (CloseDone n p) e refl
  go (RemoveDone n p) e = one p (RemoveDone n p) e refl
  go (Evicted n) e = tt
  go (Report n) e = tt
  go (Fire event) e = tt
  go Resume e = tt

-- the promise of a call is answered
answer_as : (m : Machine) (ss : List SessionState) (a : Answer) → (let d : Done = record { machine = record m { sessions = ss; promises = promises_by (m.promises ++ None ∷ []) (length m.promises + 1) a; jobs = jobs_by m.jobs a }; effects = told (length m.promises + 1) a } in d) ≡ answered a (record m { sessions = ss })
answer_as m ss (Now how) = rw (settle_last m.promises how) refl
answer_as m ss (Later job) = refl

-- the state and the effects after a call
pub call_state : (m : Machine) (call : AppCall) (plan : CallPlan) (ss : List SessionState) (ps : List (Option Settled)) (js : List Job) (es : List Effect) → IsCallPlan call m.sessions (length m.promises + 1) plan → ss ≡ changed_in (created_in m.sessions plan.created) plan.session plan.change → ps ≡ promises_by (m.promises ++ None ∷ []) (length m.promises + 1) plan.answer → js ≡ jobs_by m.jobs plan.answer → es ≡ told (length m.promises + 1) plan.answer → (let d : Done = record { machine = record m { sessions = ss; promises = ps; jobs = js }; effects = es } in d) ≡ after_call call m
call_state m call plan ss ps js es is sis pis jis eis = rw (sis, pis, jis, eis) (answer_as m (changed_in (created_in m.sessions plan.created) plan.session plan.change) plan.answer ∙ is m refl refl)

-- the state after the front job
pub job_state : (m : Machine) (job : Job) (js : List Job) (plan : JobPlan) (ss : List SessionState) (us : List Task) → m.jobs ≡ job ∷ js → IsJobPlan job m.sessions m.moment plan → ss ≡ changed_in m.sessions plan.session plan.change → us ≡ m.tasks ++ plan.task ∷ [] → (let d : Done = record { machine = record m { sessions = ss; jobs = js; tasks = us }; effects = [] } in d) ≡ after_job m
job_state m job js plan ss us e is sis uis = rw (e, sis, uis) (ap (λ (x : Machine). unmoved x) (is (record m { jobs = js }) refl refl))

-- the state after an eviction that ends a session
pub evict_state : (m : Machine) (label : List ℕ) (n : ℕ) (ss : List SessionState) (us : List Task) → open_number (find_label m label) ≡ Some n → ss ≡ change_session m.sessions n evict_session → us ≡ m.tasks ++ Evicted n ∷ [] → (let d : Done = record { machine = record m { sessions = ss; tasks = us }; effects = [] } in d) ≡ after_evict label m
evict_state m label n ss us e sis uis = rw (sis, uis) (ap (λ (x : Machine). unmoved x) (sym (evict_open m (find_label m label) n e)))

-- what a step keeps
length_changed : (ss : List SessionState) (n : ℕ) (change : Option Change) → length (changed_in ss n change) ≡ length ss
length_changed ss n None = refl
length_changed ss n (Some change) = length-change_session ss n (changed change)

pub kept_call : (m m' : Machine) (call : AppCall) (es : List Effect) (index : List (List ℕ × List ℕ)) (room spare : ℕ) → KeptAs m index room spare → (let d : Done = record { machine = m'; effects = es } in d) ≡ after_call call m → KeptAs m' index room spare
kept_call m m' call es index room spare kept e =
    let c = called m call in
    let same : m' ≡ (after_call call m).machine = ap (λ (d : Done). d.machine) e in
    rw same (record { few = c.few kept.few; owed = c.asked.owed kept.owed; there = c.there kept.there; reserved = kept.reserved; indexed = λ kid. kept.indexed kid ∙ sym (c.holders kid) })

kept_by : (m m' : Machine) (n : ℕ) (change : Option Change) (index index' : List (List ℕ × List ℕ)) (room spare spare' : ℕ) → KeptAs m index room spare → m'.sessions ≡ changed_in m.sessions n change → IsOwed m' → AreThere m' → room ≤ spare' → IsIndexOf index' m'.sessions → KeptAs m' index' room spare'
kept_by m m' n change index index' room spare spare' kept sis owed there le is = record { few = rw (sis, length_changed m.sessions n change) kept.few; owed = owed; there = there; reserved = le; indexed = is }

pub kept_job : (m m' : Machine) (n : ℕ) (change : Option Change) (index index' : List (List ℕ × List ℕ)) (room spare spare' : ℕ) → KeptAs m index room spare → m'.sessions ≡ changed_in m.sessions n change → (let d : Done = record { machine = m'; effects = [] } in d) ≡ after_job m → room ≤ spare' → IsIndexOf index' (changed_in m.sessions n change) → KeptAs m' index' room spare'
kept_job m m' n change index index' room spare spare' kept sis e le is =
    let same : m' ≡ (after_job m).machine = ap (λ (d : Done). d.machine) e in
    kept_by m m' n change index index' room spare spare' kept sis (subst IsOwed (sym same) (steady_job m kept.owed).owed) (subst AreThere (sym same) (there_job m kept.there)) le (rw sis is)

pub kept_evict : (m m' : Machine) (label : List ℕ) (n : ℕ) (change : Option Change) (index index' : List (List ℕ × List ℕ)) (room spare spare' : ℕ) → KeptAs m index room spare → m'.sessions ≡ changed_in m.sessions n change → (let d : Done = record { machine = m'; effects = [] } in d) ≡ after_evict label m → room ≤ spare' → IsIndexOf index' (changed_in m.sessions n change) → KeptAs m' index' room spare'
kept_evict m m' label n change index index' room spare spare' kept sis e le is =
    let same : m' ≡ (after_evict label m).machine = ap (λ (d : Done). d.machine) e in
    kept_by m m' n change index index' room spare spare' kept sis (subst IsOwed (sym same) (steady_evict m label kept.owed).owed) (subst AreThere (sym same) (there_evict m label kept.there)) le (rw sis is)

pub kept_task : (m m' : Machine) (n : ℕ) (change : Option Change) (es : List Effect) (index : List (List ℕ × List ℕ)) (room spare spare' : ℕ) → KeptAs m index room spare → m'.sessions ≡ changed_in m.sessions n change → (let d : Done = record { machine = m'; effects = es } in d) ≡ after_task m → room ≤ spare' → KeptAs m' index room spare'
kept_task m m' n change es index room spare spare' kept sis e le =
    let same : m' ≡ (after_task m).machine = ap (λ (d : Done). d.machine) e in
    kept_by m m' n change index index room spare spare' kept sis (subst IsOwed (sym same) (steady_front m kept.owed).owed) (subst AreThere (sym same) (there_task m kept.there)) le (λ kid. kept.indexed kid ∙ sym (ap (λ (x : Machine). holders_from 1 x.sessions kid) same ∙ holders_task m kid))

pub kept_tick : (m : Machine) (moment : ℕ) (us : List Task) (index : List (List ℕ × List ℕ)) (room spare spare' : ℕ) → KeptAs m index room spare → us ≡ m.tasks ++ reports_from m.moment moment 1 m.sessions → room ≤ spare' → KeptAs (record m { moment = moment; tasks = us }) index room spare'
kept_tick m moment us index room spare spare' kept e le = record { few = kept.few; owed = rw e (steady_tick m moment kept.owed).owed; there = rw e (there_tick m moment kept.there); reserved = le; indexed = kept.indexed }

-- what a step tells
pub stepped_by : (old : SessionsState) (d : Done) (m' : Machine) (es : List Effect) (list : List (ℕ × List ℕ)) → (let r : Done = record { machine = m'; effects = es } in r) ≡ d → AreLost (held_key old.machine) (held_key m') list → HasStepped old (record { machine = m'; effects = es; lost = list; room = old.room }) d
stepped_by old d m' es list e lost = record {
  machine = ap (λ (x : Done). x.machine) e;
  effects = ap (λ (x : Done). x.effects) e;
  lost = subst (λ (x : Done). AreLost (held_key old.machine) (held_key x.machine) list) e lost;
  room = refl;
}

pub stepped_call : (old : SessionsState) (call : AppCall) (m' : Machine) (es : List Effect) → (let r : Done = record { machine = m'; effects = es } in r) ≡ after_call call old.machine → HasStepped old (record { machine = m'; effects = es; lost = []; room = old.room }) (after_call call old.machine)
stepped_call old call m' es e = record {
  machine = ap (λ (x : Done). x.machine) e;
  effects = ap (λ (x : Done). x.effects) e;
  lost = lost_none (held_key old.machine) (held_key (after_call call old.machine).machine) (called old.machine call).held;
  room = refl;
}

-- the keys that a change of one session ends, in a machine
pub lost_by_change : (m : Machine) (ss : List SessionState) (n : ℕ) (change : Option Change) (list : List (ℕ × List ℕ)) → ss ≡ changed_in m.sessions n change → LosesBy n change m.sessions m.moment list → AreLost (held_key m) (held_in m.moment ss) list
lost_by_change m ss n change list sis lost = rw sis lost
