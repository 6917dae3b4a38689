-- What a task leaves: the keys that are held, and less to be done.
use Rattle.std.proofs.Common.{◌≡◌, ℕ, ◌+◌, ◌≤◌, Bool, true, false, List, [], ◌∷◌, ◌++◌, Option, refl, ◌∙◌, arith}
use Rattle.std.specs.Prelude.{if◌then◌else◌}
use Rattle.std.specs.List.{sum_by}
use Rattle.std.proofs.lemmas.List.Sums.{sum_by_push}
use Rattle.eme_types.specs.declared.call.Settled.{Settled}
use Rattle.eme_types.specs.declared.call.Event.{Event}
use Rattle.eme_types.specs.declared.call.Event.TheVariants.{Message, KeyStatuses}
use Rattle.eme_types.specs.declared.call.Reason.{Reason}
use Rattle.eme_types.specs.declared.call.Reason.TheVariants.{ClosedByApplication, ResourceEvicted}
use Rattle.clearkey_json.specs.Request.{request_text}
use Rattle.task_queue.specs.declared.work.Task.{Task}
use Rattle.task_queue.specs.declared.work.Task.TheVariants.{Reject, RequestDone, UpdateDone, CloseDone, RemoveDone, Evicted, Report, Fire, Resume}
use Rattle.key_sessions.specs.Machine.{SessionState, Machine, session_at, change_session}
use Rattle.key_sessions.specs.Keys.{held_in}
use Rattle.key_sessions.specs.Steps.{Done, unmoved, update_statuses, statuses_now, closed_for}
use Rattle.key_sessions.specs.Tasks.{next_id, made_callable, is_closed, run_task}
use Rattle.key_sessions.proofs.Held.{held_alike}
use Rattle.serial_play.specs.Served.{task_weight}
use Rattle.serial_play.proofs.Keyless.{NoKeys, Keyless, AllKeyless, keyless_stays, held_closed, keyless_tasks, keyless_both}

-- a change of the sessions by which no session gains or loses a usable key, nor gains any
record Leaves (moment : ℕ) (ss ss' : List SessionState) : Type 0 where
  held : (n : ℕ) (kid : List ℕ) → held_in moment ss' n kid ≡ held_in moment ss n kid
  keyless : (n : ℕ) → NoKeys (session_at ss n) → NoKeys (session_at ss' n)

called_so : (moment : ℕ) (ss : List SessionState) (n id : ℕ) → Leaves moment ss (change_session ss n (made_callable id))
called_so moment ss n id = record { held = λ k kid. held_alike moment ss n k (made_callable id) kid (λ s. refl); keyless = λ k none. keyless_stays ss n k (made_callable id) (λ s empty. empty) none }

told_so : (moment : ℕ) (ss : List SessionState) (n : ℕ) → Leaves moment ss (change_session ss n (statuses_now moment))
told_so moment ss n = record { held = λ k kid. held_alike moment ss n k (statuses_now moment) kid (λ s. refl); keyless = λ k none. keyless_stays ss n k (statuses_now moment) (λ s empty. empty) none }

closed_so : (moment : ℕ) (ss : List SessionState) (n : ℕ) (reason : Reason) → NoKeys (session_at ss n) → Leaves moment ss (change_session (change_session ss n (statuses_now moment)) n (closed_for reason))
closed_so moment ss n reason none =
    let told : Leaves moment ss (change_session ss n (statuses_now moment)) = told_so moment ss n in
    record {
      held = λ k kid. held_closed moment (change_session ss n (statuses_now moment)) n k reason kid (told.keyless n none) ∙ told.held k kid;
      keyless = λ k empty. keyless_stays (change_session ss n (statuses_now moment)) n k (closed_for reason) (λ s e. e) (told.keyless k empty);
    }

-- the jobs stay, and what is queued has less weight than before; where the task, if it closes a session, finds it without keys, no usable key is gained or lost, and other closers still find theirs so
pub record TaskLeaves (m : Machine) (task : Task) (d : Machine) : Type 0 where
  pub jobs : d.jobs ≡ m.jobs
  pub light : sum_by task_weight d.tasks + 1 ≤ task_weight task + sum_by task_weight m.tasks
  pub held : Keyless m.sessions task → (n : ℕ) (kid : List ℕ) → held_in d.moment d.sessions n kid ≡ held_in m.moment m.sessions n kid
  pub closers : Keyless m.sessions task → AllKeyless m.sessions m.tasks → AllKeyless d.sessions d.tasks

-- the task may leave these sessions
abbrev May : Machine → Task → List SessionState → Type 0
May m task ss = Keyless m.sessions task → Leaves m.moment m.sessions ss

-- with these sessions, promises and queued tasks
abbrev left : Machine → List SessionState → List (Option Settled) → List Task → Machine
left m ss ps ts = record m { sessions = ss; promises = ps; tasks = ts }

-- it queues nothing
ran : (m : Machine) (task : Task) (ps : List (Option Settled)) (fs : List Event) → 1 ≤ task_weight task → TaskLeaves m task (record m { promises = ps; fired = fs })
ran m task ps fs light = record { jobs = refl; light = omega (arith, light); held = λ none n kid. refl; closers = λ none all. all }

-- it queues an event
fired : (m : Machine) (task : Task) (ss : List SessionState) (ps : List (Option Settled)) (event : Event) → 2 ≤ task_weight task → May m task ss → TaskLeaves m task (left m ss ps (m.tasks ++ Fire event ∷ []))
fired m task ss ps event light leaves = record {
  jobs = refl;
  light = omega (arith, light, sum_by_push task_weight m.tasks (Fire event));
  held = λ none. (leaves none).held;
  closers = λ none all. keyless_both ss m.tasks (Fire event ∷ []) (keyless_tasks m.sessions ss (leaves none).keyless m.tasks all) (tt, tt);
}

-- it queues an event and a `Resume`
told : (m : Machine) (task : Task) (ss : List SessionState) (ps : List (Option Settled)) (event : Event) → 3 ≤ task_weight task → May m task ss → TaskLeaves m task (left m ss ps ((m.tasks ++ Fire event ∷ []) ++ Resume ∷ []))
told m task ss ps event light leaves = record {
  jobs = refl;
  light = omega (arith, light, sum_by_push task_weight m.tasks (Fire event), sum_by_push task_weight (m.tasks ++ Fire event ∷ []) Resume);
  held = λ none. (leaves none).held;
  closers = λ none all. keyless_both ss (m.tasks ++ Fire event ∷ []) (Resume ∷ []) (keyless_both ss m.tasks (Fire event ∷ []) (keyless_tasks m.sessions ss (leaves none).keyless m.tasks all) (tt, tt)) (tt, tt);
}

-- it tells the statuses of a session
reports : (m : Machine) (task : Task) (n : ℕ) (ps : List (Option Settled)) → 3 ≤ task_weight task → TaskLeaves m task (left m (change_session m.sessions n (statuses_now m.moment)) ps ((m.tasks ++ Fire (KeyStatuses n) ∷ []) ++ Resume ∷ []))
reports m task n ps light = told m task (change_session m.sessions n (statuses_now m.moment)) ps (KeyStatuses n) light (λ none. told_so m.moment m.sessions n)

-- a session with its last statuses, closed
abbrev ended : Machine → ℕ → Reason → List SessionState
ended m n reason = change_session (change_session m.sessions n (statuses_now m.moment)) n (closed_for reason)

pub task_leaves : (m : Machine) (task : Task) → TaskLeaves m task (run_task task m).machine
task_leaves m (Reject p error) = ran m (Reject p error) _ _ (omega arith)
task_leaves m (RequestDone n kids p) =
    fired m (RequestDone n kids p) (change_session m.sessions n (made_callable (next_id m))) _ (Message n (next_id m) (request_text kids)) (omega arith)
    (λ none. called_so m.moment m.sessions n (next_id m))
task_leaves m (UpdateDone n true p) = reports m (UpdateDone n true p) n _ (omega arith)
task_leaves m (UpdateDone n false p) = ran m (UpdateDone n false p) _ _ (omega arith)
task_leaves m (CloseDone n p) = told m (CloseDone n p) (ended m n ClosedByApplication) _ (KeyStatuses n) (omega arith) (closed_so m.moment m.sessions n ClosedByApplication)
task_leaves m (RemoveDone n p) = reports m (RemoveDone n p) n _ (omega arith)
task_leaves m (Evicted n) = told m (Evicted n) (ended m n ResourceEvicted) _ (KeyStatuses n) (omega arith) (closed_so m.moment m.sessions n ResourceEvicted)
task_leaves m (Report n) = go (is_closed (session_at m.sessions n)) where
  go : (b : Bool) → TaskLeaves m (Report n) (let d : Done = if b then unmoved m else update_statuses n (unmoved m) in d).machine
  go true = ran m (Report n) _ _ (omega arith)
  go false = reports m (Report n) n _ (omega arith)
task_leaves m (Fire event) = ran m (Fire event) _ _ (omega arith)
task_leaves m Resume = ran m Resume _ _ (omega arith)
