-- A task other than to fire `waitingforkey` does not depend on such events; and to fire one changes nothing else.
use Rattle.std.proofs.Common.{◌≡◌, ℕ, Bool, true, false, List, [], ◌∷◌, ◌++◌, Option, Some, None, refl, ap, sym, subst, ◌∙◌}
use Rattle.std.specs.Prelude.{if◌then◌else◌}
use Rattle.std.specs.List.{filter}
use Rattle.std.proofs.lemmas.List.{append-nil}
use Rattle.std.proofs.lemmas.List.Elements.{filter-append}
use Rattle.eme_types.specs.declared.call.Settled.{Settled}
use Rattle.eme_types.specs.declared.call.Settled.TheVariants.{Resolved, Rejected}
use Rattle.eme_types.specs.declared.call.Event.{Event}
use Rattle.eme_types.specs.declared.call.Event.TheVariants.{Message, KeyStatuses, Encrypted, WaitingForKey}
use Rattle.eme_types.specs.declared.call.Reason.{Reason}
use Rattle.eme_types.specs.declared.call.Reason.TheVariants.{ClosedByApplication, ResourceEvicted}
use Rattle.eme_types.specs.declared.call.Effect.{Effect}
use Rattle.eme_types.specs.declared.call.Effect.TheVariants.{Closed, Promise, Fired}
use Rattle.clearkey_json.specs.Request.{request_text}
use Rattle.task_queue.specs.Pending.{settle_in}
use Rattle.task_queue.specs.declared.work.Task.{Task}
use Rattle.task_queue.specs.declared.work.Task.TheVariants.{Reject, RequestDone, UpdateDone, CloseDone, RemoveDone, Evicted, Report, Fire, Resume}
use Rattle.key_sessions.specs.Machine.{SessionState, Machine, session_at}
use Rattle.key_sessions.specs.Steps.{Done, unmoved, queue_task, with_session, settle, fire, statuses_now, report_of, report, and_queue, update_statuses, closed_for, close_session}
use Rattle.key_sessions.specs.Tasks.{next_id, made_callable, request_done, is_closed, run_task, take_task, after_task}
use Rattle.serial_play.specs.Served.{is_told, is_heard, is_kept, quiet}
use Rattle.serial_play.proofs.QuietCalls.{Quieted, quiet_choice}
use Rattle.serial_play.proofs.QuietSteps.{quiet_queue}

heard_behind : (d e more : List Effect) → filter is_heard d ≡ e → filter is_heard more ≡ more → filter is_heard (d ++ more) ≡ e ++ more
heard_behind d e more before behind = filter-append is_heard d more ∙ (ap (λ (xs : List Effect). xs ++ filter is_heard more) before ∙ ap (λ (xs : List Effect). e ++ xs) behind)

-- ---- what tasks are made of

quiet_unmoved : (m : Machine) → Quieted (unmoved m) (unmoved (quiet m))
quiet_unmoved m = record { machine = refl; effects = refl }

quiet_settle : (p : ℕ) (how : Settled) (d e : Done) → Quieted d e → Quieted (settle p how d) (settle p how e)
quiet_settle p how d e q = record {
  machine = ap (λ (m : Machine). record m { promises = settle_in m.promises p how }) q.machine;
  effects = heard_behind d.effects e.effects (Promise p how ∷ []) q.effects refl;
}

quiet_event : (event : Event) (fired : List Event) → is_told event ≡ true → filter is_told (fired ++ event ∷ []) ≡ filter is_told fired ++ event ∷ []
quiet_event event fired told = filter-append is_told fired (event ∷ []) ∙ ap (λ (xs : List Event). filter is_told fired ++ xs) (one told) where
  one : is_told event ≡ true → filter is_told (event ∷ []) ≡ event ∷ []
  one told = rw told refl

quiet_fired : (event : Event) → is_told event ≡ true → filter is_heard (Fired event ∷ []) ≡ Fired event ∷ []
quiet_fired event told = rw told refl

quiet_fire : (event : Event) (m : Machine) → is_told event ≡ true → Quieted (fire event (unmoved m)) (fire event (unmoved (quiet m)))
quiet_fire event m told = record {
  machine = ap (λ (xs : List Event). record (quiet m) { fired = xs }) (quiet_event event m.fired told);
  effects = quiet_fired event told;
}

heard_report : (n moment : ℕ) (o : Option SessionState) → filter is_heard (report_of n moment o) ≡ report_of n moment o
heard_report n moment None = refl
heard_report n moment (Some s) = refl

abbrev report_now : ℕ → Machine → List Effect
report_now n m = report_of n m.moment (session_at m.sessions n)

quiet_report : (n : ℕ) (d e : Done) → Quieted d e → Quieted (report n d) (report n e)
quiet_report n d e q = record {
  machine = ap (λ (m : Machine). with_session n (statuses_now m.moment) m) q.machine;
  effects = heard_behind d.effects e.effects (report_now n d.machine) q.effects (heard_report n d.machine.moment (session_at d.machine.sessions n)) ∙ ap (λ (m : Machine). e.effects ++ report_now n m) q.machine;
}

quiet_and_queue : (task : Task) (d e : Done) → is_kept task ≡ true → Quieted d e → Quieted (and_queue task d) (and_queue task e)
quiet_and_queue task d e kept q = record { machine = quiet_queue d.machine task kept ∙ ap (queue_task task) q.machine; effects = q.effects }

quiet_statuses : (n : ℕ) (d e : Done) → Quieted d e → Quieted (update_statuses n d) (update_statuses n e)
quiet_statuses n d e q =
    quiet_and_queue Resume (and_queue (Fire (KeyStatuses n)) (report n d)) (and_queue (Fire (KeyStatuses n)) (report n e)) refl
    (quiet_and_queue (Fire (KeyStatuses n)) (report n d) (report n e) refl (quiet_report n d e q))

quiet_closing : (n : ℕ) (reason : Reason) (d e : Done) → Quieted d e → Quieted (close_session n reason d) (close_session n reason e)
quiet_closing n reason d e q = record {
  machine = ap (with_session n (closed_for reason)) q.machine;
  effects = heard_behind d.effects e.effects (Closed n reason ∷ []) q.effects refl;
}

quiet_requested : (m : Machine) (n : ℕ) (kids : List (List ℕ)) → Quieted (unmoved (request_done n kids m)) (unmoved (request_done n kids (quiet m)))
quiet_requested m n kids = record { machine = quiet_queue (with_session n (made_callable (next_id m)) m) (Fire (Message n (next_id m) (request_text kids))) refl; effects = refl }

-- ---- a task that runs

quiet_updated : (m : Machine) (n : ℕ) (changed : Bool) → Quieted (if changed then update_statuses n (unmoved m) else unmoved m) (if changed then update_statuses n (unmoved (quiet m)) else unmoved (quiet m))
quiet_updated m n changed = quiet_choice changed _ _ _ _ (quiet_statuses n (unmoved m) (unmoved (quiet m)) (quiet_unmoved m)) (quiet_unmoved m)

quiet_reported : (m : Machine) (n : ℕ) (closed : Bool) → Quieted (if closed then unmoved m else update_statuses n (unmoved m)) (if closed then unmoved (quiet m) else update_statuses n (unmoved (quiet m)))
quiet_reported m n closed = quiet_choice closed _ _ _ _ (quiet_unmoved m) (quiet_statuses n (unmoved m) (unmoved (quiet m)) (quiet_unmoved m))

quiet_closed : (m : Machine) (n : ℕ) (reason : Reason) → Quieted (close_session n reason (update_statuses n (unmoved m))) (close_session n reason (update_statuses n (unmoved (quiet m))))
quiet_closed m n reason = quiet_closing n reason (update_statuses n (unmoved m)) (update_statuses n (unmoved (quiet m))) (quiet_statuses n (unmoved m) (unmoved (quiet m)) (quiet_unmoved m))

quiet_run : (m : Machine) (task : Task) → is_kept task ≡ true → Quieted (run_task task m) (run_task task (quiet m))
quiet_run m (Reject p error) kept = quiet_settle p (Rejected error) _ _ (quiet_unmoved m)
quiet_run m (RequestDone n kids p) kept = quiet_settle p Resolved _ _ (quiet_requested m n kids)
quiet_run m (UpdateDone n changed p) kept = quiet_settle p Resolved _ _ (quiet_updated m n changed)
quiet_run m (CloseDone n p) kept = quiet_settle p Resolved _ _ (quiet_closed m n ClosedByApplication)
quiet_run m (RemoveDone n p) kept = quiet_settle p Resolved _ _ (quiet_statuses n (unmoved m) (unmoved (quiet m)) (quiet_unmoved m))
quiet_run m (Evicted n) kept = quiet_closed m n ResourceEvicted
quiet_run m (Report n) kept = quiet_reported m n (is_closed (session_at m.sessions n))
quiet_run m (Fire event) kept = quiet_fire event m kept
quiet_run m Resume kept = quiet_unmoved m

-- ---- the front task

front_kept : (task : Task) (ts : List Task) → is_kept task ≡ true → filter is_kept (task ∷ ts) ≡ task ∷ filter is_kept ts
front_kept task ts kept = rw kept refl

pub quiet_task : (m : Machine) (task : Task) (ts : List Task) → m.tasks ≡ task ∷ ts → is_kept task ≡ true → Quieted (after_task m) (after_task (quiet m))
quiet_task m task ts is kept =
    let left : filter is_kept m.tasks ≡ task ∷ filter is_kept ts = ap (filter is_kept) is ∙ front_kept task ts kept in
    let ran : Quieted (take_task (task ∷ ts) m) (take_task (task ∷ filter is_kept ts) (quiet m)) = quiet_run (record m { tasks = ts }) task kept in
    let one : Quieted (take_task (task ∷ ts) m) (take_task (filter is_kept m.tasks) (quiet m)) = subst (λ (us : List Task). Quieted (take_task (task ∷ ts) m) (take_task us (quiet m))) (sym left) ran in
    subst (λ (us : List Task). Quieted (take_task us m) (take_task (filter is_kept m.tasks) (quiet m))) (sym is) one

-- a step that nothing is heard of, and that changes only what is not told
pub record Unheard (m : Machine) (d : Done) : Type 0 where
  pub machine : quiet d.machine ≡ quiet m
  pub effects : filter is_heard d.effects ≡ []

unheard_fire : (m : Machine) (track : ℕ) (ts : List Task) → m.tasks ≡ Fire (WaitingForKey track) ∷ ts → Unheard m (take_task (Fire (WaitingForKey track) ∷ ts) m)
unheard_fire m track ts is =
    let told : filter is_told (m.fired ++ WaitingForKey track ∷ []) ≡ filter is_told m.fired = filter-append is_told m.fired (WaitingForKey track ∷ []) ∙ append-nil (filter is_told m.fired) in
    let kept : filter is_kept ts ≡ filter is_kept m.tasks = sym (ap (filter is_kept) is) in
    record {
      machine = ap (λ (xs : List Event). record m { tasks = filter is_kept ts; fired = xs }) told ∙ ap (λ (us : List Task). record m { tasks = us; fired = filter is_told m.fired }) kept;
      effects = refl;
    }

unheard_run : (m : Machine) (task : Task) (ts : List Task) → m.tasks ≡ task ∷ ts → is_kept task ≡ false → Unheard m (take_task (task ∷ ts) m)
unheard_run m (Reject p error) ts is gone = absurd cc
unheard_run m (RequestDone n kids p) ts is gone = absurd cc
unheard_run m (UpdateDone n changed p) ts is gone = absurd cc
unheard_run m (CloseDone n p) ts is gone = absurd cc
unheard_run m (RemoveDone n p) ts is gone = absurd cc
unheard_run m (Evicted n) ts is gone = absurd cc
unheard_run m (Report n) ts is gone = absurd cc
unheard_run m (Fire (Message n id text)) ts is gone = absurd cc
unheard_run m (Fire (KeyStatuses n)) ts is gone = absurd cc
unheard_run m (Fire (Encrypted init)) ts is gone = absurd cc
unheard_run m (Fire (WaitingForKey track)) ts is gone = unheard_fire m track ts is
unheard_run m Resume ts is gone = absurd cc

pub unheard_task : (m : Machine) (task : Task) (ts : List Task) → m.tasks ≡ task ∷ ts → is_kept task ≡ false → Unheard m (after_task m)
unheard_task m task ts is gone = subst (λ (us : List Task). Unheard m (take_task us m)) (sym is) (unheard_run m task ts is gone)
