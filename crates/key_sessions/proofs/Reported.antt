-- Steps that report statuses.
use Rattle.std.proofs.Common.{◌≡◌, ◌∙◌, ℕ, List, [], ◌∷◌, ◌++◌, Some, refl, sym}
use Rattle.eme_types.specs.declared.kid.Status.{Status}
use Rattle.eme_types.specs.declared.call.Effect.{Effect}
use Rattle.eme_types.specs.declared.call.Effect.TheVariants.{Statuses, Closed}
use Rattle.eme_types.specs.declared.call.Reason.{Reason}
use Rattle.eme_types.specs.declared.call.Event.TheVariants.{KeyStatuses}
use Rattle.task_queue.specs.declared.work.Task.{Task}
use Rattle.task_queue.specs.declared.work.Task.TheVariants.{Fire, Resume}
use Rattle.key_sessions.specs.declared.change.Change.TheVariants.{Reported, Closed}
use Rattle.key_statuses.specs.Statuses.{statuses}
use Rattle.key_sessions.specs.Machine.{SessionState, Machine, session_at, status_at, change_session}
use Rattle.key_sessions.specs.Steps.{Done, unmoved, statuses_now, report_of, update_statuses, closed_for, close_session}
use Rattle.key_sessions.specs.Plans.{queued_by}
use Rattle.key_sessions.specs.Changes.{changed}
use Rattle.key_sessions.proofs.SessionLists.{change_alike, change_twice}

told : (m : Machine) (s : SessionState) (n moment : ℕ) (list : List (List ℕ × Status)) → session_at m.sessions n ≡ Some s → m.moment ≡ moment → list ≡ statuses s.keys (status_at moment s) → Statuses n list ∷ [] ≡ report_of n m.moment (session_at m.sessions n)
told m s n moment list at mo is = rw (at, mo, is) refl

two_tasks : (ts : List Task) (n : ℕ) (tasks : List Task) → tasks ≡ Fire (KeyStatuses n) ∷ (Resume ∷ []) → queued_by ts tasks ≡ (ts ++ Fire (KeyStatuses n) ∷ []) ++ Resume ∷ []
two_tasks ts n tasks is = rw is refl

pub reported_as : (m : Machine) (s : SessionState) (n moment : ℕ) (list : List (List ℕ × Status)) (tasks : List Task) (effects : List Effect) → session_at m.sessions n ≡ Some s → m.moment ≡ moment → list ≡ statuses s.keys (status_at moment s) → tasks ≡ Fire (KeyStatuses n) ∷ (Resume ∷ []) → effects ≡ Statuses n list ∷ [] → (let d : Done = record { machine = record m { sessions = change_session m.sessions n (changed (Reported list)); tasks = queued_by m.tasks tasks }; effects = effects } in d) ≡ update_statuses n (unmoved m)
reported_as m s n moment list tasks effects at mo is ts es =
    let same : change_session m.sessions n (changed (Reported list)) ≡ change_session m.sessions n (statuses_now m.moment) = change_alike m.sessions n s (changed (Reported list)) (statuses_now m.moment) at (rw (is, mo) refl) in
    let q = two_tasks m.tasks n tasks ts in
    let e : effects ≡ report_of n m.moment (session_at m.sessions n) = es ∙ told m s n moment list at mo is in
    rw (same, q, e) refl

-- the report of a session, which is then closed for the reason
pub ended_as : (m : Machine) (s : SessionState) (n moment : ℕ) (reason : Reason) (list : List (List ℕ × Status)) (tasks : List Task) (effects : List Effect) → session_at m.sessions n ≡ Some s → m.moment ≡ moment → list ≡ statuses s.keys (status_at moment s) → tasks ≡ Fire (KeyStatuses n) ∷ (Resume ∷ []) → effects ≡ Statuses n list ∷ (Closed n reason ∷ []) → (let d : Done = record { machine = record m { sessions = change_session m.sessions n (changed (Closed list reason)); tasks = queued_by m.tasks tasks }; effects = effects } in d) ≡ close_session n reason (update_statuses n (unmoved m))
ended_as m s n moment reason list tasks effects at mo is ts es =
    let one : change_session m.sessions n (changed (Closed list reason)) ≡ change_session m.sessions n (λ x. closed_for reason (statuses_now m.moment x)) = change_alike m.sessions n s (changed (Closed list reason)) (λ x. closed_for reason (statuses_now m.moment x)) at (rw (is, mo) refl) in
    let same = one ∙ sym (change_twice m.sessions n (statuses_now m.moment) (closed_for reason)) in
    let q = two_tasks m.tasks n tasks ts in
    let e : effects ≡ report_of n m.moment (session_at m.sessions n) ++ Closed n reason ∷ [] = rw (es, at, mo, is) refl in
    rw (same, q, e) refl
