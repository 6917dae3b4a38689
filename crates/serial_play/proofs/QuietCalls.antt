-- What a call does does not depend on the `waitingforkey` events.
use Rattle.std.proofs.Common.{◌≡◌, ℕ, Bool, true, false, List, length, Option, Some, None, Result, Ok, Err, refl}
use Rattle.std.specs.Prelude.{if◌then◌else◌, nat_lt, codes}
use Rattle.std.specs.Str.{bytes_eq}
use Rattle.std.specs.List.{filter}
use Rattle.eme_types.specs.declared.limits.TheConstants.{MAX_SESSIONS}
use Rattle.eme_types.specs.declared.call.Settled.{Settled}
use Rattle.eme_types.specs.declared.call.Settled.TheVariants.{Resolved, ResolvedFalse, Rejected}
use Rattle.eme_types.specs.declared.call.DomError.{DomError}
use Rattle.eme_types.specs.declared.call.DomError.TheVariants.{InvalidState, NotSupported, Quota, UnknownLabel}
use Rattle.eme_types.specs.declared.call.AppCall.{AppCall}
use Rattle.eme_types.specs.declared.call.AppCall.TheVariants.{Access, Create, Request, Update, Close, Remove, Certificate}
use Rattle.eme_types.specs.declared.media.InitKind.{InitKind}
use Rattle.key_system_access.specs.Configs.{configs_of}
use Rattle.task_queue.specs.declared.work.Job.{Job}
use Rattle.task_queue.specs.declared.work.Job.TheVariants.{Request as RequestJob, Update as UpdateJob, Close as CloseJob, Remove as RemoveJob}
use Rattle.key_sessions.specs.Machine.{SessionState, Machine}
use Rattle.key_sessions.specs.Steps.{Done, with_session}
use Rattle.key_sessions.specs.Calls.{access_result, answer_now, answer_later, create_call, add_session, find_label, is_ending, request_on, request_started, request_kind, start_request, update_on, update_or, or_empty, state_fault, close_on, start_closing, remove_on, remove_or, after_call}
use Rattle.serial_play.specs.Served.{is_heard, quiet}

-- the other step is the same one without the `waitingforkey` events
pub record Quieted (d e : Done) : Type 0 where
  pub machine : quiet d.machine ≡ e.machine
  pub effects : filter is_heard d.effects ≡ e.effects

pub quiet_choice : (b : Bool) (x y u v : Done) → Quieted x u → Quieted y v → Quieted (if b then x else y) (if b then u else v)
quiet_choice true x y u v p q = p
quiet_choice false x y u v p q = q

quiet_now : (m : Machine) (how : Settled) → Quieted (answer_now how m) (answer_now how (quiet m))
quiet_now m how = record { machine = refl; effects = refl }

quiet_later : (m : Machine) (job : ℕ → Job) → Quieted (answer_later job m) (answer_later job (quiet m))
quiet_later m job = record { machine = refl; effects = refl }

quiet_create : (m : Machine) (label kind : List ℕ) → Quieted (create_call label kind m) (create_call label kind (quiet m))
quiet_create m label kind =
    quiet_choice (bytes_eq kind (codes "temporary")) _ _ _ _
    (quiet_choice (nat_lt (length m.sessions) MAX_SESSIONS) _ _ _ _ (quiet_now (add_session label m) Resolved) (quiet_now m (Rejected Quota)))
    (quiet_now m (Rejected NotSupported))

quiet_started : (m : Machine) (n : ℕ) (init : List ℕ) (r : Result InitKind DomError) → Quieted (request_started n init r m) (request_started n init r (quiet m))
quiet_started m n init (Err error) = quiet_now m (Rejected error)
quiet_started m n init (Ok kind) = quiet_later m (λ p. RequestJob n kind init p)

quiet_request : (m : Machine) (kind init : List ℕ) (o : Option (ℕ × SessionState)) → Quieted (request_on kind init m o) (request_on kind init (quiet m) o)
quiet_request m kind init None = quiet_now m (Rejected UnknownLabel)
quiet_request m kind init (Some (n, s)) =
    quiet_choice (is_ending s) _ _ _ _ (quiet_now m (Rejected InvalidState))
    (quiet_choice s.uninitialized _ _ _ _ (quiet_started (with_session n start_request m) n init (request_kind kind init)) (quiet_now m (Rejected InvalidState)))

quiet_update_or : (m : Machine) (n : ℕ) (response : List ℕ) (o : Option DomError) → Quieted (update_or n response o m) (update_or n response o (quiet m))
quiet_update_or m n response (Some error) = quiet_now m (Rejected error)
quiet_update_or m n response None = quiet_later m (λ p. UpdateJob n response p)

quiet_update : (m : Machine) (response : List ℕ) (o : Option (ℕ × SessionState)) → Quieted (update_on response m o) (update_on response (quiet m) o)
quiet_update m response None = quiet_now m (Rejected UnknownLabel)
quiet_update m response (Some (n, s)) = quiet_update_or m n response (or_empty (state_fault s) response)

quiet_close : (m : Machine) (o : Option (ℕ × SessionState)) → Quieted (close_on m o) (close_on (quiet m) o)
quiet_close m None = quiet_now m (Rejected UnknownLabel)
quiet_close m (Some (n, s)) =
    quiet_choice (is_ending s) _ _ _ _ (quiet_now m Resolved)
    (quiet_choice s.callable _ _ _ _ (quiet_later (with_session n start_closing m) (λ p. CloseJob n p)) (quiet_now m (Rejected InvalidState)))

quiet_remove_or : (m : Machine) (n : ℕ) (o : Option DomError) → Quieted (remove_or n o m) (remove_or n o (quiet m))
quiet_remove_or m n (Some error) = quiet_now m (Rejected error)
quiet_remove_or m n None = quiet_later m (λ p. RemoveJob n p)

quiet_remove : (m : Machine) (o : Option (ℕ × SessionState)) → Quieted (remove_on m o) (remove_on (quiet m) o)
quiet_remove m None = quiet_now m (Rejected UnknownLabel)
quiet_remove m (Some (n, s)) = quiet_remove_or m n (state_fault s)

pub quiet_call : (m : Machine) (call : AppCall) → Quieted (after_call call m) (after_call call (quiet m))
quiet_call m (Access name list) = quiet_now m (access_result name (configs_of list))
quiet_call m (Create label kind) = quiet_create m label kind
quiet_call m (Request label kind init) = quiet_request m kind init (find_label m label)
quiet_call m (Update label response) = quiet_update m response (find_label m label)
quiet_call m (Close label) = quiet_close m (find_label m label)
quiet_call m (Remove label) = quiet_remove m (find_label m label)
quiet_call m (Certificate cert) = quiet_now m ResolvedFalse
