-- What a call leaves whose one effect is a rejection.
use Rattle.std.proofs.Common.{◌≡◌, ℕ, Bool, true, false, List, [], ◌∷◌, Option, Some, None, Result, Ok, Err, refl}
use Rattle.std.specs.Prelude.{if◌then◌else◌, nat_lt, codes, length}
use Rattle.std.specs.Str.{bytes_eq}
use Rattle.eme_types.specs.declared.call.AppCall.{AppCall}
use Rattle.eme_types.specs.declared.call.AppCall.TheVariants.{Access, Create, Request, Update, Close, Remove, Certificate}
use Rattle.eme_types.specs.declared.call.DomError.{DomError}
use Rattle.eme_types.specs.declared.call.DomError.TheVariants.{InvalidState, NotSupported, Quota, UnknownLabel}
use Rattle.eme_types.specs.declared.call.Effect.TheVariants.{Promise}
use Rattle.eme_types.specs.declared.call.Settled.{Settled}
use Rattle.eme_types.specs.declared.call.Settled.TheVariants.{Resolved, ResolvedFalse, Rejected}
use Rattle.eme_types.specs.declared.limits.TheConstants.{MAX_SESSIONS}
use Rattle.eme_types.specs.declared.media.InitKind.{InitKind}
use Rattle.key_system_access.specs.Configs.{configs_of}
use Rattle.key_sessions.specs.Machine.{SessionState, Machine}
use Rattle.key_sessions.specs.Steps.{Done, unmoved, with_session}
use Rattle.key_sessions.specs.Calls.{access_result, answer_now, add_session, find_label, is_ending, request_on, request_started, request_kind, start_request, update_on, update_or, or_empty, state_fault, close_on, remove_on, remove_or, after_call}
use Rattle.key_sessions.specs.Law.{started_on, state_left, with_rejected}

-- where the one effect is a rejection, the state is this one with the rejected promise
abbrev Leaves : Machine → Done → Type 0
Leaves k d = (p : ℕ) (error : DomError) → d.effects ≡ Promise p (Rejected error) ∷ [] → d.machine ≡ with_rejected error k

leaves_now : (k : Machine) (how : Settled) → Leaves k (answer_now how k)
leaves_now k how p error e = (let same : how ≡ Rejected error = cc in rw same refl)

-- no effect, or another one
leaves_none : (k m : Machine) → Leaves k (unmoved m)
leaves_none k m p error e = absurd cc

leaves_resolved : (k m : Machine) → Leaves k (answer_now Resolved m)
leaves_resolved k m p error e = absurd cc

leaves_either : (b : Bool) (k l : Machine) (x y : Done) → Leaves k x → Leaves l y → Leaves (if b then k else l) (if b then x else y)
leaves_either true k l x y f g = f
leaves_either false k l x y f g = g

leaves_one : (b : Bool) (k : Machine) (x y : Done) → Leaves k x → Leaves k y → Leaves k (if b then x else y)
leaves_one true k x y f g = f
leaves_one false k x y f g = g

leaves_started : (k : Machine) (n : ℕ) (init : List ℕ) (r : Result InitKind DomError) → Leaves k (request_started n init r k)
leaves_started k n init (Err error) = leaves_now k (Rejected error)
leaves_started k n init (Ok kind) = leaves_none k _

leaves_request : (m : Machine) (kind init : List ℕ) (o : Option (ℕ × SessionState)) → Leaves (started_on m o) (request_on kind init m o)
leaves_request m kind init None = leaves_now m (Rejected UnknownLabel)
leaves_request m kind init (Some (n, s)) =
    let started = with_session n start_request m in
    leaves_either (is_ending s) m _ _ _ (leaves_now m (Rejected InvalidState)) (leaves_either s.uninitialized started m _ _ (leaves_started started n init (request_kind kind init)) (leaves_now m (Rejected InvalidState)))

leaves_update : (m : Machine) (n : ℕ) (response : List ℕ) (o : Option DomError) → Leaves m (update_or n response o m)
leaves_update m n response (Some error) = leaves_now m (Rejected error)
leaves_update m n response None = leaves_none m _

leaves_updated : (m : Machine) (response : List ℕ) (o : Option (ℕ × SessionState)) → Leaves m (update_on response m o)
leaves_updated m response None = leaves_now m (Rejected UnknownLabel)
leaves_updated m response (Some (n, s)) = leaves_update m n response (or_empty (state_fault s) response)

leaves_close : (m : Machine) (o : Option (ℕ × SessionState)) → Leaves m (close_on m o)
leaves_close m None = leaves_now m (Rejected UnknownLabel)
leaves_close m (Some (n, s)) = leaves_one (is_ending s) m _ _ (leaves_now m Resolved) (leaves_one s.callable m _ _ (leaves_none m _) (leaves_now m (Rejected InvalidState)))

leaves_remove : (m : Machine) (n : ℕ) (o : Option DomError) → Leaves m (remove_or n o m)
leaves_remove m n (Some error) = leaves_now m (Rejected error)
leaves_remove m n None = leaves_none m _

leaves_removed : (m : Machine) (o : Option (ℕ × SessionState)) → Leaves m (remove_on m o)
leaves_removed m None = leaves_now m (Rejected UnknownLabel)
leaves_removed m (Some (n, s)) = leaves_remove m n (state_fault s)

leaves : (m : Machine) (call : AppCall) → Leaves (state_left call m) (after_call call m)
leaves m (Access name list) = leaves_now m (access_result name (configs_of list))
leaves m (Create label kind) = leaves_one (bytes_eq kind (codes "temporary")) m _ _ (leaves_one (nat_lt (length m.sessions) MAX_SESSIONS) m _ _ (leaves_resolved m (add_session label m)) (leaves_now m (Rejected Quota))) (leaves_now m (Rejected NotSupported))
leaves m (Request label kind init) = leaves_request m kind init (find_label m label)
leaves m (Update label response) = leaves_updated m response (find_label m label)
leaves m (Close label) = leaves_close m (find_label m label)
leaves m (Remove label) = leaves_removed m (find_label m label)
leaves m (Certificate cert) = leaves_now m ResolvedFalse

pub rejection_leaves : (m : Machine) (call : AppCall) (p : ℕ) (error : DomError) → (after_call call m).effects ≡ Promise p (Rejected error) ∷ [] → (after_call call m).machine ≡ with_rejected error (state_left call m)
rejection_leaves m call = leaves m call
