-- What a call of the application does at once (Encrypted Media Extensions sections 3 to 6).
use Rattle.std.specs.Prelude.{ℕ, ◌+◌, ◌||◌, nat_lt, Bool, true, false, if◌then◌else◌, List, [], ◌∷◌, ◌++◌, length, Option, Some, None, Result, Ok, Err, codes}
use Rattle.std.specs.Str.{bytes_eq}
use Rattle.eme_types.specs.declared.limits.TheConstants.{MAX_SESSIONS}
use Rattle.eme_types.specs.declared.media.InitKind.{InitKind}
use Rattle.eme_types.specs.declared.media.InitKind.TheVariants.{Cenc, Keyids}
use Rattle.eme_types.specs.declared.access.Config.{Config}
use Rattle.eme_types.specs.declared.call.Settled.{Settled}
use Rattle.eme_types.specs.declared.call.Settled.TheVariants.{Resolved, ResolvedFalse, ResolvedConfig, Rejected}
use Rattle.eme_types.specs.declared.call.DomError.{DomError}
use Rattle.eme_types.specs.declared.call.DomError.TheVariants.{InvalidState, TypeFault, NotSupported, Quota, UnknownLabel}
use Rattle.eme_types.specs.declared.call.AppCall.{AppCall}
use Rattle.eme_types.specs.declared.call.AppCall.TheVariants.{Access, Create, Request, Update, Close, Remove, Certificate}
use Rattle.eme_types.specs.declared.call.Effect.TheVariants.{Promise}
use Rattle.key_system_access.specs.Access.{access}
use Rattle.key_system_access.specs.Configs.{configs_of}
use Rattle.key_system_access.specs.ConfigText.{config_json}
use Rattle.key_system_access.specs.declared.configs.ConfigFault.{ConfigFault}
use Rattle.task_queue.specs.declared.work.Job.{Job}
use Rattle.task_queue.specs.declared.work.Job.TheVariants.{Request as RequestJob, Update as UpdateJob, Close as CloseJob, Remove as RemoveJob}
use Rattle.key_sessions.specs.Machine.{SessionState, Machine, new_session}
use Rattle.key_sessions.specs.Steps.{Done, unmoved, with_session}

-- the first of these sessions, numbered from n, that was created with the label
abbrev pub find_from : ℕ → List SessionState → List ℕ → Option (ℕ × SessionState)
find_from n [] label = None
find_from n (s ∷ more) label = if bytes_eq s.label label then Some (n, s) else find_from (n + 1) more label

-- the first session that was created with the label, with its number
abbrev pub find_label : Machine → List ℕ → Option (ℕ × SessionState)
find_label m label = find_from 1 m.sessions label

-- the number of the promise that a call makes
abbrev pub next_promise : Machine → ℕ
next_promise m = length m.promises + 1

-- the new promise is settled in this same entry
abbrev pub answer_now : Settled → Machine → Done
answer_now how m = record { machine = record m { promises = m.promises ++ Some how ∷ [] }; effects = Promise (next_promise m) how ∷ [] }

-- the new promise is rejected in this same entry
abbrev pub reject_now : DomError → Machine → Done
reject_now error m = answer_now (Rejected error) m

-- the new promise waits for a job
abbrev pub answer_later : (ℕ → Job) → Machine → Done
answer_later job m = unmoved (record m { promises = m.promises ++ None ∷ []; jobs = m.jobs ++ job (next_promise m) ∷ [] })

-- one more session, the last
abbrev pub add_session : List ℕ → Machine → Machine
add_session label m = record m { sessions = m.sessions ++ new_session label ∷ [] }

-- createSession: only temporary sessions, and at most 64
abbrev pub create_call : List ℕ → List ℕ → Machine → Done
create_call label kind m =
    if bytes_eq kind (codes "temporary")
    then (if nat_lt (length m.sessions) MAX_SESSIONS then answer_now Resolved (add_session label m) else reject_now Quota m)
    else reject_now NotSupported m

-- closing or closed
abbrev pub is_ending : SessionState → Bool
is_ending s = s.closing || s.closed

-- the text has no byte
abbrev pub is_empty : List ℕ → Bool
is_empty [] = true
is_empty (b ∷ more) = false

-- the registered types of initialization data that are supported
abbrev pub init_kind : List ℕ → Result InitKind DomError
init_kind kind = if bytes_eq kind (codes "cenc") then Ok Cenc else (if bytes_eq kind (codes "keyids") then Ok Keyids else Err NotSupported)

-- the type of a request's data, or why it is refused once the session is no longer uninitialized
abbrev pub request_kind : List ℕ → List ℕ → Result InitKind DomError
request_kind kind init = if is_empty kind then Err TypeFault else (if is_empty init then Err TypeFault else init_kind kind)

-- the request is refused for its type or its data, or waits for its job
abbrev pub request_started : ℕ → List ℕ → Result InitKind DomError → Machine → Done
request_started n init (Err error) m = reject_now error m
request_started n init (Ok kind) m = answer_later (λ p. RequestJob n kind init p) m

-- the session is no longer uninitialized
abbrev pub start_request : SessionState → SessionState
start_request s = record s { uninitialized = false }

-- generateRequest
abbrev pub request_on : List ℕ → List ℕ → Machine → Option (ℕ × SessionState) → Done
request_on kind init m None = reject_now UnknownLabel m
request_on kind init m (Some (n, s)) =
    if is_ending s then reject_now InvalidState m
    else (if s.uninitialized then request_started n init (request_kind kind init) (with_session n start_request m) else reject_now InvalidState m)

-- why a session refuses an update or a removal
abbrev pub state_fault : SessionState → Option DomError
state_fault s = if is_ending s then Some InvalidState else (if s.callable then None else Some InvalidState)

-- why an update is refused: by the state of its session, or since the response is empty
abbrev pub or_empty : Option DomError → List ℕ → Option DomError
or_empty None response = if is_empty response then Some TypeFault else None
or_empty (Some error) response = Some error

-- the update is refused, or waits for its job
abbrev pub update_or : ℕ → List ℕ → Option DomError → Machine → Done
update_or n response (Some error) m = reject_now error m
update_or n response None m = answer_later (λ p. UpdateJob n response p) m

-- update
abbrev pub update_on : List ℕ → Machine → Option (ℕ × SessionState) → Done
update_on response m None = reject_now UnknownLabel m
update_on response m (Some (n, s)) = update_or n response (or_empty (state_fault s) response) m

-- the end of the session was asked for
abbrev pub start_closing : SessionState → SessionState
start_closing s = record s { closing = true }

-- close
abbrev pub close_on : Machine → Option (ℕ × SessionState) → Done
close_on m None = reject_now UnknownLabel m
close_on m (Some (n, s)) =
    if is_ending s then answer_now Resolved m
    else (if s.callable then answer_later (λ p. CloseJob n p) (with_session n start_closing m) else reject_now InvalidState m)

-- the removal is refused, or waits for its job
abbrev pub remove_or : ℕ → Option DomError → Machine → Done
remove_or n (Some error) m = reject_now error m
remove_or n None m = answer_later (λ p. RemoveJob n p) m

-- remove
abbrev pub remove_on : Machine → Option (ℕ × SessionState) → Done
remove_on m None = reject_now UnknownLabel m
remove_on m (Some (n, s)) = remove_or n (state_fault s) m

-- a configuration that is granted resolves the promise with its text
abbrev pub access_settled : Result Config DomError → Settled
access_settled (Ok config) = ResolvedConfig (config_json config)
access_settled (Err error) = Rejected error

-- requestMediaKeySystemAccess; a list outside its grammar is refused as an empty one is
abbrev pub access_result : List ℕ → Result (List Config) ConfigFault → Settled
access_result name (Ok configs) = access_settled (access name configs)
access_result name (Err fault) = Rejected TypeFault

-- requestMediaKeySystemAccess: the promise is settled at once
abbrev pub access_call : List ℕ → List ℕ → Machine → Done
access_call name list m = answer_now (access_result name (configs_of list)) m

-- what a call does
abbrev pub after_call : AppCall → Machine → Done
after_call (Access name list) m = access_call name list m
after_call (Create label kind) m = create_call label kind m
after_call (Request label kind init) m = request_on kind init m (find_label m label)
after_call (Update label response) m = update_on response m (find_label m label)
after_call (Close label) m = close_on m (find_label m label)
after_call (Remove label) m = remove_on m (find_label m label)
after_call (Certificate cert) m = answer_now ResolvedFalse m
