-- What the steps do with promises, and what a rejected call leaves.
use Rattle.std.specs.Prelude.{ℕ, ◌≡◌, ◌++◌, if◌then◌else◌, List, [], ◌∷◌, Option, Some, None}
use Rattle.eme_types.specs.declared.call.AppCall.{AppCall}
use Rattle.eme_types.specs.declared.call.AppCall.TheVariants.{Request}
use Rattle.eme_types.specs.declared.call.DomError.{DomError}
use Rattle.eme_types.specs.declared.call.Effect.TheVariants.{Promise}
use Rattle.eme_types.specs.declared.call.Settled.TheVariants.{Rejected}
use Rattle.key_sessions.specs.Machine.{SessionState, Machine}
use Rattle.key_sessions.specs.Steps.{with_session}
use Rattle.key_sessions.specs.Calls.{after_call, find_label, is_ending, start_request}
use Rattle.key_sessions.specs.Jobs.{after_job}
use Rattle.key_sessions.specs.Evict.{after_evict}
use Rattle.key_sessions.specs.Tasks.{after_task, after_tick}
use Rattle.key_sessions.specs.Owed.{IsOwed, Asked, Steady}

-- each call makes one promise, and settles or owes it
abbrev pub CallsAsk : Type 0
CallsAsk = (m : Machine) (call : AppCall) → Asked m (after_call call m)

-- each job keeps what is owed
abbrev pub JobsHandOn : Type 0
JobsHandOn = (m : Machine) → IsOwed m → Steady m (after_job m)

-- each task settles just what it no longer owes
abbrev pub TasksSettle : Type 0
TasksSettle = (m : Machine) → IsOwed m → Steady m (after_task m)

-- the time settles nothing
abbrev pub TicksKeep : Type 0
TicksKeep = (m : Machine) (moment : ℕ) → IsOwed m → Steady m (after_tick moment m)

-- an eviction settles nothing
abbrev pub EvictionsKeep : Type 0
EvictionsKeep = (m : Machine) (label : List ℕ) → IsOwed m → Steady m (after_evict label m)

-- a request that came past its first two checks has ended uninitialized
abbrev pub started_on : Machine → Option (ℕ × SessionState) → Machine
started_on m None = m
started_on m (Some (n, s)) = if is_ending s then m else (if s.uninitialized then with_session n start_request m else m)

-- what a call leaves of the state beside its promise, where it is rejected at once: the state as it was, but for such a request
abbrev pub state_left : AppCall → Machine → Machine
state_left (Request label kind init) m = started_on m (find_label m label)
state_left call m = m

-- one more promise, rejected
abbrev pub with_rejected : DomError → Machine → Machine
with_rejected error m = record m { promises = m.promises ++ Some (Rejected error) ∷ [] }

-- a call whose one effect is a rejection leaves its promise, settled, and nothing else
abbrev pub RejectionsLeave : Type 0
RejectionsLeave = (m : Machine) (call : AppCall) (p : ℕ) (error : DomError) → (after_call call m).effects ≡ Promise p (Rejected error) ∷ [] → (after_call call m).machine ≡ with_rejected error (state_left call m)
