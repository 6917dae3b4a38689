-- The sessions as the algorithms see them, and what they keep.
use Rattle.std.specs.Prelude.{ℕ, ◌≤◌, List, map, length}
use Rattle.eme_types.specs.declared.limits.TheConstants.{MAX_SESSIONS}
use Rattle.key_sessions.specs.declared.sessions.Sessions.TheInside.{Inside}
use Rattle.key_sessions.specs.Machine.{Machine}
use Rattle.key_sessions.specs.SessionOf.{session_of}
use Rattle.key_sessions.specs.LostPair.{pair_of}
use Rattle.key_sessions.specs.Owed.{IsOwed}
use Rattle.key_sessions.specs.Queued.{AreThere}
use Rattle.key_sessions.specs.Holders.{IsIndexOf}
use Rattle.key_sessions.specs.SessionsState.{SessionsState}

-- the state of the algorithms that the sessions keep
abbrev pub machine_of : Inside → Machine
machine_of c = record { sessions = map session_of c.items.items; jobs = c.jobs.0; tasks = c.tasks.0; promises = c.promises; moment = c.moment; fired = c.fired.0 }

-- what contracts see of the sessions
abbrev pub state_of : Inside → SessionsState
state_of c = record { machine = machine_of c; effects = c.last.effects; lost = map pair_of c.last.lost.items; room = c.room }

-- at most 64 sessions; each pending promise owed once; the sessions of queued work are there, and the room for events too; the index gives the sessions that hold a key under an id
pub record KeptAs (m : Machine) (index : List (List ℕ × List ℕ)) (room spare : ℕ) : Type 0 where
  pub few : length m.sessions ≤ MAX_SESSIONS
  pub owed : IsOwed m
  pub there : AreThere m
  pub reserved : room ≤ spare
  pub indexed : IsIndexOf index m.sessions

-- what the sessions keep of what they hold
abbrev pub Kept : Inside → Type 0
Kept c = KeptAs (machine_of c) c.index c.room c.tasks.1
