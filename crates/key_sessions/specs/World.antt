-- The whole state, and what a step of the sessions does to it.
use Rattle.std.specs.Prelude.{ℕ, Bool, true, false, if◌then◌else◌, List, [], ◌∷◌, map}
use Rattle.eme_types.specs.declared.call.Effect.{Effect}
use Rattle.task_queue.specs.declared.work.Task.{Task as Queued}
use Rattle.task_queue.specs.declared.work.Task.TheVariants.{Reject, RequestDone, UpdateDone, CloseDone, RemoveDone, Evicted, Report, Fire, Resume}
use Rattle.key_sessions.specs.Machine.{Machine, empty_machine}
use Rattle.key_sessions.specs.Keys.{pick}
use Rattle.key_sessions.specs.Steps.{Done}
use Rattle.key_sessions.specs.Tasks.{after_task}
use Rattle.cdm_world.specs.Tracks.{TrackState, empty_track, resumed}

-- the state of the sessions and of the tracks
pub record World : Type 0 where
  pub machine : Machine
  pub tracks : List TrackState

-- no session, and tracks with these ids and without a sample
abbrev pub empty_world : List ℕ → World
empty_world ids = record { machine = empty_machine; tracks = map empty_track ids }

-- the state after an entry, and what the entry did that the application can see
pub record Stepped : Type 0 where
  pub world : World
  pub effects : List Effect

-- only the sessions act
abbrev pub acted : World → Done → Stepped
acted w d = record { world = record w { machine = d.machine }; effects = d.effects }

-- the world without an effect
abbrev pub unseen : World → Stepped
unseen w = record { world = w; effects = [] }

-- the task is `Resume`
abbrev pub is_resume : Queued → Bool
is_resume (Reject p error) = false
is_resume (RequestDone n kids p) = false
is_resume (UpdateDone n changed p) = false
is_resume (CloseDone n p) = false
is_resume (RemoveDone n p) = false
is_resume (Evicted n) = false
is_resume (Report n) = false
is_resume (Fire event) = false
is_resume Resume = true

-- the front task is `Resume`
abbrev pub resumes : List Queued → Bool
resumes [] = false
resumes (task ∷ tasks) = is_resume task

-- the front task runs; a `Resume` looks at the tracks that wait
abbrev pub task_step : World → Stepped
task_step w = record {
  world = record { machine = (after_task w.machine).machine; tracks = if resumes w.machine.tasks then resumed (pick w.machine) w.tracks else w.tracks };
  effects = (after_task w.machine).effects;
}
