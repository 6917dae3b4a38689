-- What each entry of a history does to the state.
use Rattle.std.specs.Prelude.{ℕ, List, ◌++◌, map, Option, Some, None}
use Rattle.eme_types.specs.declared.call.Effect.{Effect}
use Rattle.eme_types.specs.declared.call.Event.TheVariants.{Encrypted, WaitingForKey}
use Rattle.eme_types.specs.declared.media.InitData.{InitData}
use Rattle.eme_types.specs.declared.media.Fragment.{Fragment}
use Rattle.eme_types.specs.declared.entry.Entry.{Entry}
use Rattle.eme_types.specs.declared.entry.Entry.TheVariants.{Call, Job, Task, Tick, Feed, Evict, Claim, Deliver, GiveUp, Publish, PassClear, WaitForKey, Settle}
use Rattle.task_queue.specs.declared.work.Task.{Task as Queued}
use Rattle.task_queue.specs.declared.work.Task.TheVariants.{Fire}
use Rattle.key_sessions.specs.Steps.{queue_task}
use Rattle.key_sessions.specs.Calls.{after_call}
use Rattle.key_sessions.specs.Jobs.{after_job}
use Rattle.key_sessions.specs.Evict.{after_evict}
use Rattle.key_sessions.specs.Tasks.{after_tick}
use Rattle.cdm_world.specs.Tracks.{change_track, one_more, set_waiting, feed_parts}
use Rattle.key_sessions.specs.World.{World, Stepped, acted, unseen, task_step}

-- `encrypted` is to be fired for the initialization data
abbrev pub fire_encrypted : InitData → Queued
fire_encrypted init = Fire (Encrypted init)

-- the samples come to their tracks, and `encrypted` is to be fired for each initialization data
abbrev pub feed_step : World → Option Fragment → World
feed_step w None = w
feed_step w (Some f) = record { machine = record (w.machine) { tasks = w.machine.tasks ++ map fire_encrypted f.inits }; tracks = feed_parts w.tracks f.parts }

-- the next sample of the track is out
abbrev pub publish_step : World → ℕ → World
publish_step w track = record w { tracks = change_track w.tracks track one_more }

-- Encrypted Media Extensions, 'Wait for Key': the track waits, and the event is to be fired
abbrev pub wait_step : World → ℕ → World
wait_step w track = record { machine = queue_task (Fire (WaitingForKey track)) w.machine; tracks = change_track w.tracks track set_waiting }

-- what each entry does to the state, and of that what the application can see
abbrev pub step : World → Entry → Stepped
step w (Call lane line call) = acted w (after_call call w.machine)
step w Job = acted w (after_job w.machine)
step w Task = task_step w
step w (Tick line moment) = acted w (after_tick moment w.machine)
step w (Feed line fragment) = unseen (feed_step w fragment)
step w (Evict line label) = acted w (after_evict label w.machine)
step w (Claim worker track index session kid) = unseen w
step w (Deliver place verdict) = unseen w
step w (GiveUp place) = unseen w
step w (Publish track index place) = unseen (publish_step w track)
step w (PassClear track index) = unseen (publish_step w track)
step w (WaitForKey track) = unseen (wait_step w track)
step w (Settle line) = unseen w

-- the state after the entry
abbrev pub after_entry : World → Entry → World
after_entry w e = (step w e).world

-- what the entry does that the application can see
abbrev pub effects_of : World → Entry → List Effect
effects_of w e = (step w e).effects
