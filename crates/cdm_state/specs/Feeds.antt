-- What a feed brings.
use Rattle.std.specs.Prelude.{ℕ, ◌-◌, List, [], Option, Some, None}
use Rattle.std.specs.List.{fold}
use Rattle.eme_types.specs.declared.media.Fragment.{Fragment}
use Rattle.eme_types.specs.declared.media.TrackPart.{TrackPart}
use Rattle.eme_types.specs.declared.media.InitData.{InitData}
use Rattle.eme_types.specs.declared.call.Event.{Event}
use Rattle.eme_types.specs.declared.entry.Entry.{Entry}
use Rattle.eme_types.specs.declared.entry.Entry.TheVariants.{Feed}
use Rattle.task_queue.specs.declared.work.Task.TheVariants.{Fire}
use Rattle.key_sessions.specs.Steps.{queue_task}
use Rattle.key_sessions.specs.SessionsState.{SessionsState}

-- a feed gives a fragment, or none
abbrev pub fragments_in : Option Fragment → ℕ
fragments_in None = 0
fragments_in (Some f) = 1

-- how many fragments an entry feeds
abbrev pub fragments_fed : Entry → ℕ
fragments_fed (Feed line fragment) = fragments_in fragment
fragments_fed e = 0

abbrev pub parts_in : Option Fragment → List TrackPart
parts_in None = []
parts_in (Some f) = f.parts

abbrev pub inits_in : Option Fragment → List InitData
inits_in None = []
inits_in (Some f) = f.inits

-- the event is to be fired, in the room that is kept for it
abbrev pub fired : SessionsState → Event → SessionsState
fired s event = record s { machine = queue_task (Fire event) s.machine; room = s.room - 1 }

abbrev pub fired_all : List Event → SessionsState → SessionsState
fired_all events s = fold fired s events
