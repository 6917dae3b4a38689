-- Tracks that wait for a key.
use Rattle.std.specs.Prelude.{ℕ, ◌≡◌, ◌==◌, ◌&&◌, Bool, true, false, ◌||◌, IsTrue, List, [], ◌∷◌, Some}
use Rattle.eme_types.specs.declared.kid.KeyBytes.{KeyBytes}
use Rattle.eme_types.specs.declared.sample.EncSample.{EncSample}
use Rattle.eme_types.specs.declared.sample.Protect.{Protect}
use Rattle.eme_types.specs.declared.entry.Entry.{Entry}
use Rattle.task_queue.specs.declared.work.Task.{Task}
use Rattle.task_queue.specs.declared.work.Task.TheVariants.{Reject, RequestDone, UpdateDone, CloseDone, RemoveDone, Evicted, Report, Fire, Resume}
use Rattle.key_sessions.specs.Keys.{held_key}
use Rattle.cdm_world.specs.Tracks.{TrackState, head, find_track}
use Rattle.cdm_state.specs.History.{world, IsLegal, LiveOn}

-- the task looks at the waiting tracks again, or is of the session's update or a report of it and queues what does
abbrev pub will_resume : ℕ → Task → Bool
will_resume session (Reject p error) = false
will_resume session (RequestDone n kids p) = false
will_resume session (UpdateDone n changed p) = changed && n == session
will_resume session (CloseDone n p) = false
will_resume session (RemoveDone n p) = false
will_resume session (Evicted n) = false
will_resume session (Report n) = n == session
will_resume session (Fire event) = false
will_resume session Resume = true

abbrev pub resume_queued : ℕ → List Task → Bool
resume_queued session [] = false
resume_queued session (task ∷ tasks) = will_resume session task || resume_queued session tasks

-- the head of the waiting track is fed and protected and has no live claim; for each session that holds its key usable, a Resume is queued, or an UpdateDone of that session whose changed is true, or a Report of it
pub record WaitsForKey (ids : List ℕ) (h : List Entry) (id : ℕ) (t : TrackState) : Type 0 where
  pub sample : EncSample
  pub fed : head t ≡ Some sample
  pub protect : Protect
  pub protected : sample.protect ≡ Some protect
  pub free : (place : ℕ) → LiveOn ids h place id t.published → ⊥
  pub woken : (session : ℕ) (key : KeyBytes) → held_key (world ids h).machine session protect.kid ≡ Some key → IsTrue (resume_queued session (world ids h).machine.tasks)

abbrev pub WaitsOnlyForKeys : Type 0
WaitsOnlyForKeys = (ids : List ℕ) (h : List Entry) (id : ℕ) (t : TrackState) → IsLegal ids h → find_track (world ids h).tracks id ≡ Some t → t.waiting ≡ true → WaitsForKey ids h id t
