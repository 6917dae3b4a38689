-- How much is left for a settle to do: a number that each step of the settle lowers.
use Rattle.std.specs.Prelude.{ℕ, ◌+◌, ◌*◌, ◌==◌, ◌&&◌, not, Bool, false, if◌then◌else◌, List, [], ◌∷◌, ◌++◌, length, drop, Option, Some, None}
use Rattle.std.specs.List.{filter, sum_by}
use Rattle.eme_types.specs.declared.kid.KeyBytes.{KeyBytes}
use Rattle.eme_types.specs.declared.sample.EncSample.{EncSample}
use Rattle.eme_types.specs.declared.entry.Entry.{Entry}
use Rattle.eme_types.specs.declared.entry.Entry.TheVariants.{Claim, GiveUp, Publish}
use Rattle.task_queue.specs.declared.work.Job.{Job as QueuedJob}
use Rattle.task_queue.specs.declared.work.Job.TheVariants.{Request, Update, Close, Remove}
use Rattle.task_queue.specs.declared.work.Task.{Task as QueuedTask}
use Rattle.task_queue.specs.declared.work.Task.TheVariants.{Reject, RequestDone, UpdateDone, CloseDone, RemoveDone, Evicted, Report, Fire, Resume}
use Rattle.cdm_world.specs.Tracks.{TrackState}
use Rattle.key_sessions.specs.Machine.{Machine}
use Rattle.key_sessions.specs.Keys.{held_key}
use Rattle.key_sessions.specs.World.{World, empty_world}
use Rattle.key_claims.specs.TracksState.{ClaimState}
use Rattle.key_claims.specs.Claims.{claimed_in}
use Rattle.cdm_state.specs.After.{after_entry}
use Rattle.cdm_state.specs.Slots.{holds_still}
use Rattle.cdm_state.specs.History.{world}

-- the entry gives up or publishes the claim at the place
abbrev pub ends_claim : ℕ → Entry → Bool
ends_claim place (GiveUp p) = p == place
ends_claim place (Publish track index p) = p == place
ends_claim place _ = false

-- the claim under the key that its session holds, if it holds one
abbrev pub claim_under : ℕ → ℕ → ℕ → ℕ → ℕ → List ℕ → Option KeyBytes → List ClaimState
claim_under place worker track index session kid None = []
claim_under place worker track index session kid (Some key) = (let c : ClaimState = record { place = place; worker = worker; track = track; index = index; session = session; kid = kid; key = key; clear = None } in c) ∷ []

-- the claim that the entry makes at the place
abbrev pub claim_made : World → ℕ → Entry → List ClaimState
claim_made w place (Claim worker track index session kid) = claim_under place worker track index session kid (held_key w.machine session kid)
claim_made w place _ = []

-- the claim is live after the entry as well
abbrev pub stays : World → Entry → ClaimState → Bool
stays w e c = holds_still w.machine c && not (ends_claim c.place e)

-- the live claims after the entry at the place; w is the state after it
abbrev pub claims_after : World → ℕ → Entry → List ClaimState → List ClaimState
claims_after w place e claims = filter (stays w e) claims ++ claim_made w place e

-- the live claims after these entries, where those before them are n, w is the state after them, and these claims are live
abbrev pub claims_from : World → ℕ → List ClaimState → List Entry → List ClaimState
claims_from w n claims [] = claims
claims_from w n claims (e ∷ es) = claims_from (after_entry w e) (n + 1) (claims_after (after_entry w e) (n + 1) e claims) es

-- the live claims of a history, in order of their places
unfoldable pub live_claims : List ℕ → List Entry → List ClaimState
live_claims ids h = claims_from (empty_world ids) 0 [] h

-- what a task weighs where there are so many tracks: more than what it queues, and `Resume` more than all the tracks that it may wake. A
-- report queues its event and a `Resume`
abbrev pub task_weight : ℕ → QueuedTask → ℕ
task_weight many (Reject p error) = 1
task_weight many (RequestDone n kids p) = 2
task_weight many (UpdateDone n changed p) = 2 * many + 3
task_weight many (CloseDone n p) = 2 * many + 3
task_weight many (RemoveDone n p) = 2 * many + 3
task_weight many (Evicted n) = 2 * many + 3
task_weight many (Report n) = 2 * many + 3
task_weight many (Fire event) = 1
task_weight many Resume = 2 * many + 1

-- what a job weighs: more than the task that it queues
abbrev pub job_weight : ℕ → QueuedJob → ℕ
job_weight many (Request n kind init p) = 3
job_weight many (Update n response p) = 2 * many + 4
job_weight many (Close n p) = 2 * many + 4
job_weight many (Remove n p) = 2 * many + 4

-- all that is queued
abbrev pub queue_weight : ℕ → Machine → ℕ
queue_weight many m = sum_by (job_weight many) m.jobs + sum_by (task_weight many) m.tasks

-- a track that is awake may begin to wait, which queues an event
abbrev pub awake_weight : TrackState → ℕ
awake_weight t = if t.waiting then 0 else 2

-- the samples of a track that are fed and not out
abbrev pub samples_left : TrackState → List EncSample
samples_left t = drop t.published t.fed

-- how many these are
abbrev pub many_left : TrackState → ℕ
many_left t = length (samples_left t)

-- a sample that is not out weighs two, and one where a live claim is on it; the first of these has the index
abbrev pub weigh : (ℕ → Bool) → ℕ → List EncSample → ℕ
weigh claimed index [] = 0
weigh claimed index (x ∷ xs) = (if claimed index then 1 else 2) + weigh claimed (index + 1) xs

abbrev pub sample_weight : List ClaimState → TrackState → ℕ
sample_weight claims t = weigh (claimed_in claims t.id) t.published (samples_left t)

-- where there are so many tracks: of two worlds the one with less queued work, or with as much and fewer samples left, has less left to
-- do. Queued work outweighs whatever it may make of the claims
abbrev pub left_with : ℕ → World → List ClaimState → ℕ
left_with many w claims = (queue_weight many w.machine + sum_by awake_weight w.tracks) * (2 * sum_by many_left w.tracks + 1) + sum_by (sample_weight claims) w.tracks

-- what is left to do after a history
unfoldable pub work_left : List ℕ → List Entry → ℕ
work_left ids h = left_with (length ids) (world ids h) (live_claims ids h)
