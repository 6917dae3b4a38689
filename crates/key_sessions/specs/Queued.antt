-- Whose queued work is: each job and task is of a session that is there.
use Rattle.std.specs.Prelude.{ℕ, ◌≤◌, ◌<◌, length}
use Rattle.cdm_world.specs.In.{In}
use Rattle.task_queue.specs.declared.work.Job.{Job}
use Rattle.task_queue.specs.declared.work.Task.{Task}
use Rattle.task_queue.specs.declared.work.Task.TheVariants.{RequestDone, UpdateDone, CloseDone, RemoveDone, Evicted}
use Rattle.key_sessions.specs.Machine.{Machine}
use Rattle.key_sessions.specs.Jobs.{job_session}

-- one of so many sessions has the number
abbrev pub IsNumber : ℕ → ℕ → Type 0
IsNumber count n = (1 ≤ n) × (n ≤ count)

-- the session of the job is one of so many
abbrev pub IsJobOf : ℕ → Job → Type 0
IsJobOf count job = IsNumber count (job_session job)

-- a request that is done names a key id; the session of an update, a close or a removal that is done, or of an eviction, is one of so many
abbrev pub IsTaskOf : ℕ → Task → Type 0
IsTaskOf count (RequestDone n kids p) = 0 < length kids
IsTaskOf count (UpdateDone n changed p) = IsNumber count n
IsTaskOf count (CloseDone n p) = IsNumber count n
IsTaskOf count (RemoveDone n p) = IsNumber count n
IsTaskOf count (Evicted n) = IsNumber count n
IsTaskOf count task = Unit {0}

-- the sessions of the queued jobs and tasks are there
pub record AreThere (m : Machine) : Type 0 where
  pub jobs : (job : Job) → In m.jobs job → IsJobOf (length m.sessions) job
  pub tasks : (task : Task) → In m.tasks task → IsTaskOf (length m.sessions) task
