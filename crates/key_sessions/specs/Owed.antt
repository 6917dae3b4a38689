-- The work that owes promises: each pending promise is answered by exactly one queued job or task.
use Rattle.std.specs.Prelude.{zero, suc, ℕ, ◌+◌, ◌≡◌, ◌==◌, Bool, false, if◌then◌else◌, List, [], ◌∷◌, Option, Some, None, slice_get, length}
use Rattle.eme_types.specs.declared.call.Settled.{Settled}
use Rattle.eme_types.specs.declared.call.Effect.{Effect}
use Rattle.eme_types.specs.declared.call.Effect.TheVariants.{Statuses, Closed, Promise, Fired}
use Rattle.task_queue.specs.declared.work.Job.{Job}
use Rattle.task_queue.specs.declared.work.Job.TheVariants.{Request, Update, Close, Remove}
use Rattle.task_queue.specs.declared.work.Task.{Task}
use Rattle.task_queue.specs.declared.work.Task.TheVariants.{Reject, RequestDone, UpdateDone, CloseDone, RemoveDone, Evicted, Report, Fire, Resume}
use Rattle.key_sessions.specs.Machine.{Machine}
use Rattle.key_sessions.specs.Steps.{Done}

-- 1 where the numbers are the same, else 0
abbrev pub one_if : ℕ → ℕ → ℕ
one_if q p = if q == p then 1 else 0

-- how often a job names the promise
abbrev pub job_owes : ℕ → Job → ℕ
job_owes p (Request n kind init q) = one_if q p
job_owes p (Update n response q) = one_if q p
job_owes p (Close n q) = one_if q p
job_owes p (Remove n q) = one_if q p

-- how often a task names the promise
abbrev pub task_owes : ℕ → Task → ℕ
task_owes p (Reject q error) = one_if q p
task_owes p (RequestDone n kids q) = one_if q p
task_owes p (UpdateDone n changed q) = one_if q p
task_owes p (CloseDone n q) = one_if q p
task_owes p (RemoveDone n q) = one_if q p
task_owes p (Evicted n) = 0
task_owes p (Report n) = 0
task_owes p (Fire event) = 0
task_owes p Resume = 0

-- how often the jobs name the promise
abbrev pub jobs_owe : ℕ → List Job → ℕ
jobs_owe p [] = 0
jobs_owe p (job ∷ jobs) = job_owes p job + jobs_owe p jobs

-- how often the tasks name the promise
abbrev pub tasks_owe : ℕ → List Task → ℕ
tasks_owe p [] = 0
tasks_owe p (task ∷ tasks) = task_owes p task + tasks_owe p tasks

-- 1 where the promise is there and pending, else 0
abbrev pub pending_here : Option (Option Settled) → ℕ
pending_here None = 0
pending_here (Some None) = 1
pending_here (Some (Some how)) = 0

-- 1 for a pending promise; else, also where there is none of that number, 0
abbrev pub pending : List (Option Settled) → ℕ → ℕ
pending ps zero = 0
pending ps (suc i) = pending_here (slice_get ps i)

-- each pending promise stands in exactly one queued job or task, and a settled one in none
abbrev pub IsOwed : Machine → Type 0
IsOwed m = (p : ℕ) → jobs_owe p m.jobs + tasks_owe p m.tasks ≡ pending m.promises p

-- the effect settles the promise
abbrev pub settles : ℕ → Effect → Bool
settles p (Statuses n list) = false
settles p (Closed n reason) = false
settles p (Promise q how) = q == p
settles p (Fired event) = false

-- how often these effects settle the promise
abbrev pub times_settled : ℕ → List Effect → ℕ
times_settled p [] = 0
times_settled p (x ∷ xs) = if settles p x then 1 + times_settled p xs else times_settled p xs

-- a call: one more promise, which is settled at once or owed
pub record Asked (m : Machine) (d : Done) : Type 0 where
  pub owed : IsOwed m → IsOwed d.machine
  pub balance : (p : ℕ) → times_settled p d.effects + pending d.machine.promises p ≡ pending m.promises p + one_if (length m.promises + 1) p
  pub more : length d.machine.promises ≡ length m.promises + 1

-- any other step settles just what is no longer pending
pub record Steady (m : Machine) (d : Done) : Type 0 where
  pub owed : IsOwed d.machine
  pub balance : (p : ℕ) → times_settled p d.effects + pending d.machine.promises p ≡ pending m.promises p
  pub more : length d.machine.promises ≡ length m.promises
