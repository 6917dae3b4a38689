-- The queued work of the sessions ends: each step makes it lighter, and when it is served nothing is left.
use Rattle.std.proofs.Common.{zero, suc, ◌≡◌, ℕ, ◌+◌, ◌≤◌, ◌⊎◌, inl, inr, List, [], ◌∷◌, ◌++◌, length, refl, ap, sym, subst, ◌∙◌, arith}
use Rattle.std.specs.List.{sum_by}
use Rattle.std.proofs.lemmas.List.{append-nil}
use Rattle.std.proofs.lemmas.List.Sums.{sum_by-cons}
use Rattle.eme_types.specs.declared.call.Effect.{Effect}
use Rattle.task_queue.specs.declared.work.Job.{Job}
use Rattle.task_queue.specs.declared.work.Task.{Task}
use Rattle.key_sessions.specs.Machine.{Machine}
use Rattle.key_sessions.specs.Steps.{Done, unmoved}
use Rattle.key_sessions.specs.Jobs.{take_job}
use Rattle.key_sessions.specs.Tasks.{take_task}
use Rattle.serial_play.specs.Served.{IsIdle, and_then, front_step, next_step, task_weight, weight, serve, served}
use Rattle.serial_play.proofs.JobSteps.{JobLeaves, job_leaves}
use Rattle.serial_play.proofs.TaskSteps.{TaskLeaves, task_leaves}

-- ---- the weight

last_lighter : (m d : Machine) (job : Job) (js : List Job) → m.jobs ≡ job ∷ js → JobLeaves (record m { jobs = js }) d → weight d + 1 ≤ weight m
last_lighter m d job js is leaves =
    let jobs : length d.jobs ≡ length js = ap length leaves.jobs in
    let were : length m.jobs ≡ length js + 1 = ap length is ∙ omega arith in
    omega (arith, leaves.light, jobs, were)

job_lighter : (m : Machine) (job : Job) (js : List Job) → m.jobs ≡ job ∷ js → weight (take_job (job ∷ js) m) + 1 ≤ weight m
job_lighter m job js is = last_lighter m (take_job (job ∷ js) m) job js is (job_leaves (record m { jobs = js }) job)

front_lighter : (m d : Machine) (task : Task) (ts : List Task) → m.tasks ≡ task ∷ ts → TaskLeaves (record m { tasks = ts }) task d → weight d + 1 ≤ weight m
front_lighter m d task ts is leaves =
    let jobs : length d.jobs ≡ length m.jobs = ap length leaves.jobs in
    let were : sum_by task_weight m.tasks ≡ task_weight task + sum_by task_weight ts = ap (sum_by task_weight) is ∙ sum_by-cons task_weight task ts in
    omega (arith, leaves.light, jobs, were)

task_lighter : (m : Machine) (task : Task) (ts : List Task) → m.tasks ≡ task ∷ ts → weight (take_task (task ∷ ts) m).machine + 1 ≤ weight m
task_lighter m task ts is = front_lighter m (take_task (task ∷ ts) m).machine task ts is (task_leaves (record m { tasks = ts }) task)

-- nothing is left to do, or the next step makes it less
idle_or_tasks : (m : Machine) (ts : List Task) → m.jobs ≡ [] → m.tasks ≡ ts → IsIdle m ⊎ (weight (take_task ts m).machine + 1 ≤ weight m)
idle_or_tasks m [] jobs tasks = inl (record { jobs = jobs; tasks = tasks })
idle_or_tasks m (task ∷ ts) jobs tasks = inr (task_lighter m task ts tasks)

idle_or_jobs : (m : Machine) (js : List Job) → m.jobs ≡ js → IsIdle m ⊎ (weight (front_step js m).machine + 1 ≤ weight m)
idle_or_jobs m [] jobs = idle_or_tasks m m.tasks jobs refl
idle_or_jobs m (job ∷ js) jobs = inr (subst (λ (ks : List Job). weight (take_job ks m) + 1 ≤ weight m) (sym jobs) (job_lighter m job js jobs))

pub idle_or_lighter : (m : Machine) → IsIdle m ⊎ (weight (next_step m).machine + 1 ≤ weight m)
idle_or_lighter m = idle_or_jobs m m.jobs refl

pub lighter : (m : Machine) → (IsIdle m → ⊥) → weight (next_step m).machine + 1 ≤ weight m
lighter m busy = elim (idle_or_lighter m) [ inl idle ↦ absurd (busy idle) | inr less ↦ less ]

-- ---- where nothing is left to do

idle_step : (m : Machine) → IsIdle m → next_step m ≡ unmoved m
idle_step m idle = ap (λ (js : List Job). front_step js m) idle.jobs ∙ ap (λ (ts : List Task). take_task ts m) idle.tasks

and_nothing : (d : Done) → and_then d unmoved ≡ d
and_nothing d = ap (λ (xs : List Effect). let e : Done = record { machine = d.machine; effects = xs } in e) (append-nil d.effects)

idle_then : (d : Done) → IsIdle d.machine → and_then d next_step ≡ d
idle_then d idle = ap (λ (e : Done). let f : Done = record { machine = e.machine; effects = d.effects ++ e.effects } in f) (idle_step d.machine idle) ∙ and_nothing d

serve_idle : (n : ℕ) (d : Done) → IsIdle d.machine → serve n d ≡ d
unfolding serve
serve_idle zero d idle = refl
serve_idle (suc n) d idle = ap (serve n) (idle_then d idle) ∙ serve_idle n d idle

pub served_idle : (d : Done) → IsIdle d.machine → served d ≡ d
served_idle d idle = serve_idle (weight d.machine) d idle

-- ---- enough steps

weight_none : (m : Machine) → weight m ≤ 0 → IsIdle m
weight_none m none = elim (idle_or_lighter m) [ inl idle ↦ idle | inr less ↦ absurd (omega (arith, none, less)) ]

-- more steps than the weight change nothing
serve_same : (n k : ℕ) (d : Done) → weight d.machine ≤ n → weight d.machine ≤ k → serve n d ≡ serve k d
unfolding serve
serve_same zero k d first second = sym (serve_idle k d (weight_none d.machine first))
serve_same (suc n) zero d first second = serve_idle (suc n) d (weight_none d.machine second)
serve_same (suc n) (suc k) d first second = elim (idle_or_lighter d.machine) [
  | inl idle ↦ serve_idle (suc n) d idle ∙ sym (serve_idle (suc k) d idle)
  | inr less ↦ serve_same n k (and_then d next_step) (omega (arith, first, less)) (omega (arith, second, less))
]

pub serve_enough : (n : ℕ) (d : Done) → weight d.machine ≤ n → serve n d ≡ served d
serve_enough n d enough = serve_same n (weight d.machine) d enough (omega arith)

-- one step first changes nothing
more_step : (n : ℕ) (d : Done) → weight d.machine ≤ n → serve (suc n) d ≡ served (and_then d next_step)
unfolding serve
more_step n d enough = serve_enough n (and_then d next_step) (elim (idle_or_lighter d.machine) [
  | inl idle ↦ subst (λ (e : Done). weight e.machine ≤ n) (sym (idle_then d idle)) enough
  | inr less ↦ omega (arith, enough, less)
])

pub served_step : (d : Done) → served d ≡ served (and_then d next_step)
served_step d = sym (serve_enough (suc (weight d.machine)) d (omega arith)) ∙ more_step (weight d.machine) d (omega arith)

-- ---- what is left

serve_idles : (n : ℕ) (d : Done) → weight d.machine ≤ n → IsIdle (serve n d).machine
unfolding serve
serve_idles zero d enough = weight_none d.machine enough
serve_idles (suc n) d enough = elim (idle_or_lighter d.machine) [
  | inl idle ↦ subst (λ (e : Done). IsIdle e.machine) (sym (serve_idle (suc n) d idle)) idle
  | inr less ↦ serve_idles n (and_then d next_step) (omega (arith, enough, less))
]

pub serves_all : (d : Done) → IsIdle (served d).machine
serves_all d = serve_idles (weight d.machine) d (omega arith)

-- what each step keeps is so at the end
serve_keeps : (P : Machine → Type 0) → ((m : Machine) → P m → P (next_step m).machine) → (n : ℕ) (d : Done) → P d.machine → P (serve n d).machine
unfolding serve
serve_keeps P keeps zero d holds = holds
serve_keeps P keeps (suc n) d holds = serve_keeps P keeps n (and_then d next_step) (keeps d.machine holds)

pub served_keeps : (P : Machine → Type 0) → ((m : Machine) → P m → P (next_step m).machine) → (d : Done) → P d.machine → P (served d).machine
served_keeps P keeps d holds = serve_keeps P keeps (weight d.machine) d holds
