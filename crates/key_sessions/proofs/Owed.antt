-- Promises and the work that owes them.
use Rattle.std.proofs.Common.{zero, suc, ◌≡◌, ℕ, ◌+◌, ◌<◌, ◌≤◌, inl, inr, Bool, true, false, List, [], ◌∷◌, ◌++◌, length, Option, Some, None, refl, ap, sym, ◌∙◌, arith}
use Rattle.std.specs.Prelude.{slice_get, slice_set, if◌then◌else◌}
use Rattle.std.proofs.lemmas.Bool.Decides.{eqb_tells}
use Rattle.eme_types.specs.declared.call.Settled.{Settled}
use Rattle.eme_types.specs.declared.call.Effect.{Effect}
use Rattle.eme_types.specs.declared.call.Effect.TheVariants.{Promise}
use Rattle.task_queue.specs.declared.work.Job.{Job}
use Rattle.task_queue.specs.declared.work.Task.{Task}
use Rattle.task_queue.specs.declared.work.Task.TheVariants.{Report}
use Rattle.task_queue.specs.Pending.{IsPending, settle_in}
use Rattle.key_sessions.specs.Machine.{SessionState}
use Rattle.key_sessions.specs.Tasks.{reports_from, is_reported}
use Rattle.key_sessions.specs.Owed.{one_if, job_owes, jobs_owe, tasks_owe, pending_here, pending, settles, times_settled}

pub one_same : (p : ℕ) → one_if p p ≡ 1
one_same p = elim (eqb_tells p p) [ inl e ↦ rw e.0 refl | inr e ↦ absurd (e.1 refl) ]

pub one_other : (q p : ℕ) → (q ≡ p → ⊥) → one_if q p ≡ 0
one_other q p ne = elim (eqb_tells q p) [ inl e ↦ absurd (ne e.1) | inr e ↦ rw e.0 refl ]

pub one_within : (q p : ℕ) → one_if q p ≤ 1
one_within q p = elim (eqb_tells q p) [ inl e ↦ rw e.0 (omega arith) | inr e ↦ rw e.0 (omega arith) ]

pub times_one : (p q : ℕ) (how : Settled) → times_settled p (Promise q how ∷ []) ≡ one_if q p
times_one p q how = elim (eqb_tells q p) [ inl e ↦ rw e.0 refl | inr e ↦ rw e.0 refl ]

pub times_more : (p : ℕ) (xs ys : List Effect) → times_settled p (xs ++ ys) ≡ times_settled p xs + times_settled p ys
times_more p [] ys = omega arith
times_more p (x ∷ xs) ys = go (settles p x) (times_more p xs ys) where
  go : (b : Bool) → times_settled p (xs ++ ys) ≡ times_settled p xs + times_settled p ys → (if b then 1 + times_settled p (xs ++ ys) else times_settled p (xs ++ ys)) ≡ (if b then 1 + times_settled p xs else times_settled p xs) + times_settled p ys
  go true rest = omega (arith, rest)
  go false rest = rest

pub jobs_more : (p : ℕ) (jobs : List Job) (job : Job) → jobs_owe p (jobs ++ job ∷ []) ≡ jobs_owe p jobs + job_owes p job
jobs_more p [] job = omega arith
jobs_more p (j ∷ js) job = omega (arith, jobs_more p js job)

pub tasks_more : (p : ℕ) (ts us : List Task) → tasks_owe p (ts ++ us) ≡ tasks_owe p ts + tasks_owe p us
tasks_more p [] us = omega arith
tasks_more p (t ∷ ts) us = omega (arith, tasks_more p ts us)

here_within : (o : Option (Option Settled)) → pending_here o ≤ 1
here_within None = omega arith
here_within (Some None) = omega arith
here_within (Some (Some how)) = omega arith

pub pending_within : (ps : List (Option Settled)) (p : ℕ) → pending ps p ≤ 1
pending_within ps zero = omega arith
pending_within ps (suc i) = here_within (slice_get ps i)

-- one more promise, already settled
settled_at : (ps : List (Option Settled)) (how : Settled) (i : ℕ) → pending_here (slice_get (ps ++ Some how ∷ []) i) ≡ pending_here (slice_get ps i)
settled_at [] how zero = refl
settled_at [] how (suc i) = refl
settled_at (p ∷ ps) how zero = refl
settled_at (p ∷ ps) how (suc i) = settled_at ps how i

pub pending_done : (ps : List (Option Settled)) (how : Settled) (p : ℕ) → pending (ps ++ Some how ∷ []) p ≡ pending ps p
pending_done ps how zero = refl
pending_done ps how (suc i) = settled_at ps how i

suc_one : (a b : ℕ) → one_if (suc a) (suc b) ≡ one_if a b
suc_one a b = elim (eqb_tells a b) [ inl e ↦ rw e.0 (rw e.1 (one_same (suc b))) | inr e ↦ rw e.0 (one_other (suc a) (suc b) (λ s. e.1 (omega arith))) ]

-- one more promise, that is pending
pending_at : (ps : List (Option Settled)) (i : ℕ) → pending_here (slice_get (ps ++ None ∷ []) i) ≡ pending_here (slice_get ps i) + one_if (length ps) i
pending_at [] zero = refl
pending_at [] (suc i) = sym (one_other 0 (suc i) (λ e. absurd (omega arith))) ∙ omega arith
pending_at (p ∷ ps) zero = (let z : one_if (suc (length ps)) 0 ≡ 0 = one_other (suc (length ps)) 0 (λ e. absurd (omega arith)) in omega (arith, z))
pending_at (p ∷ ps) (suc i) = pending_at ps i ∙ ap (λ n. pending_here (slice_get ps i) + n) (sym (suc_one (length ps) i))

pub pending_new : (ps : List (Option Settled)) (p : ℕ) → pending (ps ++ None ∷ []) p ≡ pending ps p + one_if (length ps + 1) p
pending_new ps zero = (let z : one_if (length ps + 1) 0 ≡ 0 = one_other (length ps + 1) 0 (λ e. absurd (omega arith)) in omega (arith, z))
pending_new ps (suc i) =
    let s : length ps + 1 ≡ suc (length ps) = omega arith in
    pending_at ps i ∙ ap (λ n. pending_here (slice_get ps i) + n) (sym (suc_one (length ps) i) ∙ ap (λ n. one_if n (suc i)) (sym s))

-- a pending promise is settled
settled_here : (ps : List (Option Settled)) (i j : ℕ) (how : Settled) → pending_here (slice_get ps i) ≡ 1 → pending_here (slice_get (slice_set ps i (Some how)) j) + one_if i j ≡ pending_here (slice_get ps j)
settled_here [] i j how one = absurd cc
settled_here (p ∷ ps) zero zero how one = omega (arith, one, one_same 0)
settled_here (p ∷ ps) zero (suc j) how one = omega (arith, one_other 0 (suc j) (λ e. absurd (omega arith)))
settled_here (p ∷ ps) (suc i) zero how one = omega (arith, one_other (suc i) 0 (λ e. absurd (omega arith)))
settled_here (p ∷ ps) (suc i) (suc j) how one = omega (arith, settled_here ps i j how one, suc_one i j)

pub pending_settled : (ps : List (Option Settled)) (p q : ℕ) (how : Settled) → pending ps p ≡ 1 → pending (settle_in ps p how) q + one_if p q ≡ pending ps q
pending_settled ps zero q how one = absurd (omega (arith, one))
pending_settled ps (suc i) zero how one = omega (arith, one_other (suc i) 0 (λ e. absurd (omega arith)))
pending_settled ps (suc i) (suc j) how one = omega (arith, settled_here ps i j how one, suc_one i j)

pub length-settle_in : (ps : List (Option Settled)) (p : ℕ) (how : Settled) → length (settle_in ps p how) ≡ length ps
length-settle_in ps zero how = refl
length-settle_in ps (suc i) how = go ps i where
  go : (ps : List (Option Settled)) (i : ℕ) → length (slice_set ps i (Some how)) ≡ length ps
  go [] i = refl
  go (p ∷ ps) zero = refl
  go (p ∷ ps) (suc i) = ap suc (go ps i)

pub reports_owe : (p old new n : ℕ) (ss : List SessionState) → tasks_owe p (reports_from old new n ss) ≡ 0
reports_owe p old new n [] = refl
reports_owe p old new n (s ∷ ss) = go (is_reported old new s) (reports_owe p old new (n + 1) ss) where
  go : (b : Bool) → tasks_owe p (reports_from old new (n + 1) ss) ≡ 0 → tasks_owe p (if b then Report n ∷ reports_from old new (n + 1) ss else reports_from old new (n + 1) ss) ≡ 0
  go true rest = omega (arith, rest)
  go false rest = rest

-- where work owes it, the promise is pending
pub pending_some : (ps : List (Option Settled)) (p n : ℕ) → n ≡ pending ps p → 0 < n → IsPending ps p
pending_some ps zero n e lt = absurd (omega arith)
pending_some ps (suc i) n e lt = go (slice_get ps i) e where
  go : (o : Option (Option Settled)) → n ≡ pending_here o → o ≡ Some None
  go None e = absurd (omega arith)
  go (Some None) e = refl
  go (Some (Some how)) e = absurd (omega arith)
