-- The runs of a walk, one turn at a time.
use Rattle.std.proofs.Common.{◌≡◌, ℕ, zero, suc, ◌+◌, ◌-◌, ◌<◌, ◌≤◌, min, Bool, false, List, [], ◌∷◌, refl, sym, ap, ◌∙◌, arith, subst, Some}
use Rattle.std.specs.Prelude.{⊤}
use Rattle.std.specs.Iterator.{MakesProgress, item_count}
use Rattle.pattern_map.specs.declared.range.ByteRange.{ByteRange}
use Rattle.pattern_map.specs.Walk.{runs_from, step_of}

-- a walk moves on
step_some : (run gap n : ℕ) → 0 < run → 0 < n → 0 < step_of run gap n
step_some run gap n some more = omega arith

-- more turns than bytes change nothing
runs_enough : (f g run gap a n : ℕ) (fresh : Bool) → 0 < run → n ≤ f → n ≤ g → runs_from f run gap a n fresh ≡ runs_from g run gap a n fresh
unfolding runs_from
runs_enough zero zero run gap a n fresh some p q = refl
runs_enough zero (suc g) run gap a zero fresh some p q = refl
runs_enough zero (suc g) run gap a (suc n) fresh some p q = absurd (omega arith)
runs_enough (suc f) zero run gap a zero fresh some p q = refl
runs_enough (suc f) zero run gap a (suc n) fresh some p q = absurd (omega arith)
runs_enough (suc f) (suc g) run gap a zero fresh some p q = refl
runs_enough (suc f) (suc g) run gap a (suc n) fresh some p q =
    let moves : 0 < step_of run gap (suc n) = step_some run gap (suc n) some (omega arith) in
    ap (λ (rs : List ByteRange). record { from = a; to = a + min run (suc n); fresh = fresh } ∷ rs)
    (runs_enough f g run gap (a + step_of run gap (suc n)) (suc n - step_of run gap (suc n)) false some (omega arith) (omega arith))

-- nothing is left
pub no_runs : (f run gap a : ℕ) (fresh : Bool) → runs_from f run gap a 0 fresh ≡ []
unfolding runs_from
no_runs zero run gap a fresh = refl
no_runs (suc f) run gap a fresh = refl

-- one turn
pub runs_next : (run gap a n : ℕ) (fresh : Bool) → 0 < run → 0 < n
    → runs_from n run gap a n fresh ≡ record { from = a; to = a + min run n; fresh = fresh } ∷ runs_from (n - step_of run gap n) run gap (a + step_of run gap n) (n - step_of run gap n) false
unfolding runs_from
runs_next run gap a zero fresh some more = absurd (omega arith)
runs_next run gap a (suc n) fresh some more =
    let moves : 0 < step_of run gap (suc n) = step_some run gap (suc n) some (omega arith) in
    ap (λ (rs : List ByteRange). record { from = a; to = a + min run (suc n); fresh = fresh } ∷ rs)
    (runs_enough n (suc n - step_of run gap (suc n)) run gap (a + step_of run gap (suc n)) (suc n - step_of run gap (suc n)) false some (omega arith) (omega arith))

-- a run of all bytes
pub one_run : (a n : ℕ) (fresh : Bool) → 0 < n → runs_from n n 0 a n fresh ≡ record { from = a; to = a + n; fresh = fresh } ∷ []
unfolding runs_from
one_run a n fresh some =
    let all : min n n ≡ n = omega arith in
    let none : n - step_of n 0 n ≡ 0 = omega arith in
    runs_next n 0 a n fresh some some
    ∙ rw (none, all) (ap (λ (rs : List ByteRange). record { from = a; to = a + n; fresh = fresh } ∷ rs) (no_runs 0 n 0 (a + step_of n 0 n) false))

-- a list with an item less
progress_at : (x : ByteRange) (t : List ByteRange) → MakesProgress (λ (s : List ByteRange). ⊤) (item_count {A = ByteRange} (λ (rest : List ByteRange). rest)) (x ∷ t) (Some x) t
progress_at x t = record { on = λ f. (tt, tt, omega arith); keeps = tt; rests = λ f. tt }

pub progress : (s t : List ByteRange) (x : ByteRange) → s ≡ x ∷ t → MakesProgress (λ (s : List ByteRange). ⊤) (item_count {A = ByteRange} (λ (rest : List ByteRange). rest)) s (Some x) t
progress s t x e = subst (λ (u : List ByteRange). MakesProgress (λ (s : List ByteRange). ⊤) (item_count {A = ByteRange} (λ (rest : List ByteRange). rest)) u (Some x) t) (sym e) (progress_at x t)
