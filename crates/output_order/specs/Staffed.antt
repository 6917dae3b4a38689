-- Which workers a history names.
use Rattle.std.specs.Prelude.{ℕ, ◌-◌, ◌≤◌, ◌≡◌, ◌==◌, Bool, false, List, slice_get, Option, Some, count_by}
use Rattle.eme_types.specs.declared.entry.Entry.{Entry}
use Rattle.eme_types.specs.declared.entry.Entry.TheVariants.{Claim, GiveUp}

-- an entry that names a worker names one of the workers 0 to n
abbrev pub NamesWorker : ℕ → Entry → Type 0
NamesWorker n (Claim worker track index session kid) = worker ≤ n
NamesWorker n e = Unit {0}

-- the entry is a claim of the worker
abbrev pub claims_as : ℕ → Option Entry → Bool
claims_as worker (Some (Claim claimant track index session kid)) = claimant == worker
claims_as worker e = false

-- the entry gives up a claim of the worker
abbrev pub gives_up : List Entry → ℕ → Entry → Bool
gives_up h worker (GiveUp place) = claims_as worker (slice_get h (place - 1))
gives_up h worker e = false

-- how many claims of the worker are given up
abbrev pub times_given_up : List Entry → ℕ → ℕ
times_given_up h worker = count_by (gives_up h worker) h

-- claims name workers 0 to n alone; worker 0 gives none up, and each other worker at most one
pub record IsStaffed (n : ℕ) (h : List Entry) : Type 0 where
  pub named : (i : ℕ) (e : Entry) → slice_get h i ≡ Some e → NamesWorker n e
  pub none_of_0 : times_given_up h 0 ≡ 0
  pub one_each : (worker : ℕ) → times_given_up h worker ≤ 1
