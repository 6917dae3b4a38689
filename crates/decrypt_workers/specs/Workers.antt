-- What a worker does in all.
use Rattle.std.specs.Prelude.{◌≡◌, ℕ, List, [], ◌∷◌, ◌++◌, Contains, Some, None}
use Rattle.std.specs.List.{All, sum_by}
use mathlib.Core.List.{IsPrefix}
use Rattle.eme_types.specs.declared.entry.Entry.{Entry}
use Rattle.eme_types.specs.declared.entry.Entry.TheVariants.{Claim, Deliver, GiveUp, Publish, PassClear}
use Rattle.decrypt_workers.specs.Desks.{Placed, EndsClaim}
use Rattle.decrypt_workers.specs.declared.worker.WorkEnd.{WorkEnd}
use Rattle.decrypt_workers.specs.declared.worker.WorkEnd.TheVariants.{Over, OutOfMemory}

-- the entry is one that the worker may make: a claim names it
abbrev pub IsOfWorker : ℕ → Entry → Type 0
IsOfWorker w (Claim worker track index session kid) = worker ≡ w
IsOfWorker w (Deliver place verdict) = Unit {0}
IsOfWorker w (GiveUp place) = Unit {0}
IsOfWorker w (Publish track index place) = Unit {0}
IsOfWorker w (PassClear track index) = Unit {0}
IsOfWorker w _ = ⊥

-- the entry is a claim
abbrev pub IsAnyClaim : Entry → Type 0
IsAnyClaim (Claim worker track index session kid) = Unit {0}
IsAnyClaim _ = ⊥

-- 1 where the entry gives a claim up, else 0
abbrev pub gives_up : Entry → ℕ
gives_up (GiveUp place) = 1
gives_up _ = 0

-- how many claims are given up
abbrev pub given_up : Placed → ℕ
given_up news = sum_by (λ x. gives_up x.1) news

-- these entries are a worker's: each claim among them is ended by one of them, and each of them that ends a claim ends one of them
pub record Worked (worker : ℕ) (news : Placed) : Type 0 where
  pub kinds : All (λ x. IsOfWorker worker x.1) news
  pub ended : (p : ℕ) (e : Entry) → Contains news (p, e) → IsAnyClaim e → (q : ℕ) × (x : Entry) × Contains news (q, x) × EndsClaim x p
  pub theirs : (q : ℕ) (x : Entry) (p : ℕ) → Contains news (q, x) → EndsClaim x p → (e : Entry) × Contains news (p, e) × IsAnyClaim e

-- what a worker added that gave no claim up
pub record Works (worker : ℕ) (s : List Entry) (o : Placed) (s' : List Entry) (o' : Placed) : Type 0 where
  pub news : Placed
  pub later : IsPrefix s s'
  pub own : o' ≡ o ++ news
  pub worked : Worked worker news
  pub none : given_up news ≡ 0

-- what a worker added that gave up its last claim: behind it stands nothing
pub record GivesUp (worker : ℕ) (s : List Entry) (o : Placed) (s' : List Entry) (o' : Placed) : Type 0 where
  pub news : Placed
  pub place : ℕ
  pub claim : ℕ
  pub later : IsPrefix s s'
  pub own : o' ≡ o ++ (news ++ (place, GiveUp claim) ∷ [])
  pub worked : Worked worker (news ++ (place, GiveUp claim) ∷ [])
  pub none : given_up news ≡ 0

-- by how the work has ended
abbrev pub WorksTo : {O S : Type 0} → ℕ → List Entry → Placed → List Entry → Placed → WorkEnd O S → Type 0
WorksTo worker s o s' o' (Over x) = Works worker s o s' o'
WorksTo worker s o s' o' (OutOfMemory (Some x)) = Works worker s o s' o'
WorksTo worker s o s' o' (OutOfMemory None) = GivesUp worker s o s' o'
