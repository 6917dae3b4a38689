-- What the passes of the workers add.
use Rattle.std.specs.Prelude.{ℕ, ◌≡◌, ◌≤◌, List, Contains}
use Rattle.std.specs.List.{AllByRecursion}
use Rattle.eme_types.specs.declared.entry.Entry.{Entry}
use Rattle.eme_types.specs.declared.entry.Entry.TheVariants.{Claim, Deliver, GiveUp, Publish, PassClear}
use Rattle.decrypt_workers.specs.Desks.{Placed}
use Rattle.play_parts.specs.Parts.{AreEnded}

-- an entry of one of the workers 1 to k
abbrev pub IsOfCrew : ℕ → Entry → Type 0
IsOfCrew k (Claim worker track index session kid) = (1 ≤ worker) × (worker ≤ k)
IsOfCrew k (Deliver place verdict) = Unit {0}
IsOfCrew k (GiveUp place) = Unit {0}
IsOfCrew k (Publish track index place) = Unit {0}
IsOfCrew k (PassClear track index) = Unit {0}
IsOfCrew k e = ⊥

-- the entry at the place is a claim of the worker
abbrev pub IsClaimOf : ℕ → Placed → ℕ → Type 0
IsClaimOf worker news place = (track index session : ℕ) × (kid : List ℕ) × Contains news (place, Claim worker track index session kid)

-- what the workers 1 to k have added: they end each claim that they made and no other, and of each worker at most one is given up
pub record CrewIn (k : ℕ) (news : Placed) : Type 0 where
  pub kinds : AllByRecursion (λ x. IsOfCrew k x.1) news
  pub ended : AreEnded news
  pub theirs : (q place : ℕ) → Contains news (q, GiveUp place) → (worker : ℕ) × IsClaimOf worker news place
  pub few : (worker q r place other : ℕ) → Contains news (q, GiveUp place) → IsClaimOf worker news place → Contains news (r, GiveUp other) → IsClaimOf worker news other → q ≡ r
