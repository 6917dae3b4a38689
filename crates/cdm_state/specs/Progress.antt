-- A core that can do nothing more is at rest, and one at rest can do nothing more.
use Rattle.std.specs.Prelude.{ℕ, ◌≡◌, IsTrue, List, [], ◌++◌, slice_get, Some}
use Rattle.eme_types.specs.Fed.{are_distinct}
use Rattle.eme_types.specs.declared.entry.Entry.{Entry}
use Rattle.cdm_state.specs.History.{world, IsLegal, AtRest, Spends, Undelivered, MayClaim, MayPublish, MayPassClear, MayWait}

-- no claim waits for its delivery
abbrev pub NoneWaits : List Entry → Type 0
NoneWaits h = (place : ℕ) → Undelivered h place → ⊥

-- no job and no task is queued, no sample may come out or be claimed, and no track may begin to wait
pub record NothingToDo (ids : List ℕ) (h : List Entry) : Type 0 where
  pub jobs : (world ids h).machine.jobs ≡ []
  pub tasks : (world ids h).machine.tasks ≡ []
  pub publish : (track index place : ℕ) → MayPublish ids h track index place → ⊥
  pub pass : (track index : ℕ) → MayPassClear ids h track index → ⊥
  pub claim : (track index session : ℕ) (kid : List ℕ) → MayClaim ids h track index session kid → ⊥
  pub wait : (track : ℕ) → MayWait ids h track → ⊥

-- a legal history with nothing to do and no claim that waits for its delivery ends at rest
abbrev pub ComesToRest : Type 0
ComesToRest = (ids : List ℕ) (h : List Entry) → IsTrue (are_distinct ids) → IsLegal ids h → NoneWaits h → NothingToDo ids h → AtRest (world ids h)

-- after a legal history that ends at rest there is nothing to do
abbrev pub RestIsQuiet : Type 0
RestIsQuiet = (ids : List ℕ) (h : List Entry) → IsLegal ids h → AtRest (world ids h) → NothingToDo ids h

-- each of these entries delivers a claim or gives it up
abbrev pub SpendClaims : List Entry → Type 0
SpendClaims es = (n : ℕ) (e : Entry) → slice_get es n ≡ Some e → (place : ℕ) × Spends e place

-- what is at rest stays at rest while claims are delivered or given up
abbrev pub RestStays : Type 0
RestStays = (ids : List ℕ) (h es : List Entry) → AtRest (world ids h) → SpendClaims es → AtRest (world ids (h ++ es))
