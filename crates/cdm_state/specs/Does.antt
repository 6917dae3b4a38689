-- What each call of the core answers and leaves, refusals and their causes among them.
use Rattle.std.specs.Prelude.{◌≡◌, ℕ, ◌+◌, ◌↔◌, Bool, List, [], OnOk, OnErr, IfOk, IfErr, IsErrOf, Result, Option}
use Rattle.eme_types.specs.declared.call.AppCall.{AppCall}
use Rattle.eme_types.specs.declared.media.Fragment.{Fragment}
use Rattle.eme_types.specs.declared.entry.Entry.TheVariants.{Call, Job, Task, Tick, Feed, Evict, GiveUp, Publish, PassClear, WaitForKey, Settle}
use Rattle.key_sessions.specs.declared.fault.StepFault.{StepFault}
use Rattle.key_sessions.specs.declared.fault.StepFault.TheVariants.{Empty}
use Rattle.key_sessions.specs.Evict.{evicts}
use Rattle.key_claims.specs.declared.claim.Claim.{Claim}
use Rattle.key_claims.specs.declared.claim.ClaimFault.{ClaimFault}
use Rattle.key_claims.specs.declared.claim.ClaimFault.TheVariants.{NoWork}
use Rattle.key_claims.specs.declared.claim.Delivered.{Delivered}
use Rattle.key_claims.specs.declared.claim.Published.{Published}
use Rattle.key_claims.specs.declared.claim.NotReady.{NotReady}
use Rattle.key_claims.specs.declared.claim.NotWaiting.{NotWaiting}
use Rattle.std.specs.declared.alloc.AllocError.{AllocError}
use Rattle.cdm_state.specs.declared.cdm.CallBack.{CallBack}
use Rattle.cdm_state.specs.declared.cdm.FeedBack.{FeedBack}
use Rattle.cdm_state.specs.declared.cdm.EvictBack.{EvictBack}
use Rattle.cdm_state.specs.declared.cdm.SettleFault.{SettleFault}
use Rattle.cdm_state.specs.History.{world, AtRest, MayClaim, MayPublish, MayPassClear, MayWait}
use Rattle.cdm_state.specs.Settlements.{calls_in}
use Rattle.cdm_state.specs.Contract.{Claims, ComesFirst, Delivers, HasNotSettled}
use Rattle.cdm_state.specs.Run.{Run, with_entry}

-- a call of the application: its entry, and the number of its promise; where memory is wanting the call is handed back
pub record CallDoes (lane line : ℕ) (call : AppCall) (old : Run) (result : Result ℕ CallBack) (new : Run) : Type 0 where
  pub ok : OnOk result (new ≡ with_entry old (Call lane line call))
  pub number : IfOk result (λ p. p ≡ calls_in old.history + 1)
  pub err : OnErr result (new ≡ old)
  pub back : IfErr result (λ b. b.call ≡ call)

-- the front job runs; it is refused as empty just where no job is queued
pub record JobDoes (old : Run) (result : Result (Unit {0}) StepFault) (new : Run) : Type 0 where
  pub ok : OnOk result (new ≡ with_entry old Job)
  pub err : OnErr result (new ≡ old)
  pub empty : IsErrOf result Empty ↔ ((world old.tracks old.history).machine.jobs ≡ [])

-- a sample is claimed; that there is no work is said only where no sample may be claimed
pub record ClaimDoes (worker : ℕ) (old : Run) (result : Result Claim ClaimFault) (new : Run) : Type 0 where
  pub ok : IfOk result (λ c. Claims old worker c new)
  pub err : OnErr result (new ≡ old)
  pub no_work : IsErrOf result NoWork → (track index session : ℕ) (kid : List ℕ) → MayClaim old.tracks old.history track index session kid → ⊥

-- the first track that may publish gives its next sample out; it is refused only where none may
pub record PublishDoes (old : Run) (result : Result Published NotReady) (new : Run) : Type 0 where
  pub ok : IfOk result (λ p. (place : ℕ) × (new ≡ with_entry old (Publish p.track p.index place)))
  pub first : IfOk result (λ p. (track index place : ℕ) → MayPublish old.tracks old.history track index place → ComesFirst old.tracks p.track track)
  pub err : OnErr result (new ≡ old)
  pub not_ready : OnErr result ((track index place : ℕ) → MayPublish old.tracks old.history track index place → ⊥)

-- the moment is set, where memory is there
pub record TickDoes (line moment : ℕ) (old : Run) (result : Result (Unit {0}) AllocError) (new : Run) : Type 0 where
  pub ok : OnOk result (new ≡ with_entry old (Tick line moment))
  pub err : OnErr result (new ≡ old)

-- a fragment is fed, or none is left; where memory is wanting the fragment is handed back
pub record FeedDoes (line : ℕ) (fragment : Option Fragment) (old : Run) (result : Result (Unit {0}) FeedBack) (new : Run) : Type 0 where
  pub ok : OnOk result (new ≡ with_entry old (Feed line fragment))
  pub err : OnErr result (new ≡ old)
  pub back : IfErr result (λ b. b.fragment ≡ fragment)

-- the CDM ends the session with the label, where it is neither closing nor closed, and it is told whether it was; where memory is wanting the label is handed back
pub record EvictDoes (line : ℕ) (label : List ℕ) (old : Run) (result : Result Bool EvictBack) (new : Run) : Type 0 where
  pub ok : OnOk result (new ≡ with_entry old (Evict line label))
  pub evicted : IfOk result (λ b. b ≡ evicts label (world old.tracks old.history).machine)
  pub err : OnErr result (new ≡ old)
  pub back : IfErr result (λ b. b.label ≡ label)

-- the clear bytes of the claim at a place come back
abbrev pub DeliverDoes : ℕ → List ℕ → Run → Delivered → Run → Type 0
DeliverDoes place clear old result new = Delivers old place clear result new

-- the claim at a place is given up
abbrev pub GiveUpDoes : ℕ → Run → Unit {0} → Run → Type 0
GiveUpDoes place old none new = new ≡ with_entry old (GiveUp place)

-- the first track whose next sample is unprotected gives it out; it is refused only where there is none
pub record PassClearDoes (old : Run) (result : Result Published NotReady) (new : Run) : Type 0 where
  pub ok : IfOk result (λ p. new ≡ with_entry old (PassClear p.track p.index))
  pub first : IfOk result (λ p. (track index : ℕ) → MayPassClear old.tracks old.history track index → ComesFirst old.tracks p.track track)
  pub err : OnErr result (new ≡ old)
  pub not_ready : OnErr result ((track index : ℕ) → MayPassClear old.tracks old.history track index → ⊥)

-- all has settled, or why it has not
pub record SettleDoes (line : ℕ) (old : Run) (result : Result (Unit {0}) SettleFault) (new : Run) : Type 0 where
  pub ok : OnOk result (new ≡ with_entry old (Settle line))
  pub rest : OnOk result (AtRest (world old.tracks old.history))
  pub fault : IfErr result (HasNotSettled (world old.tracks old.history))
  pub err : OnErr result (new ≡ old)

-- the front task runs; it is refused as empty just where no task is queued
pub record TaskDoes (old : Run) (result : Result (Unit {0}) StepFault) (new : Run) : Type 0 where
  pub ok : OnOk result (new ≡ with_entry old Task)
  pub err : OnErr result (new ≡ old)
  pub empty : IsErrOf result Empty ↔ ((world old.tracks old.history).machine.tasks ≡ [])

-- the first track that may wait begins to; it is refused only where none may
pub record WaitDoes (old : Run) (result : Result ℕ NotWaiting) (new : Run) : Type 0 where
  pub ok : IfOk result (λ t. new ≡ with_entry old (WaitForKey t))
  pub first : IfOk result (λ t. (track : ℕ) → MayWait old.tracks old.history track → ComesFirst old.tracks t track)
  pub err : OnErr result (new ≡ old)
  pub not_waiting : OnErr result ((track : ℕ) → MayWait old.tracks old.history track → ⊥)
