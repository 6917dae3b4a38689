-- The claims that the core keeps: just the live ones.
use Rattle.std.specs.Prelude.{ℕ, ◌≡◌, List, Contains, Option, Some, None}
use Rattle.eme_types.specs.declared.entry.Entry.{Entry}
use Rattle.eme_types.specs.declared.call.Effect.{Effect}
use Rattle.eme_types.specs.declared.entry.Entry.TheVariants.{Deliver}
use Rattle.eme_types.specs.declared.entry.Verdict.TheVariants.{Taken}
use Rattle.eme_types.specs.declared.sample.EncSample.{EncSample}
use Rattle.eme_types.specs.declared.sample.Protect.{Protect}
use Rattle.key_claims.specs.TracksState.{ClaimState}
use Rattle.key_claims.specs.Kept.{Once}
use Rattle.key_sessions.specs.World.{World}
use Rattle.cdm_state.specs.Slots.{entry_of}
use Rattle.cdm_world.specs.In.{In}
use Rattle.cdm_state.specs.History.{world, IsLegal, Live, LiveAs, Undelivered}
use Rattle.cdm_state.specs.Settlements.{effects_in}

-- a claim waits for its clear bytes, or they were delivered
abbrev pub ClearKept : List Entry → ℕ → Option (List ℕ) → Type 0
ClearKept h place None = Undelivered h place
ClearKept h place (Some bytes) = Contains h (Deliver place Taken)

pub record ClaimsKept (ids : List ℕ) (h : List Entry) (claims : List ClaimState) : Type 0 where
  pub live : (s : ClaimState) → In claims s → LiveAs ids h s.place (entry_of s) s.key
  pub all : (place : ℕ) → Live ids h place → (s : ClaimState) × In claims s × (s.place ≡ place)
  pub clear : (s : ClaimState) → In claims s → ClearKept h s.place s.clear
  pub once : Once claims

-- the history is legal, and what is kept is the state, the effects and the live claims after it
pub record LegalKept (ids : List ℕ) (h : List Entry) (did : List (List Effect)) (w : World) (live : List ClaimState) : Type 0 where
  pub legal : IsLegal ids h
  pub state : w ≡ world ids h
  pub effects : did ≡ effects_in ids h
  pub claims : ClaimsKept ids h live

-- the key id of a protected sample
pub record HasKid (sample : EncSample) (kid : List ℕ) : Type 0 where
  pub protect : Protect
  pub protected : sample.protect ≡ Some protect
  pub same : kid ≡ protect.kid
